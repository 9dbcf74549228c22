use Rattle.kms_signal.proofs.FenceLemmas.{make_stays_either}
use Rattle.kms_signal.proofs.fences.Fences.make.Goals as goal

pub returns-clause-stay : goal.returns-clause-stay
returns-clause-stay c = make_stays_either c.push.result c.args.self.now c.push.new.self c.args.id
    (rw c.self.view_is at c.push.ensures.slots) (rw c.self.view_is at c.push.ensures.err)

use Rattle.kms_signal.proofs.FenceLemmas.{signals, signal_stays}
use Rattle.kms_signal.proofs.fences.Fences.signal.Goals as goal

pub returns-clause-stay : goal.returns-clause-stay
returns-clause-stay c = rw (c.set.ensures, c.self.view_is) (signal_stays c.args.self.now c.args.id)

pub returns-clause-meant : goal.returns-clause-meant
returns-clause-meant c = rw (c.set.ensures, c.self.view_is) (signals c.args.self.now c.args.id)

use Rattle.std.proofs.Common.{rules}
use Rattle.std.proofs.iter.Serving.{serving}
use Rattle.kms_core.specs.Calls.{MayRead}
use Rattle.kms_device.proofs.Found.{may_read}
use Rattle.kms_device.proofs.Turning.{adds_of, reads_of, turn_of}
use Rattle.kms_device.proofs.device.Device.read_event.Goals as goal

pub turn-requires-clause-callable : goal.turn-requires-clause-callable
turn-requires-clause-callable g c = λ found finds.
    let may : MayRead found c.args.client = may_read c.args.self.now.script c.args.pass.now found finds c.args.client c.requires.whose
    c.requires.may in
    grind serving

pub turn-requires-clause-steps : goal.turn-requires-clause-steps
turn-requires-clause-steps g c = λ found left r finds called. adds_of c.args.pass.now.rank found left _
    (reads_of c.args.client c.args.pass.now.rank r c.requires.whose) (search rules)

pub returns : goal.returns
returns g c = turn_of _ _ _ _ _ _ _ _ c.turn.ensures (λ x y finds called. search rules)

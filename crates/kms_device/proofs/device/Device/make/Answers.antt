use Rattle.std.proofs.Common.{refl, rules, sym}
use Rattle.std.proofs.iter.Serving.{serving}
use Rattle.kms_core.specs.Calls.{MayMake}
use Rattle.kms_model.specs.declared.replies.Step.TheVariants as step
use Rattle.kms_device.proofs.Found.{may_make}
use Rattle.kms_device.proofs.Turning.{adds_of, one_if_ok, turn_of}
use Rattle.kms_device.proofs.device.Device.make.Goals as goal

pub turn-requires-clause-callable : goal.turn-requires-clause-callable
turn-requires-clause-callable g c = λ found finds.
    let may : MayMake found c.args.client = may_make c.args.self.now.script c.args.pass.now found finds c.args.client c.requires.whose
    c.requires.may in
    grind serving

pub turn-requires-clause-steps : goal.turn-requires-clause-steps
turn-requires-clause-steps g c = λ found left r finds called. adds_of c.args.pass.now.rank found left _
    (one_if_ok c.args.pass.now.rank r (step.Make c.args.client) refl (sym c.requires.whose)) (search rules)

pub returns : goal.returns
returns g c = turn_of _ _ _ _ _ _ _ _ c.turn.ensures (λ x y finds called. search rules)

use Rattle.std.proofs.Common.{refl, rules}
use Rattle.kms_model.specs.declared.replies.Step.TheVariants as step
use Rattle.kms_device.proofs.Turning.{adds_of, one_if, turn_of}
use Rattle.kms_device.proofs.device.Device.cleanup.Goals as goal

pub turn-requires-clause-steps : goal.turn-requires-clause-steps
turn-requires-clause-steps g c = λ found left r finds called. adds_of c.args.pass.now.rank found left _
    (one_if c.args.pass.now.rank r (step.Cleanup c.args.commit) refl refl) (search rules)

pub returns : goal.returns
returns g c = turn_of _ _ _ _ _ _ _ _ c.turn.ensures (λ x y finds called. search rules)

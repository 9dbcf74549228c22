use Rattle.std.proofs.Common.{◌≡◌, refl, rules}
use Rattle.std.proofs.iter.Serving.{serving}
use Rattle.kms_model.specs.declared.replies.Step.TheVariants as step
use Rattle.kms_core.specs.Decisions.{MayRefuse}
use Rattle.kms_core.specs.Decisions.{taker}
use Rattle.kms_core.specs.Run.{machine}
use Rattle.kms_device.proofs.Deciding.{may_refuse, the_taker}
use Rattle.kms_device.proofs.Turning.{adds_of, decides_of, turn_of}
use Rattle.kms_device.proofs.device.Device.refuse.Goals as goal

pub turn-requires-clause-callable : goal.turn-requires-clause-callable
turn-requires-clause-callable g c = λ found finds.
    let may : MayRefuse found c.args.t.0 c.args.used.now c.args.why = may_refuse c.args.self.now.script c.args.pass.now found finds c.args.t
    c.args.used.now c.args.why c.requires.may in
    grind serving

pub turn-requires-clause-steps : goal.turn-requires-clause-steps
turn-requires-clause-steps g c = λ found left r finds called.
    let same : taker (machine found) c.args.t.0 ≡ c.args.pass.now.rank = the_taker c.args.self.now.script c.args.pass.now found finds
    c.args.t c.args.used.now c.requires.may.request c.requires.may.deciding in
    adds_of c.args.pass.now.rank found left _ (decides_of c.args.pass.now.rank r (step.Refuse c.args.pass.now.rank) refl refl)
    (search rules)

pub returns : goal.returns
returns g c = turn_of _ _ _ _ _ _ _ _ c.turn.ensures (λ x y finds called.
    let same : taker (machine x) c.args.t.0 ≡ c.args.pass.now.rank = the_taker c.args.self.now.script c.args.pass.now x finds c.args.t
    c.args.used.now c.requires.may.request c.requires.may.deciding in
    search rules)

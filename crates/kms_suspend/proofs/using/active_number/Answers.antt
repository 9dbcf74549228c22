use Rattle.std.proofs.Common.{◌≡◌, Bool, true, false, cond, pos, ◌∙◌, sym, ap}
use Rattle.kms_model.specs.declared.objects.Kind.TheVariants as kinds
use Rattle.kms_model.specs.declared.properties.TheConstants as props
use Rattle.kms_model.specs.declared.states.CrtcState.{CrtcState}
use Rattle.kms_model.specs.Device.Objects.{object_id}
use Rattle.kms_model.specs.Device.World.{value}
use Rattle.kms_core.specs.Decisions.{world}
use Rattle.kms_suspend.proofs.Numbers.{active_number}
use Rattle.kms_suspend.proofs.using.active_number.Goals as goal
use Rattle.kms_suspend.proofs.using.active_number.Goals.{After-crtc_state}

number : (c : After-crtc_state) (active : Bool) → c.crtc_state.result.active ≡ active
    → cond active (pos 1) (pos 0) ≡ value (world c.args.core.now).values (object_id kinds.Crtc c.args.index) props.ACTIVE
number c active is =
    let t = c.args.core.now.script.topology in
    let w = world c.args.core.now in
    let state = c.crtc_state.ensures t w c.requires.present c.requires.there in
    active_number t w c.is_serial.ensures.is_lawful c.args.index c.requires.there active (sym (ap (λ (s : CrtcState). s.active) state) ∙ is)

pub returns-then-crtc_state : goal.returns-then-crtc_state
returns-then-crtc_state c = number (goal.at.returns-then-crtc_state c).After-crtc_state true c.if-crtc_state.true

pub returns-else-crtc_state : goal.returns-else-crtc_state
returns-else-crtc_state c = number (goal.at.returns-else-crtc_state c).After-crtc_state false c.if-crtc_state.false

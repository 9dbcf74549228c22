-- ACTIVE of a CRTC.
use Rattle.std.proofs.Common.{arith, not, ◌==◌, refl, of_z, w64}
use Rattle.kms_model.specs.declared.properties.TheConstants.{ACTIVE}
use Rattle.kms_model.specs.declared.sets.SetValue.TheVariants as to
use Rattle.kms_state.proofs.SetsProperty.{active_after, active_crtc, is_at, sets_crtc}
use Rattle.kms_state.proofs.sets.set_active.Goals as goal

pub returns-in-Some : goal.returns-in-Some
returns-in-Some c =
    sets_crtc ACTIVE (to.Num c.args.number) (λ s. record s { active = not (of_z w64 c.args.number == 0) })
    (is_at c.requires c.in-Some.ensures) (omega arith)
    (active_after c.args.states.now c.args.number (is_at c.requires c.in-Some.ensures) (omega arith) c.ranges.number)
    refl (λ e. omega (arith, e))
    (λ t things before after number. active_crtc t things before after c.args.id c.args.number number c.ranges.number)

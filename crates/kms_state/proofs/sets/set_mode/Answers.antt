-- MODE_ID of a CRTC.
use Rattle.std.proofs.Common.{arith, refl}
use Rattle.kms_model.specs.declared.properties.TheConstants.{MODE_ID}
use Rattle.kms_model.specs.declared.sets.SetValue.TheVariants as to
use Rattle.kms_state.proofs.SetsProperty.{is_at, mode_crtc, sets_crtc}
use Rattle.kms_state.proofs.sets.set_mode.Goals as goal

pub returns-in-Some : goal.returns-in-Some
returns-in-Some c =
    sets_crtc MODE_ID (to.Mode c.args.mode) (λ s. record s { mode = c.args.mode }) (is_at c.requires c.in-Some.ensures) (omega arith) refl
    refl
    (λ e. omega (arith, e)) (λ t things before after. mode_crtc t things before after c.args.id c.args.mode)

-- GAMMA_LUT of a CRTC.
use Rattle.std.proofs.Common.{arith, refl}
use Rattle.kms_model.specs.declared.properties.TheConstants.{GAMMA_LUT}
use Rattle.kms_model.specs.declared.sets.SetValue.TheVariants as to
use Rattle.kms_state.proofs.SetsProperty.{gamma_crtc, is_at, sets_crtc}
use Rattle.kms_state.proofs.sets.set_gamma.Goals as goal

pub returns-in-Some : goal.returns-in-Some
returns-in-Some c =
    sets_crtc GAMMA_LUT (to.Gamma c.args.gamma) (λ s. record s { gamma = c.args.gamma }) (is_at c.requires c.in-Some.ensures) (omega arith)
    refl refl
    (λ e. omega (arith, e)) (λ t things before after. gamma_crtc t things before after c.args.id c.args.gamma)

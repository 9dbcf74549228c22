-- FB_ID of a plane.
use Rattle.std.proofs.Common.{arith, refl}
use Rattle.kms_model.specs.declared.properties.TheConstants.{FB_ID}
use Rattle.kms_model.specs.declared.sets.SetValue.TheVariants as to
use Rattle.kms_state.proofs.SetsProperty.{fb_plane, is_at, sets_plane}
use Rattle.kms_state.proofs.sets.set_fb.Goals as goal

pub returns-in-Some : goal.returns-in-Some
returns-in-Some c =
    sets_plane FB_ID (to.Fb c.args.fb) (λ s. record s { fb = c.args.fb }) (is_at c.requires c.in-Some.ensures) (omega arith) refl refl
    (λ e. omega (arith, e)) (λ things before after number stands puts. fb_plane things puts stands)

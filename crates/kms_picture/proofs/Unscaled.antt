-- What a sound world accepts of its planes shows each of them unscaled, under profile 1.
use Rattle.std.proofs.Common.{◌≡◌, ℕ, None, subst}
use Rattle.kms_model.specs.declared.objects.Kind.TheVariants.{Plane}
use Rattle.kms_model.specs.declared.objects.Topology.{Topology}
use Rattle.kms_model.specs.declared.states.PlaneState.{PlaneState}
use Rattle.kms_model.specs.declared.worlds.World.{World}
use Rattle.kms_model.specs.Device.Objects.{object_id}
use Rattle.kms_model.specs.Device.Sound.{IsSound}
use Rattle.kms_model.specs.Device.States.{mode_at, plane_at}
use Rattle.kms_model.specs.Request.Checks.{shown_refusal}
use Rattle.kms_model.proofs.Items.{ids-has}
use Rattle.kms_model.proofs.SourcePlaces.{shows_unscaled}
use Rattle.kms_model.proofs.StateLemmas.{sound-plane_in_range}
use Rattle.kms_model.proofs.TouchedLemmas.{accepts}
use Rattle.kms_picture.specs.Unscaled.{EachShowsUnscaled}

pub each_unscaled : (t : Topology) (w : World) → t.profile ≡ 1 → IsSound t w → EachShowsUnscaled t w
each_unscaled t w one sound index x y within on covered =
    let plane : ℕ = object_id Plane index in
    let s : PlaneState = plane_at w.things w.values plane in
    let none : shown_refusal 1 (mode_at w.things w.values s.crtc) s ≡ None =
    subst (λ (profile : ℕ). shown_refusal profile (mode_at w.things w.values s.crtc) s ≡ None) one
    ((accepts t w sound).shown plane (ids-has t Plane index within)) in
    shows_unscaled (mode_at w.things w.values s.crtc) s x y (sound-plane_in_range t w index sound within) on none covered

-- The pictures of a device.
use Rattle.std.proofs.Common.{◌≡◌, ℕ, ◌<◌, true, false, length, Option, Some, None, refl, sym, ap, ◌∙◌, subst, arith}
use Rattle.std.specs.Prelude.{is_some, slice_get, nat_lt, ◌==◌, ℤ, pos, negsuc, int_le, ◌≤ℤ◌}
use Rattle.std.proofs.lemmas.Bool.{and_parts}
use Rattle.std.proofs.lemmas.Bool.Decides.{nat_tests}
use Rattle.std.proofs.lemmas.Int.{ints}
use Rattle.kms_model.specs.declared.objects.Kind.TheVariants as kind
use Rattle.kms_model.specs.Device.Places.{state_at}
use Rattle.kms_model.specs.declared.objects.Topology.{Topology}
use Rattle.kms_model.specs.declared.states.Both.{Both}
use Rattle.kms_model.specs.declared.states.CrtcState.{CrtcState}
use Rattle.kms_model.specs.declared.states.Duplicates.{Duplicates}
use Rattle.kms_model.specs.declared.states.PlaneState.{PlaneState}
use Rattle.kms_model.specs.declared.worlds.World.{World}
use Rattle.kms_model.specs.Request.Agreement.{on_crtc}
use Rattle.kms_model.specs.Device.Masks.{has_bit}
use Rattle.kms_model.specs.Device.Objects.{object_id}
use Rattle.kms_model.specs.Device.States.{crtc_at, plane_at}
use Rattle.kms_model.proofs.LateLemmas.{flatten-some}
use Rattle.kms_model.proofs.MaskLemmas.{has_bit-mask_below}
use Rattle.kms_model.proofs.StateLemmas.{sound-plane_in_range}
use Rattle.kms_model.proofs.Facts.{implied_from, list_all-from}
use Rattle.kms_picture.specs.Covered.{are_placeable, is_placeable, is_near_rect, is_near_plane, may_picture}
use Rattle.kms_picture.proofs.FromSound.{near-dst}
use Rattle.kms_serial.specs.Device.{StandsInWorld}

above_zero : (z : ℤ) → pos 0 ≤ℤ z → int_le (negsuc 2147483647) z ≡ true
above_zero (pos n) le = refl
above_zero (negsuc n) le = absurd (omega (arith, ints, le))

-- a plane of a device that stands is ready
ready_plane : {t : Topology} {w : World} {d : Duplicates} (index : ℕ) (o : Option (Both PlaneState)) → StandsInWorld t w d
    → state_at d.planes index ≡ o → index < length t.planes → is_near_plane o ≡ true
ready_plane {d} index None stands is lt = absurd
    (let some = stands.present.whole.planes.there index lt in let none : is_some (state_at d.planes index) ≡ false = rw is refl in cc)
ready_plane {t} {w} {d} index (Some both) stands is lt =
    let at = flatten-some (slice_get d.planes index) both is in
    let new : both.new ≡ plane_at w.things w.values (object_id kind.Plane index) = stands.present.new.planes index both at in
    subst (λ s. is_near_rect s.dst ≡ true) (sym new)
    (near-dst (plane_at w.things w.values (object_id kind.Plane index)) (sound-plane_in_range t w index stands.lawful.sound lt))

-- planes beyond the device are on no CRTC
within : (t : Topology) (w : World) (crtc index : ℕ) → has_bit (on_crtc t w.values crtc kind.Plane) index ≡ true → index < length t.planes
within t w crtc index has =
    let parts = and_parts (nat_lt index (length t.planes)) _
    (sym (has_bit-mask_below (λ i. crtc_at w.values (object_id kind.Plane i) == crtc) (length t.planes) index) ∙ has) in
    grind (arith, nat_tests, parts.0)

covered_crtc : {t : Topology} {w : World} {d : Duplicates} (crtc : ℕ) (o : Option (Both CrtcState)) → StandsInWorld t w d
    → state_at d.crtcs crtc ≡ o → crtc < t.crtcs → are_placeable d.planes o ≡ true
covered_crtc {d} crtc None stands is lt = absurd
    (let some = stands.present.whole.crtcs.there crtc lt in let none : is_some (state_at d.crtcs crtc) ≡ false = rw is refl in cc)
covered_crtc {t} {w} {d} crtc (Some both) stands is lt =
    let at = flatten-some (slice_get d.crtcs crtc) both is in
    let planes : both.new.planes ≡ on_crtc t w.values (object_id kind.Crtc crtc) kind.Plane = ap (λ (s : CrtcState). s.planes)
    (stands.present.new.crtcs crtc both at) in
    list_all-from (is_placeable d.planes both.new.planes) 0 16
    (λ i. implied_from (has_bit both.new.planes i) (is_near_plane (state_at d.planes i))
    (λ has. ready_plane i (state_at d.planes i) stands refl
    (within t w (object_id kind.Crtc crtc) i (sym (ap (λ m. has_bit m i) planes) ∙ has))))

-- the picture of each CRTC of a device that stands can be told
pub may_picture-stands : {t : Topology} {w : World} {d : Duplicates} (crtc : ℕ) → StandsInWorld t w d → crtc < t.crtcs → may_picture d crtc
    ≡ true
may_picture-stands {t} {w} {d} crtc stands lt = covered_crtc crtc (state_at d.crtcs crtc) stands refl lt

-- A CRTC may be pictured in each sound world with which the new states agree, where the planes that are on it are
-- duplicated.
use Rattle.std.proofs.Common.{◌≡◌, ℕ, ◌<◌, length, Bool, true, List, Option, Some, None, is_some, ℤ, pos, negsuc, ◌≤ℤ◌, inl, inr, arith}
use Rattle.std.proofs.Common.{refl, sym, ap, subst, ◌∙◌}
use Rattle.std.specs.Prelude.{◌==◌, ◌&&◌, int_le, nat_lt}
use Rattle.std.proofs.lemmas.Bool.{and_from, and_parts, cases_Bool, false≢true, ltb-true}
use Rattle.std.proofs.lemmas.Bool.Decides.{nat_tests}
use Rattle.std.proofs.lemmas.Int.{ints}
use Rattle.kms_model.specs.Device.Places.{state_at}
use Rattle.kms_model.specs.declared.objects.Kind.TheVariants.{Crtc, Plane}
use Rattle.kms_model.specs.declared.objects.Topology.{Topology}
use Rattle.kms_model.specs.declared.states.Both.{Both}
use Rattle.kms_model.specs.declared.states.CrtcState.{CrtcState}
use Rattle.kms_model.specs.declared.states.Duplicates.{Duplicates}
use Rattle.kms_model.specs.declared.states.PlaneState.{PlaneState}
use Rattle.kms_model.specs.declared.worlds.World.{World}
use Rattle.kms_model.specs.Device.Masks.{has_bit}
use Rattle.kms_model.specs.Device.Objects.{object_id}
use Rattle.kms_model.specs.Device.States.{crtc_at}
use Rattle.kms_model.specs.Device.Sound.{IsBetween, IsDevice, IsPlaneInRange, IsSound}
use Rattle.kms_model.specs.Request.Agreement.{AgreesNew, crtc_state_at}
use Rattle.kms_model.proofs.MaskLemmas.{has_bit-mask_below}
use Rattle.kms_model.proofs.StateLemmas.{sound-plane_in_range}
use Rattle.kms_model.proofs.TouchedLemmas.{HasFewObjects, few_objects}
use Rattle.kms_model.proofs.Facts.{list_all-from}
use Rattle.kms_state.proofs.Slots.{slot_at}
use Rattle.kms_picture.specs.Covered.{FitsDuplicates, are_placeable, is_placeable, is_near, is_near_rect, is_near_plane, may_picture}

-- a device has no more objects than duplicates have room for
pub has_room : (t : Topology) → IsDevice t → FitsDuplicates t
has_room t device = let few : HasFewObjects t = few_objects t device in record { planes = few.planes; conns = few.conns }

int_le-from : (a b : ℤ) → a ≤ℤ b → int_le a b ≡ true
int_le-from a b h = grind (arith, nat_tests, ints)

pub near-place : (z : ℤ) → IsBetween (negsuc 2147483647) (pos 2147483647) z → is_near z ≡ true
near-place z h = and_from (int_le (negsuc 2147483647) z) (int_le z (pos 2147483647)) (int_le-from (negsuc 2147483647) z h.low)
    (int_le-from z (pos 2147483647) h.high)

pub near-size : (z : ℤ) → IsBetween (pos 0) (pos 2147483647) z → is_near z ≡ true
near-size z h = near-place z (record { low = omega (arith, ints, h.low); high = h.high })

pub near-dst : (s : PlaneState) → IsPlaneInRange s → is_near_rect s.dst ≡ true
near-dst s h =
    and_from (is_near s.dst.x) (is_near s.dst.y && (is_near s.dst.w && is_near s.dst.h)) (near-place s.dst.x h.x)
    (and_from (is_near s.dst.y) (is_near s.dst.w && is_near s.dst.h) (near-place s.dst.y h.y)
    (and_from (is_near s.dst.w) (is_near s.dst.h) (near-size s.dst.w h.w) (near-size s.dst.h h.h)))

covered-from : (planes : List (Option (Both PlaneState))) (mask index : ℕ)
    → (has_bit mask index ≡ true → is_near_plane (state_at planes index) ≡ true) → is_placeable planes mask index ≡ true
covered-from planes mask index h =
    elim (cases_Bool (has_bit mask index)) [
      | inl has ↦ rw has (h has)
      | inr other ↦ rw other refl
    ]

ready-from : (slot : Option (Both PlaneState)) → is_some slot ≡ true
    → ((both : Both PlaneState) → slot ≡ Some both → is_near_rect both.new.dst ≡ true) → is_near_plane slot ≡ true
ready-from None there near = absurd (false≢true there)
ready-from (Some both) there near = near both refl

slot_covered : (t : Topology) (w : World) (d : Duplicates) (crtc : ℕ) (slot : Option (Both CrtcState)) → state_at d.crtcs crtc ≡ slot
    → IsSound t w → AgreesNew t w.things w.values d → is_some slot ≡ true
    → ((both : Both CrtcState) (index : ℕ) → slot ≡ Some both → has_bit both.new.planes index ≡ true → is_some (state_at d.planes index)
    ≡ true) → are_placeable d.planes slot ≡ true
slot_covered t w d crtc None is sound agrees there covers = absurd (false≢true there)
slot_covered t w d crtc (Some both) is sound agrees there covers =
    let new : both.new ≡ crtc_state_at t w.things w.values (object_id Crtc crtc) = agrees.crtcs crtc both (slot_at d.crtcs crtc both is) in
    let test : ℕ → Bool = λ index. crtc_at w.values (object_id Plane index) == object_id Crtc crtc in
    let within : (index : ℕ) → has_bit both.new.planes index ≡ true → index < length t.planes = λ index has.
    ltb-true index (length t.planes) (and_parts (nat_lt index (length t.planes)) (test index)
    (sym (has_bit-mask_below test (length t.planes) index) ∙ sym (ap (λ (s : CrtcState). has_bit s.planes index) new) ∙ has)).0 in
    list_all-from (is_placeable d.planes both.new.planes) 0 16 (λ index. covered-from d.planes both.new.planes index (λ has.
    ready-from (state_at d.planes index) (covers both index refl has) (λ plane at.
    near-dst plane.new (subst IsPlaneInRange (sym (agrees.planes index plane (slot_at d.planes index plane at)))
    (sound-plane_in_range t w index sound (within index has))))))

pub may_picture-sound : (t : Topology) (w : World) (d : Duplicates) (crtc : ℕ) → IsSound t w → AgreesNew t w.things w.values d
    → is_some (state_at d.crtcs crtc) ≡ true
    → ((both : Both CrtcState) (index : ℕ) → state_at d.crtcs crtc ≡ Some both → has_bit both.new.planes index ≡ true
    → is_some (state_at d.planes index) ≡ true) → may_picture d crtc ≡ true
may_picture-sound t w d crtc sound agrees there covers = slot_covered t w d crtc (state_at d.crtcs crtc) refl sound agrees there covers

-- What the states of a sound world's objects have.
use Rattle.std.proofs.Common.{◌≡◌, ℕ, ◌<◌, ◌≤◌, Bool, true, false, List, Option, Some, None, arith, refl}
use Rattle.std.specs.Prelude.{◌&&◌, ℤ, pos, negsuc, ◌≤ℤ◌, int_le, is_some, is_none}
use Rattle.std.specs.Int.Signed.{le_z}
use Rattle.std.proofs.lemmas.Bool.{and_parts}
use Rattle.std.proofs.lemmas.Bool.Decides.{nat_tests}
use Rattle.std.proofs.lemmas.Int.{ints}
use Rattle.kms_model.specs.declared.objects.Kind.TheVariants as kind
use Rattle.kms_model.specs.declared.objects.Mode.{Mode}
use Rattle.kms_model.specs.declared.objects.Topology.{Topology}
use Rattle.kms_model.specs.declared.properties.TheConstants.{CRTC_X, CRTC_Y, CRTC_W, CRTC_H, SRC_X, SRC_Y, SRC_W, SRC_H, ALPHA, BLEND, ZPOS}
use Rattle.kms_model.specs.declared.worlds.Setting.{Setting}
use Rattle.kms_model.specs.declared.worlds.Thing.{Thing}
use Rattle.kms_model.specs.declared.worlds.World.{World}
use Rattle.kms_model.specs.Firsts.{first_some, number_if}
use Rattle.kms_model.specs.Device.Objects.{object_id, count_of, ids_of, first_id}
use Rattle.kms_model.specs.Device.World.{value}
use Rattle.kms_model.specs.Device.States.{natural, mode_at, crtc_at, plane_at}
use Rattle.kms_model.specs.Device.Properties.{Property}
use Rattle.kms_model.specs.Device.Sound.{IsBetween, IsCrtcOrNone, IsPlaneInRange, IsSound, empty_request, kept_properties, is_held}
use Rattle.kms_model.specs.Request.Touched.{asks_signal}
use Rattle.kms_model.specs.Request.Checks.{is_active, with_ids, crtc_refusal, crtc_refusal_at, plane_refusal_at, event_refusal}
use Rattle.kms_model.specs.Request.Checks.{late_refusal}
use Rattle.kms_model.proofs.Items.{IsIn, ids-has, or_else-none, number_if-none, first_some-at}
use Rattle.kms_model.proofs.SoundKept.{late-empty}
use Rattle.kms_model.proofs.HeldValues.{ArePlainHeld, IsPlain, plain_held-from}
use Rattle.kms_model.proofs.SeenLemmas.{row-at, plane_crtc-held, conn_crtc-held}

-- Numbers in the ranges of their properties

int_le-le : (a b : ℤ) → int_le a b ≡ true → a ≤ℤ b
int_le-le a b h = grind (arith, nat_tests, ints)

pub between-held : (low high z : ℤ) → (int_le low z && int_le z high) ≡ true → IsBetween low high z
between-held low high z held =
    let both = and_parts (int_le low z) (int_le z high) held in
    record { low = int_le-le low z both.0; high = int_le-le z high both.1 }

pub natural-held : (high : ℕ) (z : ℤ) → (int_le (pos 0) z && int_le z (pos high)) ≡ true → natural z ≤ high
natural-held high (pos n) held = let b : IsBetween (pos 0) (pos high) (pos n) = between-held (pos 0) (pos high) (pos n) held
    in omega (arith, ints, b.high)
natural-held high (negsuc n) held = omega arith

-- the numbers of a plane's state
pub plane_in_range : (t : Topology) (things : List Thing) (values : List Setting) (plane : ℕ) → ArePlainHeld t things values
    → IsIn plane (ids_of t kind.Plane) → IsPlaneInRange (plane_at things values plane)
plane_in_range t things values plane all is =
    let at : (i : ℕ) (p : Property) → IsIn p (kept_properties kind.Plane) → IsPlain p.range
    → is_held t things p.id p.range (value values plane p.id) ≡ true = λ i p row plain. all.planes.at plane p is row plain in
    record {
      x = between-held (negsuc 2147483647) (pos 2147483647) (value values plane CRTC_X)
          (at 3 _ (row-at (kept_properties kind.Plane) 3 _ refl) tt);
      y = between-held (negsuc 2147483647) (pos 2147483647) (value values plane CRTC_Y)
          (at 4 _ (row-at (kept_properties kind.Plane) 4 _ refl) tt);
      w = between-held (pos 0) (pos 2147483647) (value values plane CRTC_W) (at 5 _ (row-at (kept_properties kind.Plane) 5 _ refl) tt);
      h = between-held (pos 0) (pos 2147483647) (value values plane CRTC_H) (at 6 _ (row-at (kept_properties kind.Plane) 6 _ refl) tt);
      src_x = between-held (pos 0) (pos 4294967295) (value values plane SRC_X) (at 7 _ (row-at (kept_properties kind.Plane) 7 _ refl) tt);
      src_y = between-held (pos 0) (pos 4294967295) (value values plane SRC_Y) (at 8 _ (row-at (kept_properties kind.Plane) 8 _ refl) tt);
      src_w = between-held (pos 0) (pos 4294967295) (value values plane SRC_W) (at 9 _ (row-at (kept_properties kind.Plane) 9 _ refl) tt);
      src_h = between-held (pos 0) (pos 4294967295) (value values plane SRC_H) (at 10 _ (row-at (kept_properties kind.Plane) 10 _ refl) tt);
      alpha = natural-held 65535 (value values plane ALPHA) (at 11 _ (row-at (kept_properties kind.Plane) 11 _ refl) tt);
      blend = natural-held 2 (value values plane BLEND) (at 12 _ (row-at (kept_properties kind.Plane) 12 _ refl) tt);
      zpos = natural-held 255 (value values plane ZPOS) (at 13 _ (row-at (kept_properties kind.Plane) 13 _ refl) tt);
    }

-- the same in a sound world, by the index of the object
pub sound-plane_in_range : (t : Topology) (w : World) (index : ℕ) → IsSound t w → index < count_of t kind.Plane
    → IsPlaneInRange (plane_at w.things w.values (object_id kind.Plane index))
sound-plane_in_range t w index sound within = plane_in_range t w.things w.values (object_id kind.Plane index)
    (plain_held-from t w.things w.values sound.held) (ids-has t kind.Plane index within)

pub sound-plane_crtc : (t : Topology) (w : World) (index : ℕ) → IsSound t w → index < count_of t kind.Plane
    → IsCrtcOrNone t (crtc_at w.values (object_id kind.Plane index))
sound-plane_crtc t w index sound within = plane_crtc-held t w.things w.values (object_id kind.Plane index)
    (plain_held-from t w.things w.values sound.held) (ids-has t kind.Plane index within)

pub sound-conn_crtc : (t : Topology) (w : World) (index : ℕ) → IsSound t w → index < count_of t kind.Conn
    → IsCrtcOrNone t (crtc_at w.values (object_id kind.Conn index))
sound-conn_crtc t w index sound within = conn_crtc-held t w.things w.values (object_id kind.Conn index)
    (plain_held-from t w.things w.values sound.held) (ids-has t kind.Conn index within)

on-mode : (on : Bool) (mode : Option Mode) → (on && is_none mode) ≡ false → on ≡ true → is_some mode ≡ true
on-mode true (Some m) none on = refl
on-mode true None none on = absurd cc
on-mode false mode none on = absurd cc

crtc-mode : (asks was on : Bool) (mode : Option Mode) → crtc_refusal asks was on mode ≡ None → on ≡ true → is_some mode ≡ true
crtc-mode asks was on mode none is = on-mode on mode
    (number_if-none 16 _ (or_else-none (number_if 16 (on && is_none mode)) _ none).first_none) is

-- a CRTC that is on has a mode
pub sound-mode : (t : Topology) (w : World) (index : ℕ) → IsSound t w → index < count_of t kind.Crtc
    → is_active w.values (object_id kind.Crtc index) ≡ true → is_some (mode_at w.things w.values (object_id kind.Crtc index)) ≡ true
unfolding late_refusal
sound-mode t w index sound within on =
    let events = or_else-none (event_refusal t w.values w.values empty_request) _ (late-empty t w sound.accepted) in
    let planes = or_else-none (first_some (plane_refusal_at w.things w.values w.values) (with_ids (first_id kind.Plane) t.planes)) _
    events.second_none in
    let crtcs = or_else-none (first_some (crtc_refusal_at w.things w.values w.values empty_request) (ids_of t kind.Crtc)) _
    planes.second_none in
    crtc-mode (asks_signal w.values w.values empty_request (object_id kind.Crtc index)) (is_active w.values (object_id kind.Crtc index))
    (is_active w.values (object_id kind.Crtc index)) (mode_at w.things w.values (object_id kind.Crtc index))
    (first_some-at (crtc_refusal_at w.things w.values w.values empty_request) (ids_of t kind.Crtc) (object_id kind.Crtc index)
    crtcs.first_none (ids-has t kind.Crtc index within)) on

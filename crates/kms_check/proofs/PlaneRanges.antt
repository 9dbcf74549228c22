-- The numbers of planes stay in range while properties are set to values that they may have.
use Rattle.std.proofs.Common.{◌≡◌, ◌∙◌, ◌≤◌, ◌<◌, ℕ, Bool, true, false, List, length, get_or, Option, Some, None, ℤ, pos, negsuc, inl, inr}
use Rattle.std.proofs.Common.{arith, refl, sym, ap, subst}
use Rattle.std.specs.Prelude.{◌==◌, slice_get, All, IfSome, if◌then◌else◌}
use Rattle.std.proofs.lemmas.Bool.{cases_Bool, eqb-true}
use Rattle.kms_model.specs.Device.Places.{state_at}
use Rattle.kms_model.specs.declared.objects.Kind.{Kind}
use Rattle.kms_model.specs.declared.objects.Kind.TheVariants.{Crtc, Plane, Conn, Enc}
use Rattle.kms_model.specs.declared.objects.Topology.{Topology}
use Rattle.kms_model.specs.declared.properties.TheConstants.{ALPHA, BLEND, CRTC_H, CRTC_W, CRTC_X, CRTC_Y, SRC_H, SRC_W, SRC_X, SRC_Y, ZPOS}
use Rattle.kms_model.specs.declared.pictures.Rect.{Rect}
use Rattle.kms_model.specs.declared.sets.Set.{Set}
use Rattle.kms_model.specs.declared.sets.SetValue.{SetValue}
use Rattle.kms_model.specs.declared.sets.SetValue.TheVariants as to
use Rattle.kms_model.specs.declared.states.Both.{Both}
use Rattle.kms_model.specs.declared.states.Duplicates.{Duplicates}
use Rattle.kms_model.specs.declared.states.PlaneState.{PlaneState}
use Rattle.kms_model.specs.declared.worlds.World.{World}
use Rattle.kms_model.specs.Request.Agreement.{AgreesOld}
use Rattle.kms_model.specs.Request.Late.{ArePlanesInRange}
use Rattle.kms_model.specs.Device.Masks.{has_bit}
use Rattle.kms_model.specs.Device.Objects.{count_of, object_id, kind_of}
use Rattle.kms_model.specs.Request.SetRanges.{may_set}
use Rattle.kms_model.specs.Device.Sound.{IsBetween, IsPlaneInRange, IsSound}
use Rattle.kms_model.specs.Device.States.{natural}
use Rattle.kms_model.proofs.LateLemmas.{flatten-some}
use Rattle.kms_model.proofs.StateLemmas.{natural-held, sound-plane_in_range, between-held}
use Rattle.kms_state.specs.Changes.{Sets, after_crtc, after_number, after_set, after_value, changed, plane_after_set}
use Rattle.kms_state.proofs.Slots.{AreNew-changed}
use Rattle.kms_model.specs.Request.Deciding.{AreFresh}
use Rattle.kms_check.specs.Applying.{HasPlanesInRange, IsApplicable}

-- Numbers

-- what holds of the number that one property is set to, and of what was there, holds of what is there
one_set : (P : ℤ → Type 0) (prop p : ℕ) (n old : ℤ) → may_set Plane prop (to.Num n) ≡ true → (may_set Plane p (to.Num n) ≡ true → P n)
    → P old → P (if prop == p then n else old)
one_set P prop p n old may here before = elim (cases_Bool (prop == p)) [
  | inl same ↦ rw same (here (subst (λ q. may_set Plane q (to.Num n) ≡ true) (eqb-true prop p same) may))
  | inr other ↦ rw other before
]

-- the same of a number from 0 on
one_set_natural : (prop p : ℕ) (n : ℤ) (old most : ℕ) → may_set Plane prop (to.Num n) ≡ true
    → (may_set Plane p (to.Num n) ≡ true → natural n ≤ most) → old ≤ most → (if prop == p then natural n else old) ≤ most
one_set_natural prop p n old most may here before = elim (cases_Bool (prop == p)) [
  | inl same ↦ rw same (here (subst (λ q. may_set Plane q (to.Num n) ≡ true) (eqb-true prop p same) may))
  | inr other ↦ rw other before
]

-- a plane's state stays in range with a number that its property may have
number-in_range : (prop : ℕ) (n : ℤ) (s : PlaneState) → may_set Plane prop (to.Num n) ≡ true → IsPlaneInRange s
    → IsPlaneInRange (plane_after_set prop n s)
number-in_range prop n s may in_range = record {
  x = one_set (IsBetween (negsuc 2147483647) (pos 2147483647)) prop CRTC_X n s.dst.x may
      (between-held (negsuc 2147483647) (pos 2147483647) n) in_range.x;
  y = one_set (IsBetween (negsuc 2147483647) (pos 2147483647)) prop CRTC_Y n s.dst.y may
      (between-held (negsuc 2147483647) (pos 2147483647) n) in_range.y;
  w = one_set (IsBetween (pos 0) (pos 2147483647)) prop CRTC_W n s.dst.w may (between-held (pos 0) (pos 2147483647) n) in_range.w;
  h = one_set (IsBetween (pos 0) (pos 2147483647)) prop CRTC_H n s.dst.h may (between-held (pos 0) (pos 2147483647) n) in_range.h;
  src_x = one_set (IsBetween (pos 0) (pos 4294967295)) prop SRC_X n s.src.x may (between-held (pos 0) (pos 4294967295) n) in_range.src_x;
  src_y = one_set (IsBetween (pos 0) (pos 4294967295)) prop SRC_Y n s.src.y may (between-held (pos 0) (pos 4294967295) n) in_range.src_y;
  src_w = one_set (IsBetween (pos 0) (pos 4294967295)) prop SRC_W n s.src.w may (between-held (pos 0) (pos 4294967295) n) in_range.src_w;
  src_h = one_set (IsBetween (pos 0) (pos 4294967295)) prop SRC_H n s.src.h may (between-held (pos 0) (pos 4294967295) n) in_range.src_h;
  alpha = one_set_natural prop ALPHA n s.alpha 65535 may (natural-held 65535 n) in_range.alpha;
  blend = one_set_natural prop BLEND n s.blend 2 may (natural-held 2 n) in_range.blend;
  zpos = one_set_natural prop ZPOS n s.zpos 255 may (natural-held 255 n) in_range.zpos;
}

-- States

abbrev nowhere : Rect
nowhere = record { x = pos 0; y = pos 0; w = pos 0; h = pos 0 }

-- a plane that shows nothing
abbrev empty_plane : PlaneState
empty_plane = record { fb = None; crtc = 0; dst = nowhere; src = nowhere; alpha = 0; blend = 0; zpos = 0 }

empty-in_range : IsPlaneInRange empty_plane
empty-in_range = record {
  x = between-held (negsuc 2147483647) (pos 2147483647) (pos 0) refl;
  y = between-held (negsuc 2147483647) (pos 2147483647) (pos 0) refl;
  w = between-held (pos 0) (pos 2147483647) (pos 0) refl;
  h = between-held (pos 0) (pos 2147483647) (pos 0) refl;
  src_x = between-held (pos 0) (pos 4294967295) (pos 0) refl;
  src_y = between-held (pos 0) (pos 4294967295) (pos 0) refl;
  src_w = between-held (pos 0) (pos 4294967295) (pos 0) refl;
  src_h = between-held (pos 0) (pos 4294967295) (pos 0) refl;
  alpha = omega arith;
  blend = omega arith;
  zpos = omega arith;
}

-- the new state of what is duplicated, or else an empty plane
abbrev new_of : Option (Option (Both PlaneState)) → PlaneState
new_of (Some (Some both)) = both.new
new_of (Some None) = empty_plane
new_of None = empty_plane

new_of-in_range : (n : ℕ) (d : Duplicates) (index : ℕ) (slot : Option (Option (Both PlaneState))) → index < n → slice_get d.planes index
    ≡ slot → HasPlanesInRange n d → IsPlaneInRange (new_of slot)
new_of-in_range n d index (Some (Some both)) within at before = before index both within at
new_of-in_range n d index (Some None) within at before = empty-in_range
new_of-in_range n d index None within at before = empty-in_range

-- planes stay in range where the new state of one changes to one in range
changed-in_range : (n : ℕ) (d : Duplicates) (id : ℕ) (h : PlaneState → PlaneState)
    → ((s : PlaneState) → IsPlaneInRange s → IsPlaneInRange (h s)) → HasPlanesInRange n d
    → HasPlanesInRange n (record d { planes = changed Plane d.planes id h })
changed-in_range n d id h keeps before = λ index both within at.
    let now : ℕ → PlaneState = λ k. new_of (slice_get d.planes k) in
    let later : ℕ → PlaneState = λ k. if id == object_id Plane k then h (now k) else now k in
    let is : both.new ≡ later index = AreNew-changed now later Plane d.planes id h (λ k b found. sym (ap new_of found)) (λ k inside. refl)
    index both at in
    let held : IsPlaneInRange (now index) = new_of-in_range n d index (slice_get d.planes index) within refl before in
    subst IsPlaneInRange (sym is) (either (id == object_id Plane index) (now index) held)
  where
    either : (b : Bool) (s : PlaneState) → IsPlaneInRange s → IsPlaneInRange (if b then h s else s)
    either true s held = keeps s held
    either false s held = held

-- a state with the same numbers
same_numbers : (s u : PlaneState) → u.dst ≡ s.dst → u.src ≡ s.src → u.alpha ≡ s.alpha → u.blend ≡ s.blend → u.zpos ≡ s.zpos
    → IsPlaneInRange s → IsPlaneInRange u
same_numbers s u dst src alpha blend zpos held = record {
  x = rw dst held.x;
  y = rw dst held.y;
  w = rw dst held.w;
  h = rw dst held.h;
  src_x = rw src held.src_x;
  src_y = rw src held.src_y;
  src_w = rw src held.src_w;
  src_h = rw src held.src_h;
  alpha = rw alpha held.alpha;
  blend = rw blend held.blend;
  zpos = rw zpos held.zpos;
}

number-after : (m : ℕ) (k : Kind) (d : Duplicates) (id prop : ℕ) (n : ℤ) → may_set k prop (to.Num n) ≡ true → HasPlanesInRange m d
    → HasPlanesInRange m (after_number k d id prop n)
number-after m Crtc d id prop n may before = before
number-after m Plane d id prop n may before = changed-in_range m d id (plane_after_set prop n) (λ s held. number-in_range prop n s may held)
    before
number-after m Conn d id prop n may before = before
number-after m Enc d id prop n may before = before

crtc-after : (m : ℕ) (k : Kind) (d : Duplicates) (id crtc : ℕ) → HasPlanesInRange m d → HasPlanesInRange m (after_crtc k d id crtc)
crtc-after m Crtc d id crtc before = before
crtc-after m Plane d id crtc before = changed-in_range m d id (λ s. record s { crtc = crtc })
    (λ s held. same_numbers s (record s { crtc = crtc }) refl refl refl refl refl held) before
crtc-after m Conn d id crtc before = before
crtc-after m Enc d id crtc before = before

value-after : (m : ℕ) (d : Duplicates) (id prop : ℕ) (value : SetValue) → may_set (kind_of id) prop value ≡ true → HasPlanesInRange m d
    → HasPlanesInRange m (after_value d id prop value)
value-after m d id prop (to.Num n) may before = number-after m (kind_of id) d id prop n may before
value-after m d id prop (to.Fb fb) may before = changed-in_range m d id (λ s. record s { fb = fb })
    (λ s held. same_numbers s (record s { fb = fb }) refl refl refl refl refl held) before
value-after m d id prop (to.Mode mode) may before = before
value-after m d id prop (to.Gamma gamma) may before = before
value-after m d id prop (to.Crtc crtc) may before = crtc-after m (kind_of id) d id crtc before
value-after m d id prop to.Fence may before = before

-- a set keeps planes in range
set-in_range : (m : ℕ) (d after : Duplicates) (s : Set) → after ≡ after_set d s → may_set (kind_of s.object.0) s.prop s.value ≡ true
    → HasPlanesInRange m d → HasPlanesInRange m after
set-in_range m d after s is may before = subst (HasPlanesInRange m) (sym is) (value-after m d s.object.0 s.prop s.value may before)

-- the same of one of several sets that are ready (which one it is, its law tells)
pub ready-in_range : (m : ℕ) (before now after : Duplicates) (sets : List Set) (k : ℕ) (d : Set) → Sets now (get_or sets k d) after → k
    < length sets → All (IsApplicable before) sets → after ≡ after_set now (get_or sets k d) → HasPlanesInRange m now
    → HasPlanesInRange m after
ready-in_range m before now after sets k d law within ready is held = set-in_range m now after (get_or sets k d) is (ready k d within).value
    held

-- What a check looks at

-- fresh states of a sound world are in range
pub fresh-in_range : {t : Topology} {w : World} {d : Duplicates} → IsSound t w → AgreesOld t w.things w.values d → AreFresh d
    → HasPlanesInRange (count_of t Plane) d
fresh-in_range {t} {w} sound old fresh = λ index both within at.
    subst IsPlaneInRange (sym (fresh.planes index both at ∙ old.planes index both at)) (sound-plane_in_range t w index sound within)

-- planes that are looked at are in range where all are
pub looked_at-in_range : (t : Topology) (d : Duplicates) (mask : ℕ) → HasPlanesInRange (count_of t Plane) d → ArePlanesInRange t d mask
looked_at-in_range t d mask held = λ i within. go i within (has_bit mask i) (state_at d.planes i) refl
  where
    go : (i : ℕ) → i < count_of t Plane → (b : Bool) (o : Option (Both PlaneState)) → state_at d.planes i ≡ o
        → IfSome (if b then o else None) (λ both. IsPlaneInRange both.new)
    go i within false o at = tt
    go i within true None at = tt
    go i within true (Some both) at = held i both within (flatten-some (slice_get d.planes i) both at)

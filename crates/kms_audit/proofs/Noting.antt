-- The table of last touches, one object further, and one commit further.
use Rattle.std.proofs.Common.{◌≡◌, ℕ, zero, suc, ◌+◌, ◌-◌, ◌<◌, ◌≤◌, Bool, true, false, List, length, Option, None, refl, sym, ap, ◌∙◌}
use Rattle.std.proofs.Common.{arith, inl, inr}
use Rattle.std.proofs.lemmas.Bool.{cases_eq}
use Rattle.std.proofs.lemmas.List.{get_or-set_other, get_or-set_same, length-set}
use Rattle.std.specs.Prelude.{replicate, slice_index_or, slice_set, if◌then◌else◌}
use Rattle.kms_audit.proofs.Spanned.{in_range}
use Rattle.kms_audit.specs.declared.touches.Touches.{Touches}
use Rattle.kms_audit.specs.Touching.{IsNotedRow, is_touched_in, last_in, noted}
use Rattle.kms_model.proofs.KindsOfIds.{kind-conn, kind-crtc, kind-plane}
use Rattle.kms_model.specs.declared.objects.Kind.TheVariants.{Crtc, Plane, Conn}
use Rattle.kms_model.specs.declared.states.Mask.{Mask}
use Rattle.kms_model.specs.Device.Masks.{has_bit}
use Rattle.kms_model.specs.Device.Objects.{first_id, index_of, is_id_of}

-- a row whose first places are noted
pub record IsNoted (old xs : List (Option ℕ)) (index touched commit : ℕ) : Type 0 where
  pub size : length xs ≡ length old
  pub done : (i : ℕ) → i < index → slice_index_or xs i None ≡ noted (slice_index_or old i None) (has_bit touched i) commit
  pub left : (i : ℕ) → index ≤ i → slice_index_or xs i None ≡ slice_index_or old i None

pub note-first : (old : List (Option ℕ)) (touched commit : ℕ) → IsNoted old old 0 touched commit
note-first old touched commit = record { size = refl; done = λ i below. absurd (omega (arith, below)); left = λ i above. refl }

pub note-next : (old xs : List (Option ℕ)) (index touched commit : ℕ) (now : Option ℕ) → IsNoted old xs index touched commit
    → index < length old → now ≡ noted (slice_index_or xs index None) (has_bit touched index) commit
    → IsNoted old (slice_set xs index now) (index + 1) touched commit
note-next old xs index touched commit now so within is = record {
  size = length-set xs index now ∙ so.size;
  done = λ i below.
      elim (cases_eq i index) [
        | inl here ↦ (
            let set = get_or-set_same xs index now None (omega (arith, so.size, within)) in
            ap (λ k. slice_index_or (slice_set xs index now) k None) here
            ∙ (set ∙ (is ∙ (ap (λ o. noted o (has_bit touched index) commit) (so.left index (omega arith))
            ∙ ap (λ k. noted (slice_index_or old k None) (has_bit touched k) commit) (sym here)))))
        | inr apart ↦ get_or-set_other xs index i now None apart ∙ so.done i (apart_below i index apart below)
      ];
  left = λ i above. get_or-set_other xs index i now None (λ e. omega arith) ∙ so.left i (omega arith);
} where
  apart_below : (m k : ℕ) → (m ≡ k → ⊥) → m < k + 1 → m < k
  apart_below m k e l = omega arith

-- Ids of each kind have indices below the most of them.

pub few_crtc : (object : ℕ) → is_id_of Crtc object ≡ true → index_of object < 4
few_crtc object e =
    let range = in_range 100 104 object e in
    let index : index_of object ≡ object - 100 = ap (λ k. object - first_id k) (kind-crtc object (omega (arith, range.1))) in
    omega (arith, index, range.0, range.1)

pub few_plane : (object : ℕ) → is_id_of Plane object ≡ true → index_of object < 16
few_plane object e =
    let range = in_range 200 216 object e in
    let index : index_of object ≡ object - 200 = ap (λ k. object - first_id k) (kind-plane object range.0 (omega (arith, range.1))) in
    omega (arith, index, range.0, range.1)

pub few_conn : (object : ℕ) → is_id_of Conn object ≡ true → index_of object < 8
few_conn object e =
    let range = in_range 300 308 object e in
    let index : index_of object ≡ object - 300 = ap (λ k. object - first_id k) (kind-conn object range.0 (omega (arith, range.1))) in
    omega (arith, index, range.0, range.1)

-- No object was touched

none_in : (n i : ℕ) → slice_index_or (replicate {A = Option ℕ} n None) i None ≡ None
none_in zero i = refl
none_in (suc n) zero = refl
none_in (suc n) (suc i) = none_in n i

picked : (a b c : Bool) (x y z : Option ℕ) → x ≡ None → y ≡ None → z ≡ None
    → (if a then x else (if b then y else (if c then z else None))) ≡ None
picked true b c x y z e f g = e
picked false true c x y z e f g = f
picked false false true x y z e f g = g
picked false false false x y z e f g = refl

pub untouched : (t : Touches) → t.crtcs ≡ replicate 4 None → t.planes ≡ replicate 16 None → t.conns ≡ replicate 8 None → (object : ℕ)
    → last_in t object ≡ None
untouched t crtcs planes conns object =
    picked (is_id_of Crtc object) (is_id_of Plane object) (is_id_of Conn object)
    (slice_index_or t.crtcs (index_of object) None) (slice_index_or t.planes (index_of object) None)
    (slice_index_or t.conns (index_of object) None)
    (ap (λ xs. slice_index_or xs (index_of object) None) crtcs ∙ none_in 4 (index_of object))
    (ap (λ xs. slice_index_or xs (index_of object) None) planes ∙ none_in 16 (index_of object))
    (ap (λ xs. slice_index_or xs (index_of object) None) conns ∙ none_in 8 (index_of object))

-- A commit more

by_kind : (a b c p q s : Bool) (xn xo yn yo zn zo : Option ℕ) (k : ℕ)
    → (a ≡ true → xn ≡ noted xo p k) → (b ≡ true → yn ≡ noted yo q k) → (c ≡ true → zn ≡ noted zo s k)
    → (if a then xn else (if b then yn else (if c then zn else None)))
    ≡ noted (if a then xo else (if b then yo else (if c then zo else None)))
    (if a then p else (if b then q else (if c then s else false))) k
by_kind true b c p q s xn xo yn yo zn zo k e f g = e refl
by_kind false true c p q s xn xo yn yo zn zo k e f g = f refl
by_kind false false true p q s xn xo yn yo zn zo k e f g = g refl
by_kind false false false p q s xn xo yn yo zn zo k e f g = refl

pub note-all : (old new : Touches) (m : Mask) (k : ℕ)
    → length old.crtcs ≡ 4 → length old.planes ≡ 16 → length old.conns ≡ 8
    → IsNotedRow old.crtcs new.crtcs m.crtcs k → IsNotedRow old.planes new.planes m.planes k → IsNotedRow old.conns new.conns m.conns k
    → (object : ℕ) → last_in new object ≡ noted (last_in old object) (is_touched_in m object) k
note-all old new m k four sixteen eight crtcs planes conns object =
    let i = index_of object in
    by_kind (is_id_of Crtc object) (is_id_of Plane object) (is_id_of Conn object) (has_bit m.crtcs i)
    (has_bit m.planes i) (has_bit m.conns i)
    (slice_index_or new.crtcs i None) (slice_index_or old.crtcs i None) (slice_index_or new.planes i None)
    (slice_index_or old.planes i None)
    (slice_index_or new.conns i None) (slice_index_or old.conns i None) k
    (λ e. crtcs i (omega (arith, few_crtc object e, four))) (λ e. planes i (omega (arith, few_plane object e, sixteen)))
    (λ e. conns i (omega (arith, few_conn object e, eight)))

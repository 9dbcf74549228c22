-- What stands under an id after a table was changed.
use Rattle.std.proofs.Common.{◌≡◌, ℕ, ◌<◌, ◌≤◌, List, [], ◌∷◌, ◌++◌, cond, Some, None, Bool, true, false, inl, inr, arith, refl}
use Rattle.std.specs.Prelude.{not, ◌==◌, Option, is_some}
use Rattle.std.proofs.lemmas.Bool.{eq-eqb}
use Rattle.std.proofs.lemmas.Bool.Decides.{eqb_tells}
use Rattle.kms_model.specs.declared.tables.Slot.{Slot}
use Rattle.kms_model.specs.Firsts.{or_else}
use Rattle.kms_model.specs.Things.Tables.{slot, AreBelow, value_with_id, with_value, without_id, put_in}

-- another value under an id
pub value_other : {T : Type 0} (slots : List (Slot T)) (id other : ℕ) (v : T) → (id == other) ≡ false
    → value_with_id (with_value slots id v) other ≡ value_with_id slots other
value_other [] id other v apart = refl
value_other (s ∷ slots) id other v apart =
    elim (eqb_tells s.id id) [
      | inl same ↦ rw (same.0, same.1, apart) (value_other slots id other v apart)
      | inr different ↦ rw (different.0, value_other slots id other v apart) refl
    ]

pub value_same : {T : Type 0} (slots : List (Slot T)) (id : ℕ) (v : T) → is_some (value_with_id slots id) ≡ true
    → value_with_id (with_value slots id v) id ≡ Some v
value_same [] id v there = cc
value_same (s ∷ slots) id v there =
    elim (eqb_tells s.id id) [
      | inl same ↦ rw (same.0, eq-eqb id id refl) refl
      | inr different ↦ rw (different.0, different.0) (value_same slots id v (rw different.0 at there))
    ]

-- one value more, behind the others
pub value_pushed : {T : Type 0} (slots : List (Slot T)) (id other : ℕ) (v : T) → value_with_id (slots ++ slot id v ∷ []) other
    ≡ or_else (value_with_id slots other) (value_with_id (slot id v ∷ []) other)
value_pushed [] id other v = refl
value_pushed {T} (s ∷ slots) id other v =
    let last : Option T = value_with_id (slot id v ∷ []) other in
    elim (s.id == other) as (λ b. cond b (Some s.value) (value_with_id (slots ++ slot id v ∷ []) other)
    ≡ or_else (cond b (Some s.value) (value_with_id slots other)) last) [
      | true ↦ refl
      | false ↦ value_pushed slots id other v
    ]

-- one value less
pub value_removed : {T : Type 0} (slots : List (Slot T)) (id : ℕ) → value_with_id (without_id slots id) id ≡ None
value_removed [] id = refl
value_removed (s ∷ slots) id =
    elim (eqb_tells s.id id) [
      | inl same ↦ rw same.0 (value_removed slots id)
      | inr different ↦ rw (different.0, different.0) (value_removed slots id)
    ]

pub value_left : {T : Type 0} (slots : List (Slot T)) (id other : ℕ) → (id == other) ≡ false → value_with_id (without_id slots id) other
    ≡ value_with_id slots other
value_left [] id other apart = refl
value_left (s ∷ slots) id other apart =
    elim (eqb_tells s.id id) [
      | inl same ↦ rw (same.0, same.1, apart) (value_left slots id other apart)
      | inr different ↦ rw (different.0, value_left slots id other apart) refl
    ]

apart_below : (a b n : ℕ) → a < n → n ≤ b → (a == b) ≡ false
apart_below a b n below above = elim (eqb_tells a b) [ inl same ↦ absurd (omega (arith, same.1)) | inr different ↦ different.0 ]

-- no value stands under an id that is above all ids
pub value_above : {T : Type 0} (slots : List (Slot T)) (n id : ℕ) → AreBelow n slots → n ≤ id → value_with_id slots id ≡ None
value_above [] n id below above = refl
value_above (s ∷ slots) n id below above = rw (apart_below s.id id n below.0 above) (value_above slots n id below.1 above)

-- Ids below a number stay so.

put_below : {T : Type 0} (s : Slot T) (n id : ℕ) (v : T) → s.id < n → (put_in id v s).id < n
put_below s n id v below = elim (eqb_tells s.id id) [ inl same ↦ rw same.0 (rw same.1 at below) | inr different ↦ rw different.0 below ]

pub below-with_value : {T : Type 0} (slots : List (Slot T)) (n id : ℕ) (v : T) → AreBelow n slots → AreBelow n (with_value slots id v)
below-with_value [] n id v below = tt
below-with_value (s ∷ slots) n id v below = (put_below s n id v below.0, below-with_value slots n id v below.1)

kept_below : {T : Type 0} (s : Slot T) (rest : List (Slot T)) (n : ℕ) (b : Bool) → s.id < n → AreBelow n rest
    → AreBelow n (cond b (s ∷ rest) rest)
kept_below s rest n true here below = (here, below)
kept_below s rest n false here below = below

pub below-without_id : {T : Type 0} (slots : List (Slot T)) (n id : ℕ) → AreBelow n slots → AreBelow n (without_id slots id)
below-without_id [] n id below = tt
below-without_id (s ∷ slots) n id below = kept_below s (without_id slots id) n (not (s.id == id)) below.0
    (below-without_id slots n id below.1)

pub below-push : {T : Type 0} (slots : List (Slot T)) (n m id : ℕ) (v : T) → AreBelow n slots → n ≤ m → id < m
    → AreBelow m (slots ++ slot id v ∷ [])
below-push [] n m id v below up here = (here, tt)
below-push (s ∷ slots) n m id v below up here = (omega (arith, below.0), below-push slots n m id v below.1 up here)

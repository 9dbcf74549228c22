-- Tables of rising ids: what a look-up finds, and what a change leaves.
use Rattle.std.proofs.Common.{◌≡◌, ◌≢◌, ℕ, zero, suc, ◌+◌, ◌<◌, ◌≤◌, length, List, [], ◌∷◌, ◌++◌, get_or, Some, None, false, inl, inr}
use Rattle.std.proofs.Common.{arith, refl, sym, ap, subst}
use Rattle.std.specs.Prelude.{not, ◌==◌}
use Rattle.std.specs.List.{AllByRecursion, remove}
use Rattle.std.proofs.Math.ListN.{set}
use Rattle.std.proofs.lemmas.Bool.{eq-eqb, cases_lt}
use Rattle.std.proofs.lemmas.Bool.Decides.{eqb_tells}
use Rattle.std.proofs.lemmas.List.{get_or-map}
use Rattle.kms_model.specs.declared.tables.Slot.{Slot}
use Rattle.kms_model.specs.Things.Tables.{slot, slot_ids, IsRising, AreBelow, value_with_id, with_value, without_id, put_in}
use Rattle.kms_model.proofs.Facts.{cond_holds}

-- an id is nowhere but between two places
pub record Narrowed {T : Type 0} (slots : List (Slot T)) (id low high : ℕ) : Type 0 where
  pub order : low ≤ high
  pub bound : high ≤ length slots
  pub below : (k : ℕ) → k < low → get_or (slot_ids slots) k 0 < id
  pub above : (k : ℕ) → high ≤ k → k < length slots → id < get_or (slot_ids slots) k 0

-- what holds of all ids holds of the id at a place
pub all_at : {T : Type 0} (P : ℕ → Type 0) (slots : List (Slot T)) (k : ℕ) → AllByRecursion (λ s. P s.id) slots → k < length slots
    → P (get_or (slot_ids slots) k 0)
all_at P [] k all within = absurd (omega arith)
all_at P (s ∷ slots) zero all within = all.0
all_at P (s ∷ slots) (suc k) all within = all_at P slots k all.1 (omega arith)

-- the ids rise from place to place
pub rising_at : {T : Type 0} (slots : List (Slot T)) (j k : ℕ) → IsRising slots → j < k → k < length slots → get_or (slot_ids slots) j 0
    < get_or (slot_ids slots) k 0
rising_at [] j k rising before within = absurd (omega arith)
rising_at (s ∷ slots) j zero rising before within = absurd (omega arith)
rising_at (s ∷ slots) zero (suc k) rising before within = all_at (λ n. s.id < n) slots k rising.0 (omega arith)
rising_at (s ∷ slots) (suc j) (suc k) rising before within = rising_at slots j k rising.1 (omega arith) (omega arith)

rising_to : {T : Type 0} (slots : List (Slot T)) (j k : ℕ) → IsRising slots → j ≤ k → k < length slots → get_or (slot_ids slots) j 0
    ≤ get_or (slot_ids slots) k 0
rising_to slots j k rising before within =
    elim (cases_lt j k) [
      | inl less ↦ (let h : get_or (slot_ids slots) j 0
          < get_or (slot_ids slots) k 0 = rising_at slots j k rising less within in omega arith)
      | inr other ↦
          (let same : j ≡ k = omega arith in rw same (omega arith))
    ]

-- the id is above the middle
pub narrowed_above : {T : Type 0} (slots : List (Slot T)) (id low high middle : ℕ) → IsRising slots → Narrowed slots id low high → middle
    < high → get_or (slot_ids slots) middle 0 < id → Narrowed slots id (middle + 1) high
narrowed_above slots id low high middle rising narrowed within less = record {
  order = omega arith;
  bound = narrowed.bound;
  below = λ k h. (let up : get_or (slot_ids slots) k 0
      ≤ get_or (slot_ids slots) middle 0 = rising_to slots k middle rising (omega arith) (omega (arith, narrowed.bound)) in omega arith);
  above = narrowed.above;
}

-- the id is below the middle
pub narrowed_below : {T : Type 0} (slots : List (Slot T)) (id low high middle : ℕ) → IsRising slots → Narrowed slots id low high → low
    ≤ middle → middle < high → id < get_or (slot_ids slots) middle 0 → Narrowed slots id low middle
narrowed_below slots id low high middle rising narrowed from within less = record {
  order = from;
  bound = omega (arith, narrowed.bound);
  below = narrowed.below;
  above = λ k h within_k. (let up : get_or (slot_ids slots) middle 0
      ≤ get_or (slot_ids slots) k 0 = rising_to slots middle k rising h within_k in omega arith);
}

-- what holds of an item's id holds of the id at its place
pub id_at : {T : Type 0} (slots : List (Slot T)) (k : ℕ) (s : Slot T) → k < length slots → (P : ℕ → Type 0) → P (get_or slots k s).id
    → P (get_or (slot_ids slots) k 0)
id_at {T} slots k s within P holds =
    let f : Slot T → ℕ = λ t. t.id in
    let e : get_or (slot_ids slots) k 0 ≡ (get_or slots k s).id = get_or-map f slots k s 0 within in
    subst P (sym e) holds

neq-eqb : (a b : ℕ) → a ≢ b → (a == b) ≡ false
neq-eqb a b other = elim (eqb_tells a b) [ inl same ↦ absurd (other same.1) | inr apart ↦ apart.0 ]

-- no id of these is this one
abbrev pub AreOther : {T : Type 0} → ℕ → List (Slot T) → Type 0
AreOther id slots = AllByRecursion (λ s. (s.id == id) ≡ false) slots

pub others : {T : Type 0} (id : ℕ) (slots : List (Slot T)) → ((k : ℕ) → k < length slots → get_or (slot_ids slots) k 0 ≢ id)
    → AreOther id slots
others id [] none = tt
others id (s ∷ slots) none = (neq-eqb s.id id (none 0 (omega arith)), others id slots (λ k h. none (suc k) (omega arith)))

-- the ids behind one are other ones
pub others_behind : {T : Type 0} (id : ℕ) (slots : List (Slot T)) → AllByRecursion (λ s. id < s.id) slots → AreOther id slots
others_behind id [] above = tt
others_behind id (s ∷ slots) above = (neq-eqb s.id id (λ same. absurd (omega (arith, above.0, same))), others_behind id slots above.1)

pub value-absent : {T : Type 0} (slots : List (Slot T)) (id : ℕ) → AreOther id slots → value_with_id slots id ≡ None
value-absent [] id other = refl
value-absent (s ∷ slots) id other = rw other.0 (value-absent slots id other.1)

pub with_value-absent : {T : Type 0} (slots : List (Slot T)) (id : ℕ) (value : T) → AreOther id slots → slots ≡ with_value slots id value
with_value-absent [] id value other = refl
with_value-absent (s ∷ slots) id value other = rw other.0 (ap (λ rest. s ∷ rest) (with_value-absent slots id value other.1))

pub without_id-absent : {T : Type 0} (slots : List (Slot T)) (id : ℕ) → AreOther id slots → slots ≡ without_id slots id
without_id-absent [] id other = refl
without_id-absent (s ∷ slots) id other = rw other.0 (ap (λ rest. s ∷ rest) (without_id-absent slots id other.1))

-- the id in front is not one from further behind
front_other : {T : Type 0} (s : Slot T) (slots : List (Slot T)) (i id : ℕ) → IsRising (s ∷ slots) → i < length slots
    → get_or (slot_ids slots) i 0 ≡ id → (s.id == id) ≡ false
front_other s slots i id rising within same =
    let less : s.id < get_or (slot_ids slots) i 0 = all_at (λ n. s.id < n) slots i rising.0 within in
    neq-eqb s.id id (λ e. absurd (omega (arith, less, same, e)))

pub value-present : {T : Type 0} (slots : List (Slot T)) (i id : ℕ) (s : Slot T) → IsRising slots → i < length slots
    → get_or (slot_ids slots) i 0 ≡ id → s ≡ get_or slots i s → Some s.value ≡ value_with_id slots id
value-present [] i id s rising within same is = absurd (omega arith)
value-present {T} (t ∷ slots) zero id s rising within same is = rw (eq-eqb t.id id same) (ap (λ (u : Slot T). Some u.value) is)
value-present (t ∷ slots) (suc i) id s rising within same is =
    rw (front_other t slots i id rising (omega arith) same) (value-present slots i id s rising.1 (omega arith) same is)

pub with_value-present : {T : Type 0} (slots : List (Slot T)) (i id : ℕ) (value : T) → IsRising slots → i < length slots
    → get_or (slot_ids slots) i 0 ≡ id → set slots i (slot id value) ≡ with_value slots id value
with_value-present [] i id value rising within same = absurd (omega arith)
with_value-present (t ∷ slots) zero id value rising within same =
    let other : AreOther id slots = subst (λ n. AreOther n slots) same (others_behind t.id slots rising.0) in
    rw (eq-eqb t.id id same) (ap (λ rest. slot id value ∷ rest) (with_value-absent slots id value other))
with_value-present (t ∷ slots) (suc i) id value rising within same =
    rw (front_other t slots i id rising (omega arith) same)
    (ap (λ rest. t ∷ rest) (with_value-present slots i id value rising.1 (omega arith) same))

pub without_id-present : {T : Type 0} (slots : List (Slot T)) (i id : ℕ) → IsRising slots → i < length slots → get_or (slot_ids slots) i 0
    ≡ id → remove slots i ≡ without_id slots id
without_id-present [] i id rising within same = absurd (omega arith)
without_id-present (t ∷ slots) zero id rising within same =
    let other : AreOther id slots = subst (λ n. AreOther n slots) same (others_behind t.id slots rising.0) in
    rw (eq-eqb t.id id same) (without_id-absent slots id other)
without_id-present (t ∷ slots) (suc i) id rising within same =
    rw (front_other t slots i id rising (omega arith) same)
    (ap (λ rest. t ∷ rest) (without_id-present slots i id rising.1 (omega arith) same))

put-id : {T : Type 0} (s : Slot T) (id : ℕ) (value : T) → (put_in id value s).id ≡ s.id
put-id {T} s id value = elim (eqb_tells s.id id) [ inl same ↦ rw same.0 (sym same.1) | inr other ↦ rw other.0 refl ]

put_above : {T : Type 0} (s : Slot T) (n id : ℕ) (value : T) → n < s.id → n < (put_in id value s).id
put_above s n id value less = rw (put-id s id value) less

above-with_value : {T : Type 0} (slots : List (Slot T)) (n id : ℕ) (value : T) → AllByRecursion (λ s. n < s.id) slots
    → AllByRecursion (λ s. n < s.id) (with_value slots id value)
above-with_value [] n id value above = tt
above-with_value {T} (s ∷ slots) n id value above = (put_above s n id value above.0, above-with_value slots n id value above.1)

pub IsRising-with_value : {T : Type 0} (slots : List (Slot T)) (id : ℕ) (value : T) → IsRising slots → IsRising (with_value slots id value)
IsRising-with_value [] id value rising = tt
IsRising-with_value {T} (s ∷ slots) id value rising =
    rw (put-id s id value) (above-with_value slots s.id id value rising.0, IsRising-with_value slots id value rising.1)

above-without_id : {T : Type 0} (slots : List (Slot T)) (n id : ℕ) → AllByRecursion (λ s. n < s.id) slots
    → AllByRecursion (λ s. n < s.id) (without_id slots id)
above-without_id [] n id above = tt
above-without_id (s ∷ slots) n id above = cond_holds (λ xs. AllByRecursion (λ t. n < t.id) xs) (not (s.id == id)) (s ∷ without_id slots id)
    (without_id slots id) (above.0, above-without_id slots n id above.1) (above-without_id slots n id above.1)

pub IsRising-without_id : {T : Type 0} (slots : List (Slot T)) (id : ℕ) → IsRising slots → IsRising (without_id slots id)
IsRising-without_id [] id rising = tt
IsRising-without_id (s ∷ slots) id rising = cond_holds (λ xs. IsRising xs) (not (s.id == id)) (s ∷ without_id slots id)
    (without_id slots id) (above-without_id slots s.id id rising.0, IsRising-without_id slots id rising.1)
    (IsRising-without_id slots id rising.1)

above-push : {T : Type 0} (slots : List (Slot T)) (n : ℕ) (s : Slot T) → AllByRecursion (λ t. n < t.id) slots → n < s.id
    → AllByRecursion (λ t. n < t.id) (slots ++ s ∷ [])
above-push [] n s above less = (less, tt)
above-push (t ∷ slots) n s above less = (above.0, above-push slots n s above.1 less)

pub IsRising-push : {T : Type 0} (slots : List (Slot T)) (s : Slot T) → IsRising slots → AreBelow s.id slots → IsRising (slots ++ s ∷ [])
IsRising-push [] s rising below = (tt, tt)
IsRising-push (t ∷ slots) s rising below = (above-push slots t.id s rising.0 below.0, IsRising-push slots s rising.1 below.1)

-- what a search says of a slice holds of the table that has its items
pub record FoundAt {T : Type 0} (slots : List (Slot T)) (i id : ℕ) : Type 0 where
  pub rising : IsRising slots
  pub within : i < length slots
  pub same : get_or (slot_ids slots) i 0 ≡ id

pub found : {T : Type 0} (slice slots : List (Slot T)) (i id : ℕ) → slice ≡ slots → IsRising slots → i < length slice
    → get_or (slot_ids slice) i 0 ≡ id → FoundAt slots i id
found {T} slice slots i id is rising within same =
    let P : List (Slot T) → Type 0 = λ xs. i < length xs in
    let Q : List (Slot T) → Type 0 = λ xs. get_or (slot_ids xs) i 0 ≡ id in
    record { rising = rising; within = subst P is within; same = subst Q is same }

pub absent : {T : Type 0} (slice slots : List (Slot T)) (id : ℕ) → slice ≡ slots
    → ((k : ℕ) → k < length slice → get_or (slot_ids slice) k 0 ≢ id) → AreOther id slots
absent {T} slice slots id is none =
    let P : List (Slot T) → Type 0 = λ xs. AreOther id xs in
    subst P is (others id slice none)

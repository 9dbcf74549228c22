-- Tables: values by their ids, in rising order of the ids.
use Rattle.std.specs.Prelude.{ℕ, ◌<◌, not, ◌==◌, List, [], ◌∷◌, map, filter, Option, Some, None, if◌then◌else◌, ⊤}
use Rattle.std.specs.List.{AllByRecursion}
use Rattle.kms_model.specs.declared.tables.Slot.{Slot}

abbrev pub slot : {T : Type 0} → ℕ → T → Slot T
slot id value = record { id = id; value = value }

abbrev pub slot_ids : {T : Type 0} → List (Slot T) → List ℕ
slot_ids slots = map (λ s. s.id) slots

-- the ids rise
abbrev pub IsRising : {T : Type 0} → List (Slot T) → Type 0
IsRising [] = ⊤
IsRising (s ∷ slots) = AllByRecursion (λ t. s.id < t.id) slots × IsRising slots

-- all ids are smaller than this one
abbrev pub AreBelow : {T : Type 0} → ℕ → List (Slot T) → Type 0
AreBelow id slots = AllByRecursion (λ s. s.id < id) slots

-- the value under an id
abbrev pub value_with_id : {T : Type 0} → List (Slot T) → ℕ → Option T
value_with_id [] id = None
value_with_id (s ∷ slots) id = if s.id == id then Some s.value else value_with_id slots id

abbrev pub put_in : {T : Type 0} → ℕ → T → Slot T → Slot T
put_in id value s = if s.id == id then slot id value else s

-- the table with another value under an id that it has
abbrev pub with_value : {T : Type 0} → List (Slot T) → ℕ → T → List (Slot T)
with_value slots id value = map (put_in id value) slots

-- the table without what stands under an id
abbrev pub without_id : {T : Type 0} → List (Slot T) → ℕ → List (Slot T)
without_id slots id = filter (λ s. not (s.id == id)) slots

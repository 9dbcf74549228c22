-- Fences, each with whether it is signalled. From: "DMA Fences": a fence is signalled once, and stays so.
use Rattle.std.specs.Prelude.{◌≡◌, ℕ, Bool, true, false, Option, Some, None, is_some}
use Rattle.kms_model.specs.Things.Tables.{value_with_id}
use Rattle.kms_signal.specs.Rooms.{Rooms}

-- the fences by their ids, and for how many further ones there is memory
abbrev pub FenceSet : Type 0
FenceSet = Rooms Bool

abbrev pub is_made : FenceSet → ℕ → Bool
is_made fences id = is_some (value_with_id fences.slots id)

abbrev pub or_not : Option Bool → Bool
or_not None = false
or_not (Some b) = b

-- a fence with the id was made, and is signalled
abbrev pub is_signalled : FenceSet → ℕ → Bool
is_signalled fences id = or_not (value_with_id fences.slots id)

-- what was signalled is signalled still
abbrev pub StaySignalled : FenceSet → FenceSet → Type 0
StaySignalled old new = (id : ℕ) → is_signalled old id ≡ true → is_signalled new id ≡ true

-- a fence is signalled now where it was made, and the others are as they were
pub record IsSignalled (old new : FenceSet) (id : ℕ) : Type 0 where
  pub now : is_made old id ≡ true → is_signalled new id ≡ true
  pub others : (other : ℕ) → (other ≡ id → ⊥) → is_signalled new other ≡ is_signalled old other
  pub made : (other : ℕ) → is_made new other ≡ is_made old other

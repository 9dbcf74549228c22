-- Tables of values by rising ids, with room for further ones.
use Rattle.std.specs.Prelude.{ℕ, List}
use Rattle.kms_model.specs.declared.tables.Slot.{Slot}

pub record Rooms (T : Type 0) : Type 0 where
  -- the values with their ids, in rising order of the ids
  pub slots : List (Slot T)
  -- for how many further values memory was taken
  pub room : ℕ

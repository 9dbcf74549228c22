-- Lists with room for further items.
use Rattle.std.specs.Prelude.{ℕ, List}

pub record Logged (T : Type 0) : Type 0 where
  pub items : List T
  -- for how many further items memory was taken
  pub room : ℕ

-- a list with places kept for further items, and with room for more
pub record Reserved (T : Type 0) : Type 0 where
  pub items : List T
  -- for how many further items a place is kept
  pub places : ℕ
  -- for how many beyond these memory was taken
  pub room : ℕ

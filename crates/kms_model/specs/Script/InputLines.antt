-- The lines of an input, and where its first fault is.
use Rattle.std.specs.Prelude.{ℕ, Bool, true, false, ◌==◌, List, [], ◌∷◌, if◌then◌else◌}
use Rattle.kms_model.specs.declared.scripts.Why.{Why}

-- a line of an input, and whether a line feed ends it
pub record Row : Type 0 where
  pub text : List ℕ
  pub is_ended : Bool

-- a byte before the first of these lines
abbrev pub before_rows : ℕ → List Row → List Row
before_rows b [] = record { text = b ∷ []; is_ended = false } ∷ []
before_rows b (r ∷ rs) = record { text = b ∷ r.text; is_ended = r.is_ended } ∷ rs

-- the lines of an input
unfoldable pub rows_of : List ℕ → List Row
rows_of [] = []
rows_of (b ∷ bs) = if b == 10 then record { text = []; is_ended = true } ∷ rows_of bs else before_rows b (rows_of bs)

-- where the first fault is, and what it is: lines are counted from 1, and line 0 is the whole input
pub record Fault : Type 0 where
  pub line : ℕ
  pub why : Why

-- the most bytes that an input may have
abbrev pub input_limit : ℕ
input_limit = 67108864

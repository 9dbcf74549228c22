-- Where a pattern has words.
use Rattle.std.specs.Prelude.{ℕ, ◌<◌, ◌*◌, ◌+◌, length, ⊤}
use Rattle.kms_model.specs.declared.scripts.Pattern.{Pattern}
use Rattle.kms_model.specs.declared.scripts.Pattern.TheVariants.{Solid, Checker, Ramp, Pixels}

-- The pattern has a word at (x, y).
abbrev pub HasWord : Pattern → ℕ → ℕ → ℕ → Type 0
HasWord (Solid p) width x y = ⊤
HasWord (Checker p q n) width x y = 0 < n
HasWord Ramp width x y = ⊤
HasWord (Pixels words) width x y = y * width + x < length words

-- The pattern has a word at each place of row y.
abbrev pub HasRow : Pattern → ℕ → ℕ → Type 0
HasRow pattern width y = (x : ℕ) → x < width → HasWord pattern width x y

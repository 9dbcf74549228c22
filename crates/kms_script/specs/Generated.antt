-- What holds of all generated scripts. This device's own.
use Rattle.std.specs.Prelude.{◌<◌, ◌≤◌, ◌^◌, ℕ}
use Rattle.kms_model.specs.Script.Generated.{generated}
use Rattle.kms_model.specs.Script.WellFormed.{IsWellFormed}

-- each generated script is one that a machine can be made of, and that some text spells
abbrev pub AreWellFormed : Type 0
AreWellFormed = (seed n : ℕ) → seed < 2 ^ 64 → 1 ≤ n → n ≤ 4000 → IsWellFormed (generated seed n)

-- The out-fences that a commit makes.
use Rattle.std.specs.Prelude.{ℕ, List, [], ◌∷◌, Option}
use Rattle.kms_model.specs.declared.worlds.World.{World}
use Rattle.kms_model.specs.Device.Execution.{make_out_fence}

-- out-fences are made under the labels that are asked for, in order
abbrev pub fences_made : ℕ → World → List (Option ℕ) → World
fences_made client w [] = w
fences_made client w (label ∷ labels) = fences_made client (make_out_fence client w label) labels

-- None of the layers so far covers a row above the first.
use Rattle.std.proofs.Common.{◌≡◌, ◌<◌, ◌≤◌, ℕ, false, take}
use Rattle.kms_compose.specs.Changes.{covered_by}
use Rattle.kms_compose.proofs.recomposing.first_row.Given as goal

abbrev pub invariant-loop-layer : goal.invariant-loop-layer
invariant-loop-layer l = record {
  within : l.first ≤ l.height;
  above : (x y : ℕ) → y < l.first → covered_by (take l.layer-index l.layers) x y ≡ false;
}

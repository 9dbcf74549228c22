-- What is left of both lists decides whether they agree where none of the layers so far covers.
use Rattle.std.proofs.Common.{◌≤◌, ◌+◌, ◌-◌, length}
use Rattle.kms_compose.proofs.Differing.{IsApart}
use Rattle.kms_compose.proofs.changes.changes.Given as goal

abbrev pub invariant-loop-left : goal.invariant-loop-left
invariant-loop-left l = record {
  apart : IsApart l.old l.new l.changed.items l.left l.came;
  left_in : l.left ≤ length l.old;
  came_in : l.came ≤ length l.new;
}

abbrev pub decreases-loop-left : goal.decreases-loop-left
decreases-loop-left l = length l.old - l.left + (length l.new - l.came)

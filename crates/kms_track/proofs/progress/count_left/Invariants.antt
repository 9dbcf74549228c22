use Rattle.std.proofs.Common.{◌≡◌, ◌≤◌}
use Rattle.kms_track.specs.Tails.{count_below, is_left}
use Rattle.kms_track.proofs.progress.count_left.Given as goal

abbrev pub invariant-loop-index : goal.invariant-loop-index
invariant-loop-index l = record {
  number : l.left ≡ count_below (is_left l.asked l.over) l.index;
  low : l.left ≤ l.index;
}

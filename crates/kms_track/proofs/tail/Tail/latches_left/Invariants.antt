use Rattle.std.proofs.Common.{◌≡◌, ◌≤◌}
use Rattle.kms_track.specs.Tails.{count_below, is_latch_left}
use Rattle.kms_track.proofs.tail.Tail.latches_left.Given as goal

abbrev pub invariant-loop-index : goal.invariant-loop-index
invariant-loop-index l = record {
  number : l.left ≡ count_below (is_latch_left l.self) l.index;
  low : l.left ≤ l.index;
}

-- The pixels before `done` are drawn.
use Rattle.std.proofs.Common.{◌≡◌, ◌≤◌, ◌*◌, ◌-◌, take}
use Rattle.std.specs.List.{flat_map, range_with_len}
use Rattle.kms_compose.specs.Parts.{part_pixel}
use Rattle.kms_compose.proofs.drawing.draw_runs.Given as goal

abbrev pub invariant-loop-done : goal.invariant-loop-done
invariant-loop-done l = record {
  within : l.done ≤ l.count;
  drawn : take (3 * l.done) l.out ≡ flat_map (part_pixel l.gamma l.parts l.y) (range_with_len l.left l.done);
}

abbrev pub decreases-loop-done : goal.decreases-loop-done
decreases-loop-done l = l.count - l.done

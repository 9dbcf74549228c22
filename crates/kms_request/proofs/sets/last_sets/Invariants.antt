use Rattle.std.proofs.Common.{◌≡◌, ◌≤◌, length, drop, reverse}
use Rattle.kms_model.specs.Request.Sets.{last_sets}
use Rattle.kms_request.specs.Targets.{TellTargets}
use Rattle.kms_request.proofs.sets.last_sets.Given as goal

abbrev pub decreases-loop-left : goal.decreases-loop-left
decreases-loop-left g l = l.left

-- the assignments from a place on are done, the last of them first
abbrev pub invariant-loop-left : goal.invariant-loop-left
invariant-loop-left g l = record {
  within : l.left ≤ length l.assigns;
  sets : reverse l.sets.items ≡ last_sets (g.L.Looker.meaning l.found) (drop l.left l.assigns);
  marks : TellTargets (drop l.left l.assigns) l.marks;
}

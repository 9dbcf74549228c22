-- What stands from a place on are the planes of the lower CRTCs so far, and there is room for those of the others.
use Rattle.std.proofs.Common.{◌≡◌, ◌+◌, ◌≤◌, drop, length}
use Rattle.kms_model.specs.Legacy.Translation.{special_planes}
use Rattle.kms_legacy.proofs.special.special_plane.Given as goal

abbrev pub invariant-loop-lower : goal.invariant-loop-lower
invariant-loop-lower l = record {
  taken : drop l.left l.taken ≡ special_planes l.topology l.kind l.lower;
  room : 4 ≤ l.left + l.lower;
  within : l.left ≤ 4;
  size : length l.taken ≡ 4;
}

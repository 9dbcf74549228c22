use Rattle.std.proofs.Common.{◌≡◌, ◌+◌, ◌++◌, ◌≤◌, drop, length}
use Rattle.kms_model.specs.Things.Tables.{AreBelow}
use Rattle.kms_core.specs.SwappedIn.{fences_for}
use Rattle.kms_core.proofs.deciding.committing.make_fences.Given as goal

-- the fences that are made, and those of the rest, are those of all
abbrev pub invariant-loop-label : goal.invariant-loop-label
invariant-loop-label l = record {
  small : l.next ≤ l.first + l.label-index;
  room : length (drop l.label-index l.labels) ≤ l.fences.room;
  below : AreBelow l.next l.fences.slots;
  made : l.fences.slots ++ fences_for l.next (drop l.label-index l.labels) ≡ l.initial.fences.slots ++ fences_for l.first l.labels;
}

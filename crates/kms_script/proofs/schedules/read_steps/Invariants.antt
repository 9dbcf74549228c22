use Rattle.std.proofs.Common.{◌≡◌, ◌+◌, ◌≤◌, length}
use Rattle.kms_model.specs.Script.InputLines.{rows_of}
use Rattle.kms_model.specs.Script.Schedules.{steps_in}
use Rattle.kms_script.proofs.StepRows.{with_steps}
use Rattle.kms_script.proofs.schedules.read_steps.Given as goal

abbrev pub invariant-lines : goal.invariant-lines
invariant-lines l = record {
  read : with_steps l.steps (steps_in l.number (rows_of l.rest)) ≡ steps_in l.first (rows_of l.bytes);
  number : l.number + length l.rest ≤ l.first + length l.bytes;
}

abbrev pub decreases-lines : goal.decreases-lines
decreases-lines l = length l.rest

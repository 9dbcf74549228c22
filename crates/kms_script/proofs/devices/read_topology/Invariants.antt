use Rattle.std.proofs.Common.{◌≡◌, ◌+◌, ◌≤◌, length, false}
use Rattle.kms_model.specs.Script.InputLines.{rows_of}
use Rattle.kms_model.specs.Script.WholeInput.{blank_draft, device_after}
use Rattle.kms_script.specs.Drafted.{draft_in, IsSoundDraft}
use Rattle.kms_script.proofs.devices.read_topology.Given as goal

abbrev pub invariant-lines : goal.invariant-lines
invariant-lines l = record {
  read : device_after (draft_in l.draft) l.number (rows_of l.rest) ≡ device_after blank_draft 1 (rows_of l.bytes);
  sound : IsSoundDraft (draft_in l.draft);
  number : l.number ≤ l.draft.size + 1;
  client : l.draft.has_client ≡ false;
}

abbrev pub decreases-lines : goal.decreases-lines
decreases-lines l = length l.rest

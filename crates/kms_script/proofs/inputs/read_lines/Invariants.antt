use Rattle.std.proofs.Common.{◌≡◌, ◌+◌, ◌≤◌, length}
use Rattle.kms_model.specs.Script.InputLines.{rows_of}
use Rattle.kms_model.specs.Script.WholeInput.{blank_draft}
use Rattle.kms_script.specs.Drafted.{draft_in, IsSoundDraft}
use Rattle.kms_script.specs.Within.{parts_within}
use Rattle.kms_script.proofs.inputs.read_lines.Given as goal

abbrev pub invariant-lines : goal.invariant-lines
invariant-lines l = record {
  read : parts_within l.most l.part (length l.bytes) (draft_in l.draft) l.line (rows_of l.rest)
      ≡ parts_within l.most l.part (length l.bytes) blank_draft 1 (rows_of l.bytes);
  sound : IsSoundDraft (draft_in l.draft);
  line : l.line ≤ l.draft.size + 1;
  rest : length l.rest ≤ length l.bytes;
}

abbrev pub decreases-lines : goal.decreases-lines
decreases-lines l = length l.rest

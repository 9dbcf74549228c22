-- The first line that is not right, of those left, is the first of all; the ids of the lines before are in the set.
use Rattle.std.proofs.Common.{◌≡◌, [], take, drop}
use Rattle.kms_audit.proofs.Freeing.{AreNamed}
use Rattle.kms_audit.specs.Judged.{IsBehind}
use Rattle.kms_model.specs.declared.reports.Report.{Report}
use Rattle.kms_model.specs.Report.Right.{freed_is_right, number_at}
use Rattle.kms_model.specs.Report.RightAnswers.{first_off}
use Rattle.kms_audit.proofs.freed.freed_off.Given as goal

abbrev pub invariant-loop-place : goal.invariant-loop-place
invariant-loop-place l = record {
  rest : (r : Report) → IsBehind l.script r l.serial →
      number_at l.place (first_off (freed_is_right l.script r) (take l.place l.lines) (drop l.place l.lines))
      ≡ first_off (freed_is_right l.script r) [] l.lines;
  ids : AreNamed (take l.place l.lines) l.named;
}

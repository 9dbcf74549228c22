-- The first line that may not stand behind the one before it, of those left, is the first of all.
use Rattle.std.proofs.Common.{◌≡◌, [], take, drop, map}
use Rattle.kms_audit.specs.Indexed.{AreLacking}
use Rattle.kms_audit.specs.Sections.{client_before, comes_behind}
use Rattle.kms_model.specs.declared.reports.Report.{Report}
use Rattle.kms_model.specs.Report.Right.{number_at}
use Rattle.kms_model.specs.Report.RightAnswers.{answer_from, first_off}
use Rattle.kms_audit.proofs.boundaries.boundary_off.Given as goal

abbrev pub invariant-loop-place : goal.invariant-loop-place
invariant-loop-place l = record {
  rest : (r : Report) → AreLacking r l.lacking →
      number_at l.place (first_off (comes_behind r) (take l.place (map answer_from l.replies)) (drop l.place (map answer_from l.replies)))
      ≡ first_off (comes_behind r) [] (map answer_from l.replies);
  before : l.before ≡ client_before (take l.place (map answer_from l.replies));
}

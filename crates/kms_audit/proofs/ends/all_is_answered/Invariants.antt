-- What holds of the commands of the clients that are left holds of all.
use Rattle.std.proofs.Common.{◌≡◌, ◌+◌, drop}
use Rattle.std.specs.List.{list_all}
use Rattle.kms_audit.specs.Ordered.{IsWholeOrder}
use Rattle.kms_model.specs.declared.reports.Report.{Report}
use Rattle.kms_model.specs.Report.Right.{all_is_answered, commands_from}
use Rattle.kms_model.specs.Report.RightAnswers.{has_answer}
use Rattle.kms_audit.proofs.ends.all_is_answered.Given as goal

abbrev pub invariant-loop-at : goal.invariant-loop-at
invariant-loop-at l =
    (r : Report) → IsWholeOrder l.script r l.blocks
    → list_all (has_answer r) (commands_from (l.at + 1) (drop l.at l.script.clients)) ≡ all_is_answered l.script r

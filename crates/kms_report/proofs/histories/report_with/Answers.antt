use Rattle.kms_report.proofs.RightText.{right-result}
use Rattle.kms_report.proofs.histories.report_with.Goals as goal

pub returns-clause-right : goal.returns-clause-right
returns-clause-right g c =
    right-result c.args.core.now.script c.args.core.now.steps c.args.options c.report_by.result c.report_by.ensures
    c.has_no_wrong_line.ensures

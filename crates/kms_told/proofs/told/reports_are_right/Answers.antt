use Rattle.kms_told.proofs.ReportsRight.{report-right}
use Rattle.kms_told.proofs.told.reports_are_right.Goals as goal

pub returns : goal.returns
returns c = report-right

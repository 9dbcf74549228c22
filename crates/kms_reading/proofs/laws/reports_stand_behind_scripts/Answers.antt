use Rattle.kms_reading.proofs.ReportBehind.{report-behind}
use Rattle.kms_reading.proofs.laws.reports_stand_behind_scripts.Goals as goal

pub returns : goal.returns
returns c = report-behind

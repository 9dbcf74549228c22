use Rattle.kms_reading.proofs.SpeltReports.{reports-spelt}
use Rattle.kms_reading.proofs.laws.read_reports_are_their_text.Goals as goal

pub returns : goal.returns
returns c = reports-spelt

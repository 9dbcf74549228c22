use Rattle.kms_read_back.proofs.Grouping.{read-back}
use Rattle.kms_read_back.proofs.laws.reports_are_read_back.Goals as goal

pub returns : goal.returns
returns c = read-back

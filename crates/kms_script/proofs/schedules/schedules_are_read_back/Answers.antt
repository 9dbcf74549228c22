use Rattle.kms_script.proofs.ReadBack.{read_back}
use Rattle.kms_script.proofs.schedules.schedules_are_read_back.Goals as goal

pub returns : goal.returns
returns c = read_back

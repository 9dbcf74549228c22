use Rattle.kms_model.proofs.SoundKept.{execution_keeps_lawful}
use Rattle.kms_model.proofs.laws.execution_keeps_lawful.Goals as goal

pub returns : goal.returns
returns c = execution_keeps_lawful

use Rattle.kms_model.proofs.SoundStart.{start_is_lawful}
use Rattle.kms_model.proofs.laws.start_is_lawful.Goals as goal

pub returns : goal.returns
returns c = start_is_lawful

use Rattle.kms_laws.proofs.RoundsEnd.{rounds-end-below}
use Rattle.kms_laws.proofs.ends.rounds_end.Goals as goal

pub returns : goal.returns
returns c = λ s h formed is most l. rounds-end-below s formed h is most l

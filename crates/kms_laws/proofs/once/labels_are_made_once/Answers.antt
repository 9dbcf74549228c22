use Rattle.kms_laws.proofs.MadeOnce.{made_once}
use Rattle.kms_laws.proofs.once.labels_are_made_once.Goals as goal

pub returns : goal.returns
returns c = made_once

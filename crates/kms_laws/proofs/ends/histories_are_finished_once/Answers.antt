use Rattle.kms_laws.proofs.FinishedOnce.{finished_once}
use Rattle.kms_laws.proofs.ends.histories_are_finished_once.Goals as goal

pub returns : goal.returns
returns c = finished_once

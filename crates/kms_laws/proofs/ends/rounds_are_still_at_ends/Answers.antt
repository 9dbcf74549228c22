use Rattle.kms_laws.proofs.Modes.{plain-from}
use Rattle.kms_laws.proofs.Resting.{rounds-still}
use Rattle.kms_laws.proofs.ends.rounds_are_still_at_ends.Goals as goal

pub returns : goal.returns
returns c = λ s h formed is. rounds-still s (plain-from s formed) h is

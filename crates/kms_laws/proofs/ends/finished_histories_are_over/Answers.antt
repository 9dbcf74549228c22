use Rattle.kms_laws.proofs.Modes.{plain-from}
use Rattle.kms_laws.proofs.Resting.{finished-over}
use Rattle.kms_laws.proofs.ends.finished_histories_are_over.Goals as goal

pub returns : goal.returns
returns c = λ s h formed is finished F. finished-over s (plain-from s formed) h finished is F

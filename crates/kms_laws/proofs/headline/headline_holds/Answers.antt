use Rattle.kms_laws.proofs.Headlines.{headline}
use Rattle.kms_laws.proofs.Modes.{plain-from}
use Rattle.kms_laws.proofs.headline.headline_holds.Goals as goal

pub returns : goal.returns
returns c = λ s h formed is. headline s h (plain-from s formed) is

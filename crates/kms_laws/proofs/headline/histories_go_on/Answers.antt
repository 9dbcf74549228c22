use Rattle.kms_laws.proofs.Modes.{plain-from}
use Rattle.kms_laws.proofs.NeverStuck.{never_stuck}
use Rattle.kms_laws.proofs.headline.histories_go_on.Goals as goal

pub returns : goal.returns
returns c = λ s h formed is. never_stuck s h (plain-from s formed) is

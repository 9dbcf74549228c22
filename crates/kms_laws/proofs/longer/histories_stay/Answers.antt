use Rattle.kms_laws.proofs.LongerScripts.{added_is_longer, histories_stay}
use Rattle.kms_laws.proofs.longer.histories_stay.Goals as goal

pub returns-clause-stay : goal.returns-clause-stay
returns-clause-stay c = histories_stay

pub returns-clause-added : goal.returns-clause-added
returns-clause-added c = added_is_longer

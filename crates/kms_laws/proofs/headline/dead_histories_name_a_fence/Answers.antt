use Rattle.kms_laws.proofs.Modes.{plain-from}
use Rattle.kms_laws.proofs.NeverStuck.{dead_names_a_fence}
use Rattle.kms_laws.proofs.headline.dead_histories_name_a_fence.Goals as goal

pub returns : goal.returns
returns c = λ s h formed is dead. dead_names_a_fence s h (plain-from s formed) is dead

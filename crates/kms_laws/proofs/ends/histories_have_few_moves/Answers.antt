use Rattle.kms_laws.proofs.RoundsEnd.{few-moves}
use Rattle.kms_laws.proofs.ends.histories_have_few_moves.Goals as goal

pub returns : goal.returns
returns c = λ s h formed is. few-moves s formed h is

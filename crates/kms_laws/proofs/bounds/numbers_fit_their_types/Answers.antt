use Rattle.kms_laws.proofs.SmallNumbers.{numbers_fit}
use Rattle.kms_laws.proofs.bounds.numbers_fit_their_types.Goals as goal

pub returns : goal.returns
returns c = numbers_fit

use Rattle.std.proofs.Common.{refl}
use Rattle.kms_model.proofs.refusals.rules.Goals as goal

pub returns : goal.returns
returns c = refl

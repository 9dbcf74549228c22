use Rattle.std.proofs.Common.{refl}
use Rattle.kms_model.proofs.legacy.legacy_rules.Goals as goal

pub returns : goal.returns
returns c = refl

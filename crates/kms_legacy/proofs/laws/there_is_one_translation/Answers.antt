use Rattle.kms_legacy.proofs.OneTranslated.{one_translation}
use Rattle.kms_legacy.proofs.laws.there_is_one_translation.Goals as goal

pub returns : goal.returns
returns c = one_translation

use Rattle.kms_told.proofs.Texts.{text-seen}
use Rattle.kms_told.proofs.told.texts_are_seen.Goals as goal

pub returns : goal.returns
returns c = text-seen

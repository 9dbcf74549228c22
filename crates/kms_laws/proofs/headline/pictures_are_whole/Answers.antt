use Rattle.kms_laws.proofs.Modes.{plain-from}
use Rattle.kms_laws.proofs.Whole.{whole_pictures}
use Rattle.kms_laws.proofs.headline.pictures_are_whole.Goals as goal

pub returns : goal.returns
returns c = λ s h formed is. whole_pictures s h (plain-from s formed) is

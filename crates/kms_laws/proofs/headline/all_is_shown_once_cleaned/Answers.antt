use Rattle.kms_laws.proofs.Headlines.{all_shown}
use Rattle.kms_laws.proofs.Modes.{plain-from}
use Rattle.kms_laws.proofs.headline.all_is_shown_once_cleaned.Goals as goal

pub returns : goal.returns
returns c = λ s h formed is clean crtc within. all_shown s h (plain-from s formed) is clean crtc within

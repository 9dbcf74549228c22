use Rattle.kms_laws.proofs.Modes.{plain-from}
use Rattle.kms_told.proofs.Fits.{events-fit}
use Rattle.kms_told.proofs.told.events_fit.Goals as goal

pub returns : goal.returns
returns c = λ s h formed is client before later e read. events-fit s h (plain-from s formed) is client before later e read

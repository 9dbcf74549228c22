use Rattle.kms_laws.proofs.Headlines.{serial_world}
use Rattle.kms_laws.proofs.Modes.{plain-from}
use Rattle.kms_laws.proofs.headline.world_is_serial.Goals as goal

pub returns : goal.returns
returns c = λ s h formed is. serial_world s h (plain-from s formed) is

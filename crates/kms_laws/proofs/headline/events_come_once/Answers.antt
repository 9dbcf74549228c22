use Rattle.kms_laws.proofs.EventsOnce.{events_once}
use Rattle.kms_laws.proofs.Modes.{plain-from}
use Rattle.kms_laws.proofs.headline.events_come_once.Goals as goal

pub returns : goal.returns
returns c = λ s h formed is client. events_once s h (plain-from s formed) is client

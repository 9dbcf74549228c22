use Rattle.kms_laws.proofs.ReadEvents.{read-told}
use Rattle.kms_laws.proofs.shown.events_read_are_replies.Goals as goal

pub returns : goal.returns
returns c = λ s h formed is client. read-told s h is client

use Rattle.kms_laws.proofs.Busy.{cause_of_busy}
use Rattle.kms_laws.proofs.Modes.{plain-from}
use Rattle.kms_laws.proofs.locks.busy_has_its_cause.Goals as goal

pub returns : goal.returns
returns c = λ s h formed is client r object k e taking. cause_of_busy s h (plain-from s formed) is client r object k e taking

use Rattle.kms_laws.proofs.Modes.{plain-from}
use Rattle.kms_laws.proofs.NoCycle.{no_cycle}
use Rattle.kms_laws.proofs.locks.waits_have_no_cycle.Goals as goal

pub returns : goal.returns
returns c = λ s h formed is client way. no_cycle s h (plain-from s formed) is client way

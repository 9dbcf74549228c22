use Rattle.kms_laws.proofs.ContextsAtAll.{contexts-stand}
use Rattle.kms_laws.proofs.Modes.{plain-from}
use Rattle.kms_laws.proofs.locks.contexts_stand.Goals as goal

pub returns : goal.returns
returns c = λ s h formed is. contexts-stand s h (plain-from s formed) is

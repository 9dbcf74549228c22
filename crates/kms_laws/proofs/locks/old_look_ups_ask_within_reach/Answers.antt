use Rattle.kms_laws.proofs.Modes.{plain-from}
use Rattle.kms_laws.proofs.OldLookUps.{ask_within_reach}
use Rattle.kms_laws.proofs.locks.old_look_ups_ask_within_reach.Goals as goal

pub returns : goal.returns
returns c = λ s h formed is steps legal_steps r resolved d asks old. ask_within_reach s h (plain-from s formed) is steps legal_steps r
    resolved d asks old

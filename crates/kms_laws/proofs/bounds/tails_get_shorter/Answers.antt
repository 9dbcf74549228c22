use Rattle.kms_laws.proofs.Modes.{plain-from}
use Rattle.kms_laws.proofs.ShorterTails.{tails_shorter}
use Rattle.kms_laws.proofs.bounds.tails_get_shorter.Goals as goal

pub returns : goal.returns
returns c = λ s h formed is step legal_step k old. tails_shorter s h (plain-from s formed) is step legal_step k old

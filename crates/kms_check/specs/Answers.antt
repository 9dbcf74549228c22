-- What a check answers.
use Rattle.std.specs.Prelude.{ℕ, Option, Some, None, Result, Ok, Err}
use Rattle.kms_model.specs.declared.states.Checked.{Checked}
use Rattle.kms_model.specs.declared.states.Mask.{Mask}
use Rattle.kms_check.specs.declared.checking.Refused.{Refused}
use Rattle.kms_check.specs.declared.checking.Refused.TheVariants.{Of, MoreLocks}

-- the objects that are still to be duplicated
abbrev pub locks_of : Result Checked Refused → Option Mask
locks_of (Ok checked) = None
locks_of (Err (Of refusal)) = None
locks_of (Err (MoreLocks locks)) = Some locks

-- the number of the refusal
abbrev pub refusal_of : Result Checked Refused → Option ℕ
refusal_of (Ok checked) = None
refusal_of (Err (Of refusal)) = Some refusal.0
refusal_of (Err (MoreLocks locks)) = None

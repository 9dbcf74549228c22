-- the commits so far have no step
use Rattle.std.proofs.Common.{ℕ, ◌≡◌, ◌-◌, ◌<◌, None}
use Rattle.kms_core.proofs.next.TailTurns.{first_of}
use Rattle.kms_core.proofs.next.settling.first_of_tails.Given as goal

abbrev pub invariant-seeking : goal.invariant-seeking
invariant-seeking l = (j : ℕ) → j < l.from → first_of l.core j ≡ None

abbrev pub decreases-seeking : goal.decreases-seeking
decreases-seeking l = 4294967296 - l.from

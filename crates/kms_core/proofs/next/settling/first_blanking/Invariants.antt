use Rattle.std.proofs.Common.{ℕ, ◌≡◌, ◌<◌, false}
use Rattle.kms_core.proofs.next.TailTurns.{has_go}
use Rattle.kms_core.proofs.next.settling.first_blanking.Given as goal

abbrev pub invariant-loop-index : goal.invariant-loop-index
invariant-loop-index l = (n : ℕ) → n < l.index → has_go l.core n ≡ false

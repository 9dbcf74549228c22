use Rattle.std.proofs.Common.{ℕ, ◌≡◌, ◌+◌, ◌<◌, true}
use Rattle.kms_model.specs.Machine.Histories.{is_at_end}
use Rattle.kms_core.specs.Run.{machine}
use Rattle.kms_core.proofs.next.legality.are_at_end.Given as goal

abbrev pub invariant-loop-client : goal.invariant-loop-client
invariant-loop-client l = (n : ℕ) → n < l.client → is_at_end l.core.script (machine l.core) (n + 1) ≡ true

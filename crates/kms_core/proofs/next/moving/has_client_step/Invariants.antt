use Rattle.std.proofs.Common.{ℕ, ◌≡◌, ◌+◌, ◌<◌, false}
use Rattle.std.specs.List.{list_any}
use Rattle.kms_model.specs.Machine.Histories.{steps_of_client}
use Rattle.kms_core.proofs.next.Movers.{able}
use Rattle.kms_core.proofs.next.moving.has_client_step.Given as goal

abbrev pub invariant-loop-client : goal.invariant-loop-client
invariant-loop-client l = (n : ℕ) → n < l.client → list_any (able l.core) (steps_of_client l.core.script.topology (n + 1)) ≡ false

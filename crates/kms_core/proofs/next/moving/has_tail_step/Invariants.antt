-- the commits so far have no step
use Rattle.std.proofs.Common.{ℕ, ◌≡◌, ◌-◌, ◌<◌, false}
use Rattle.std.specs.List.{list_any}
use Rattle.kms_model.specs.Machine.Histories.{steps_of_commit}
use Rattle.kms_core.proofs.next.Movers.{able}
use Rattle.kms_core.proofs.next.moving.has_tail_step.Given as goal

abbrev pub invariant-seeking : goal.invariant-seeking
invariant-seeking l = (j : ℕ) → j < l.from → list_any (able l.core) (steps_of_commit l.core.script.topology j) ≡ false

abbrev pub decreases-seeking : goal.decreases-seeking
decreases-seeking l = 4294967296 - l.from

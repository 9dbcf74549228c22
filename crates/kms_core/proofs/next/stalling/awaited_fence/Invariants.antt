-- the commits so far wait for no such fence
use Rattle.std.proofs.Common.{ℕ, ◌≡◌, ◌-◌, ◌<◌, None}
use Rattle.kms_model.specs.Machine.Histories.{awaited_by}
use Rattle.kms_core.specs.Run.{machine}
use Rattle.kms_core.proofs.next.stalling.awaited_fence.Given as goal

abbrev pub invariant-seeking : goal.invariant-seeking
invariant-seeking l = (j : ℕ) → j < l.from → awaited_by l.core.script.topology (machine l.core) j ≡ None

abbrev pub decreases-seeking : goal.decreases-seeking
decreases-seeking l = 4294967296 - l.from

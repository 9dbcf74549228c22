-- each object so far is there that is in the set
use Rattle.std.proofs.Common.{◌≡◌, ℕ, ◌<◌, true}
use Rattle.std.specs.Prelude.{is_some}
use Rattle.kms_model.specs.Device.Masks.{has_bit}
use Rattle.kms_model.specs.Device.Places.{state_at}
use Rattle.kms_course.proofs.single.deciding.are_there.Given as goal

abbrev pub invariant-loop-index : goal.invariant-loop-index
invariant-loop-index g l = (i : ℕ) → i < l.index → has_bit l.set i ≡ true → is_some (state_at l.states i) ≡ true

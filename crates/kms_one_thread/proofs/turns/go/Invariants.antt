use Rattle.std.proofs.Common.{◌-◌}
use Rattle.kms_one_thread.proofs.Going.{IsGoing}
use Rattle.kms_one_thread.proofs.turns.go.Given as goal

abbrev pub invariant-loop-done : goal.invariant-loop-done
invariant-loop-done l = IsGoing l.fn.core l.core l.client (l._done-end - l._done)

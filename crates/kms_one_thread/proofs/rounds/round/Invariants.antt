use Rattle.std.proofs.Common.{◌-◌}
use Rattle.kms_one_thread.proofs.Rounding.{IsTurning}
use Rattle.kms_one_thread.proofs.rounds.round.Given as goal

abbrev pub invariant-loop-client : goal.invariant-loop-client
invariant-loop-client l = IsTurning l.fn.core l.core l.client (l.client-end - l.client)

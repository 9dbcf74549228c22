use Rattle.kms_histlock.specs.Passes.{IsSamePass}
use Rattle.kms_thread_tests.proofs.pass_calls.turns.work.Given as goal

abbrev pub invariant-loop-step : goal.invariant-loop-step
invariant-loop-step g l = IsSamePass l.fn.pass l.pass

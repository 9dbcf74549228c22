use Rattle.kms_histlock.specs.Passes.{IsSamePass}
use Rattle.kms_thread_tests.proofs.pass_calls.turns.prepare.Given as goal

abbrev pub invariant-loop-thing : goal.invariant-loop-thing
invariant-loop-thing g l = IsSamePass l.fn.pass l.pass

use Rattle.kms_histlock.specs.Passes.{IsSamePass}
use Rattle.kms_thread_tests.proofs.pass_calls.turns.finish.Given as goal

abbrev pub invariant-loop-look : goal.invariant-loop-look
invariant-loop-look g l = IsSamePass l.fn.pass l.pass

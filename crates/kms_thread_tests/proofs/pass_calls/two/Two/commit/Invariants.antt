use Rattle.kms_thread_tests.specs.Pairs.{AreSame}
use Rattle.kms_thread_tests.proofs.pass_calls.two.Two.commit.Given as goal

abbrev pub invariant-loop-time : goal.invariant-loop-time
invariant-loop-time g l = AreSame l.fn.self l.self

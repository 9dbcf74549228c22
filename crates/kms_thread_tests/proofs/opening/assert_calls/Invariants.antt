use Rattle.kms_histlock.specs.Passes.{IsSamePass}
use Rattle.kms_thread_tests.proofs.opening.assert_calls.Given as goal

abbrev pub invariant-loop-seat : goal.invariant-loop-seat
invariant-loop-seat g l = record {
  one : IsSamePass l.fn.one l.one;
  other : IsSamePass l.fn.other l.other;
}

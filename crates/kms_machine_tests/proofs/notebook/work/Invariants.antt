use Rattle.kms_histlock.specs.Passes.{IsSamePass}
use Rattle.kms_machine_tests.proofs.notebook.work.Given as goal

abbrev pub invariant-loop-number : goal.invariant-loop-number
invariant-loop-number g l = IsSamePass l.fn.pass l.pass

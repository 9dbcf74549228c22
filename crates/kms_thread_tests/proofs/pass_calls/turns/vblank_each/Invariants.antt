use Rattle.kms_histlock.specs.Passes.{IsSamePass}
use Rattle.kms_thread_tests.proofs.pass_calls.turns.vblank_each.Given as goal

abbrev pub invariant-loop-crtc : goal.invariant-loop-crtc
invariant-loop-crtc g l = IsSamePass l.fn.pass l.pass

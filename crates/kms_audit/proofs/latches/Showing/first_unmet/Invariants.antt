use Rattle.std.proofs.Common.{◌≡◌}
use Rattle.kms_audit.specs.Latching.{first_unmet}
use Rattle.kms_audit.proofs.latches.Showing.first_unmet.Given as goal

abbrev pub invariant-loop-crtc : goal.invariant-loop-crtc
invariant-loop-crtc l = l.first ≡ first_unmet l.lines l.self.tracks l.crtc

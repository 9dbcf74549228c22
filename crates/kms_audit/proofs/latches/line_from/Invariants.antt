-- The first line of the CRTC from here on is the first from the start on.
use Rattle.std.proofs.Common.{◌≡◌}
use Rattle.kms_audit.specs.Latching.{line_from}
use Rattle.kms_audit.proofs.latches.line_from.Given as goal

abbrev pub invariant-loop-place : goal.invariant-loop-place
invariant-loop-place l = line_from l.lines l.crtc l.place ≡ line_from l.lines l.crtc l.from

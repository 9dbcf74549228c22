-- The first line that stands where it may not, of those left, is the first of all.
use Rattle.kms_audit.proofs.Placing.{IsPlacedTo}
use Rattle.kms_audit.proofs.placed.placed_off.Given as goal

abbrev pub invariant-loop-place : goal.invariant-loop-place
invariant-loop-place l = IsPlacedTo l.crtcs l.lines l.place l.before.crtc l.before.counts

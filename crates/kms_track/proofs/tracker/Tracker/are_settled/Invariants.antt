use Rattle.std.proofs.Common.{◌≡◌, true}
use Rattle.kms_track.specs.Places.{all_below}
use Rattle.kms_track.specs.Tracking.{is_settled}
use Rattle.kms_track.proofs.tracker.Tracker.are_settled.Given as goal

abbrev pub invariant-loop-place : goal.invariant-loop-place
invariant-loop-place l = all_below (is_settled l.self l.tail) l.place ≡ true

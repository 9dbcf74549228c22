use Rattle.std.proofs.Common.{◌≡◌, None}
use Rattle.kms_track.specs.Places.{first_below, object_at_place}
use Rattle.kms_track.specs.Tracking.{with_object, not_yet_at}
use Rattle.kms_track.proofs.tracker.Tracker.not_yet.Given as goal

abbrev pub invariant-loop-index : goal.invariant-loop-index
invariant-loop-index l = first_below (λ i. with_object (object_at_place i) (not_yet_at l.self l.crtcs i)) l.index ≡ None

use Rattle.std.proofs.Common.{◌≡◌, None}
use Rattle.kms_track.specs.Places.{first_below, object_at_place}
use Rattle.kms_track.specs.Tracking.{with_object, busy_at}
use Rattle.kms_track.proofs.tracker.Tracker.busy.Given as goal

abbrev pub invariant-loop-place : goal.invariant-loop-place
invariant-loop-place l = first_below (λ p. with_object (object_at_place p) (busy_at l.self l.objects p)) l.place ≡ None

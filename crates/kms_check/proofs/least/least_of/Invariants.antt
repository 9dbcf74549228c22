use Rattle.std.proofs.Common.{◌≡◌, None}
use Rattle.kms_track.specs.Places.{first_below}
use Rattle.kms_check.specs.Moves.{member_at}
use Rattle.kms_check.proofs.least.least_of.Given as goal

abbrev pub invariant-loop-place : goal.invariant-loop-place
invariant-loop-place l = first_below (member_at l.objects) l.place ≡ None

-- What stays where memory is taken for the tail of a commit.
use Rattle.std.specs.Prelude.{◌≡◌}
use Rattle.kms_signal.specs.FenceSets.{FenceSet}
use Rattle.kms_signal.specs.Queues.{Queue}
use Rattle.kms_track.specs.Tracking.{Tracking}

-- the same commits are kept
pub record SameTracking (old new : Tracking) : Type 0 where
  pub count : new.count ≡ old.count
  pub lasts : new.lasts ≡ old.lasts
  pub tails : new.tails.slots ≡ old.tails.slots

-- all that is stored stays: fences, a queue and commits
pub record KeepsStored (f g : FenceSet) (q longer : Queue) (old new : Tracking) : Type 0 where
  pub fences : g.slots ≡ f.slots
  pub reserved : longer.reserved ≡ q.reserved
  pub unread : longer.unread ≡ q.unread
  pub tracking : SameTracking old new

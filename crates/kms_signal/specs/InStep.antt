-- When fences and a queue stand for what the machine has of them.
use Rattle.std.specs.Prelude.{◌≡◌, ℕ, List, true}
use Rattle.kms_model.specs.Machine.Commits.{has_number}
use Rattle.kms_model.specs.Machine.State.{Events, reserved_at, unread_at}
use Rattle.kms_signal.specs.FenceSets.{FenceSet, is_made, is_signalled}
use Rattle.kms_signal.specs.Queues.{Queue}

-- of each fence that was made, the machine has the same: the ids of those that are signalled
pub record AreFencesOf (fences : FenceSet) (signalled : List ℕ) : Type 0 where
  pub same : (id : ℕ) → is_made fences id ≡ true → is_signalled fences id ≡ has_number signalled id

-- a queue has what the machine has of a client's events
pub record IsQueueOf (q : Queue) (events : Events) (client : ℕ) : Type 0 where
  pub reserved : q.reserved ≡ reserved_at events client
  pub unread : q.unread ≡ unread_at events client

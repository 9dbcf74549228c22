-- How large the numbers of a history become: all of them fit their types.
use Rattle.std.specs.Prelude.{ℕ, ◌+◌, ◌*◌, ◌<◌, ◌≤◌, List, length}
use Rattle.std.specs.List.{All}
use Rattle.kms_model.specs.declared.replies.Step.{Step}
use Rattle.kms_model.specs.declared.runs.Latch.{Latch}
use Rattle.kms_model.specs.declared.scripts.Script.{Script}
use Rattle.kms_model.specs.Machine.Histories.{at}
use Rattle.kms_model.specs.Machine.State.{count_at, doing_at, place_at, reserved_at, unread_at}
use Rattle.kms_model.specs.Machine.Steps.{ticket_of}
use Rattle.kms_model.specs.Promises.{InEachHistory}

-- a latch is of one of the commits, at a CRTC of the device, with a count of at most as many as the steps
pub record LatchFits (s : Script) (h : List Step) (l : Latch) : Type 0 where
  pub commit : l.commit < length (at s h).device.commits
  pub crtc : l.crtc < s.topology.crtcs
  pub count : l.count ≤ length h

-- A script has at most 65536 commands, 4096 of each of 16 clients: so many commits, tickets, accepted commands and replies there
-- are at most. A command makes at most 4 things. A CRTC counts one vblank a step. A client has at most 128 events that
-- are reserved or unread.
pub record NumbersFit (s : Script) (h : List Step) : Type 0 where
  pub commands : (client : ℕ) → (place_at (at s h) client).command ≤ 4097
  pub commits : length (at s h).device.commits ≤ 65536
  pub tickets : (at s h).contexts.tickets ≤ 65536
  pub own_tickets : (client : ℕ) → ticket_of (doing_at (at s h) client) ≤ 65536
  pub journal : length (at s h).records.journal ≤ 65536
  pub replies : length (at s h).records.replies ≤ 65536
  pub ids : (at s h).device.world.next_id ≤ 1000 + 4 * 65536
  pub counts : (crtc : ℕ) → count_at (at s h).device crtc ≤ length h
  pub latches : All (LatchFits s h) (at s h).records.latches
  pub events : (client : ℕ) → reserved_at (at s h).events client + length (unread_at (at s h).events client) ≤ 128

abbrev pub AllNumbersFit : Type 0
AllNumbersFit = InEachHistory NumbersFit

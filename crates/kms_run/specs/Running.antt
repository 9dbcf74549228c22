-- The players of a run, their passes, and the history that they leave. This device's own.
use Rattle.std.specs.Prelude.{◌≡◌, ℕ, ◌+◌, ◌-◌, ◌≤◌, nat_le, true, List, length, map, None, if◌then◌else◌, All, IsPermutation}
use Rattle.std.specs.List.{sum_by}
use Rattle.kms_histlock.specs.Passes.{IsReached, new_passes}
use Rattle.kms_model.specs.declared.replies.Step.{Step}
use Rattle.kms_model.specs.declared.scripts.Script.{Script}
use Rattle.kms_model.specs.Machine.Histories.{is_history}
use Rattle.kms_model.specs.Order.Rounds.{IsFinished}
use Rattle.kms_core.specs.Run.{Run}
use Rattle.kms_laws.specs.Blankings.{blankings}
use Rattle.kms_device.specs.Attempts.{new_attempt}
use Rattle.kms_device.specs.Turns.{DevicePass, SharedDevice}
use Rattle.kms_laws.specs.Ends.{IsOver}
use Rattle.kms_players.specs.declared.any.AnyPlayer.{AnyPlayer}
use Rattle.kms_players.specs.declared.any.AnyPlayer.TheVariants.{Client, Vblank, Worker}
use Rattle.kms_players.specs.Players.{name_of_pass}
use Rattle.kms_run.specs.Answers.{IsContinued}

-- how many players a script has: its clients, four workers, and one vblank player for each CRTC
abbrev pub seats_for : Script → ℕ
seats_for s = length s.clients + 4 + s.topology.crtcs

-- a pass of a device, whose rank is that of one of the players
pub record IsSeat (d : SharedDevice) (p : DevicePass) : Type 0 where
  pub own : p.lock ≡ d.lock
  pub low : 1 ≤ p.rank
  pub high : p.rank ≤ seats_for d.script

-- The player of a pass, by its rank: first each client, by its number from 1 on, then four workers, by a number from 0 on, then
-- the vblank player of each CRTC, by its index. It has had no turn: a client keeps nothing of a request, and a worker has no commit.
module _ {G : Type 0} where
  abbrev pub client_player : SharedDevice → DevicePass → AnyPlayer G
  client_player d p = Client (record { device = d; client = p.rank; pass = p; kept = new_attempt; last = None })

  abbrev pub worker_of : SharedDevice → DevicePass → AnyPlayer G
  worker_of d p = Worker (record { device = d; number = p.rank - length d.script.clients - 1; pass = p; hand = None; last = None })

  abbrev pub tick_of : SharedDevice → DevicePass → AnyPlayer G
  tick_of d p = Vblank (record { device = d; crtc = p.rank - length d.script.clients - 4 - 1; pass = p; last = None })

  abbrev pub player_of : SharedDevice → DevicePass → AnyPlayer G
  player_of d p =
      if nat_le p.rank (length d.script.clients) then client_player d p
      else (if nat_le p.rank (length d.script.clients + 4) then worker_of d p else tick_of d p)

-- all passes of a device, in any order
abbrev pub AreAllPasses : SharedDevice → List DevicePass → Type 0
AreAllPasses d passes = IsPermutation (map name_of_pass (new_passes d.lock d.seats)) (map name_of_pass passes)

-- The history that a device had when it was closed with these passes, continued to its end.
pub record IsFinishedOf (d : SharedDevice) (passes : List DevicePass) (r : Run) : Type 0 where
  pub script : r.script ≡ d.script
  pub left : List Step
  pub made : length left ≡ sum_by (λ p. p.made) passes
  pub reached : All (λ p. IsReached blankings p left) passes
  pub is_history : is_history d.script left ≡ true
  pub is_finished : IsFinished d.script left r.steps
  pub is_over : IsOver d.script r.steps

-- a history of a script that was continued to its end, and is over
pub record IsRunOf (s : Script) (r : Run) : Type 0 where
  pub script : r.script ≡ s
  pub is_continued : IsContinued r.script r.steps
  pub is_over : IsOver r.script r.steps

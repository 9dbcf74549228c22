-- What a turn of a player was, by the player before it and after it, and by what it came to; and what a look at the history's length
-- was. From: this device's own.
use Rattle.std.specs.Prelude.{◌≡◌, ◌≤◌, ℕ, length}
use Rattle.kms_pool.specs.declared.player.Turn.{Turn}
use Rattle.kms_device.specs.Turns.{DevicePass}
use Rattle.kms_players.specs.Players.{ClientState, TickState, WorkerState}
use Rattle.kms_players.specs.PlayerTurns.{ClientTurn, TickTurn, WorkerTurn}

pub record ClientTook (before after : ClientState) (answer : Turn) : Type 0 where
  pub device : after.device ≡ before.device
  pub client : after.client ≡ before.client
  pub turn : ClientTurn before.device.script before.client before.pass before.kept after.pass after.kept answer

pub record WorkerTook (before after : WorkerState) (answer : Turn) : Type 0 where
  pub device : after.device ≡ before.device
  pub number : after.number ≡ before.number
  pub turn : WorkerTurn before.device.script before.pass before.hand after.pass after.hand answer

pub record TickTook (before after : TickState) (answer : Turn) : Type 0 where
  pub device : after.device ≡ before.device
  pub crtc : after.crtc ≡ before.crtc
  pub turn : TickTurn before.device.script before.crtc before.pass after.pass answer

-- A look at the history's length told a number: at least the length of what the pass has seen, and what it has read before. The pass
-- keeps the number.
pub record Reads (old new : DevicePass) (told : ℕ) : Type 0 where
  pub seen : length old.seen ≤ told
  pub before : old.length_read ≤ told
  pub now : new ≡ record old { length_read = told }

-- all else of the player is as it was

pub record ClientLooked (before after : ClientState) (told : ℕ) : Type 0 where
  pub reads : Reads before.pass after.pass told
  pub rest : after ≡ record before { pass = after.pass }

pub record WorkerLooked (before after : WorkerState) (told : ℕ) : Type 0 where
  pub reads : Reads before.pass after.pass told
  pub rest : after ≡ record before { pass = after.pass }

pub record TickLooked (before after : TickState) (told : ℕ) : Type 0 where
  pub reads : Reads before.pass after.pass told
  pub rest : after ≡ record before { pass = after.pass }

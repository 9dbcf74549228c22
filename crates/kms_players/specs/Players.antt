-- Who players are, and what contracts see of them. From: this device's own.
use Rattle.std.specs.Prelude.{ℕ, Option}
use Rattle.kms_model.specs.declared.scripts.Script.{Script}
use Rattle.kms_histlock.specs.Passes.{LockName}
use Rattle.kms_pool.specs.declared.player.Turn.{Turn}
use Rattle.kms_device.specs.declared.attempt.Attempt.{Attempt}
use Rattle.kms_device.specs.Turns.{DevicePass, SharedDevice}

-- who a player is: the lock of its device, and the rank of its pass there
pub record PlayerName : Type 0 where
  pub lock : LockName Script
  pub rank : ℕ

abbrev pub name_of_pass : DevicePass → PlayerName
name_of_pass pass = record { lock = pass.lock; rank = pass.rank }

-- a client, counted from 1: its device, its pass, what it keeps of its request, and what its last turn came to
pub record ClientState : Type 0 where
  pub device : SharedDevice
  pub client : ℕ
  pub pass : DevicePass
  pub kept : Attempt
  pub last : Option Turn

-- a worker, counted from 0, with the number of the commit that it has claimed
pub record WorkerState : Type 0 where
  pub device : SharedDevice
  pub number : ℕ
  pub pass : DevicePass
  pub hand : Option ℕ
  pub last : Option Turn

-- the vblank player of the CRTC with an index
pub record TickState : Type 0 where
  pub device : SharedDevice
  pub crtc : ℕ
  pub pass : DevicePass
  pub last : Option Turn

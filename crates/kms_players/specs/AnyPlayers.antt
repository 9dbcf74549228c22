-- What contracts see of a player of any kind. From: this device's own.
use Rattle.std.specs.Prelude.{ℕ, Option}
use Rattle.kms_pool.specs.declared.player.Turn.{Turn}
use Rattle.kms_device.specs.Turns.{DevicePass}
use Rattle.kms_players.specs.declared.any.AnyPlayer.{AnyPlayer}
use Rattle.kms_players.specs.declared.any.AnyPlayer.TheVariants.{Client, Vblank, Worker}
use Rattle.kms_players.specs.Took.{ClientLooked, ClientTook, TickLooked, TickTook, WorkerLooked, WorkerTook}

module _ {G : Type 0} where
  abbrev pub pass_of : AnyPlayer G → DevicePass
  pass_of (Client c) = c.pass
  pass_of (Worker w) = w.pass
  pass_of (Vblank t) = t.pass

  -- what its last turn came to
  abbrev pub answer_of : AnyPlayer G → Option Turn
  answer_of (Client c) = c.last
  answer_of (Worker w) = w.last
  answer_of (Vblank t) = t.last

  -- what a turn was, which no player spends as one of another kind
  abbrev pub Took : AnyPlayer G → AnyPlayer G → Turn → Type 0
  Took (Client before) (Client after) answer = ClientTook before after answer
  Took (Worker before) (Worker after) answer = WorkerTook before after answer
  Took (Vblank before) (Vblank after) answer = TickTook before after answer
  Took _ _ answer = ⊥

  -- what a look at the history's length was, which no player spends as one of another kind
  abbrev pub Looked : AnyPlayer G → AnyPlayer G → ℕ → Type 0
  Looked (Client before) (Client after) told = ClientLooked before after told
  Looked (Worker before) (Worker after) told = WorkerLooked before after told
  Looked (Vblank before) (Vblank after) told = TickLooked before after told
  Looked _ _ told = ⊥

-- What a client keeps true of itself between its turns. From: this device's own.
use Rattle.std.specs.Prelude.{◌≡◌, ◌≤◌, ◌⊎◌, ℕ, ◌+◌, Bool, true, false, length, is_some, IfSome}
use Rattle.kms_model.specs.declared.runs.Doing.TheVariants as doing
use Rattle.kms_model.specs.declared.runs.Place.{Place}
use Rattle.kms_model.specs.declared.scripts.Script.{Script}
use Rattle.kms_model.specs.Device.Serial.{command_of}
use Rattle.kms_model.specs.Machine.Histories.{is_at_end}
use Rattle.kms_model.specs.Machine.State.{place_at}
use Rattle.kms_pool.specs.declared.player.Turn as pool
use Rattle.kms_pool.specs.declared.player.Turn.TheVariants.{Did, Ended, NotYet}
use Rattle.kms_core.specs.Run.{Run, machine}
use Rattle.kms_device.specs.declared.attempt.Attempt.{Attempt}
use Rattle.kms_device.specs.Attempts.{MayAttempt, Serves, StandsAt, new_attempt}
use Rattle.kms_device.specs.Turns.{DevicePass, SharedDevice, run_seen}
use Rattle.kms_players.specs.declared.site.Standing.{Standing}
use Rattle.kms_players.specs.declared.site.Standing.TheVariants.{At, Attempting, Unknown}
use Rattle.kms_players.specs.PlayerTurns.{PlainTurn, RequestTurn}

-- a pass of the device, and the client of the device's script whose number is its rank
pub record IsAtDevice (device : SharedDevice) (client : ℕ) (pass : DevicePass) : Type 0 where
  pub own : pass.lock ≡ device.lock
  pub whose : pass.rank ≡ client
  pub low : 1 ≤ client
  pub high : client ≤ length device.script.clients

-- a client stands at the command with a number, which is a request, and what it keeps serves for an attempt at it
pub record IsAttempting (r : Run) (client : ℕ) (work : Attempt) (number : ℕ) : Type 0 where
  pub may : MayAttempt r client
  pub at : (place_at (machine r) client).command ≡ number
  pub serves : Serves r client work.kept
  pub stands : IfSome work.place (StandsAt r client)

-- a client stands at a place, and is not at its end
pub record IsKnownAt (r : Run) (client : ℕ) (place : Place) : Type 0 where
  pub stands : StandsAt r client place
  pub goes_on : is_at_end r.script (machine r) client ≡ false

-- What a client knows of where it stands. Where no attempt is under way, what it keeps of its request is new.
abbrev pub Knows : Run → ℕ → Attempt → Standing → Type 0
Knows r client work Unknown = work ≡ new_attempt
Knows r client work (At place) = (work ≡ new_attempt) × IsKnownAt r client place
Knows r client work (Attempting number) = IsAttempting r client work number

-- what it knows that is idle at the command with a number: nothing, where there is none
abbrev pub known_if : ℕ → Bool → Standing
known_if number false = Unknown
known_if number true = At (record { command = number; doing = doing.Idle })

abbrev pub standing_at : Script → ℕ → ℕ → Standing
standing_at script client number = known_if number (is_some (command_of script (record { client = client; command = number })))

-- what it knows behind a turn that began at a place, at no request: with its step it went on to its next command
abbrev pub standing_behind : Script → ℕ → pool.Turn → Place → Standing
standing_behind script client Did place = standing_at script client (place.command + 1)
standing_behind script client (NotYet n) place = At place
standing_behind script client Ended place = Unknown

-- what a client does where it knows that it stands, by the answer; at its end it takes no turn
abbrev pub PlaysAt : Script → ℕ → DevicePass → Attempt → DevicePass → Attempt → pool.Turn → Type 0
PlaysAt script client before old after new Ended =
    (after ≡ before) × (new ≡ old) × (is_at_end script (machine (run_seen script before)) client ≡ true)
PlaysAt script client before old after new answer =
    (PlainTurn script client before after answer × (new ≡ old)) ⊎ RequestTurn script client before old after new answer

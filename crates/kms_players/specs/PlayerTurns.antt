-- What a turn of a player came to. From: "Atomic Mode Setting", `drm_atomic_helper.c`, commit_tail (workers);
-- "Vertical Blanking". That players take turns, one step at a time, is this device's own.
use Rattle.std.specs.Prelude.{◌≡◌, ◌⊎◌, ℕ, Bool, true, false, [], ◌∷◌, length, find, is_some, Option, Some, None, if◌then◌else◌}
use Rattle.std.specs.Option.{option_map}
use Rattle.kms_model.specs.declared.objects.Kind.TheVariants.{Crtc}
use Rattle.kms_model.specs.declared.replies.Reply.{Reply}
use Rattle.kms_model.specs.declared.replies.Step.{Step}
use Rattle.kms_model.specs.declared.replies.Step.TheVariants as step
use Rattle.kms_model.specs.declared.runs.Doing.{Doing}
use Rattle.kms_model.specs.declared.runs.Doing.TheVariants as doing
use Rattle.kms_model.specs.declared.scripts.Command.{Command}
use Rattle.kms_model.specs.declared.scripts.Command.TheVariants as command
use Rattle.kms_model.specs.declared.scripts.Script.{Script}
use Rattle.kms_model.specs.Machine.Histories.{is_at_end, is_drained}
use Rattle.kms_model.specs.Machine.State.{command_at, doing_at}
use Rattle.kms_pool.specs.declared.player.Turn as pool
use Rattle.kms_pool.specs.declared.player.Turn.TheVariants.{Did, Ended, NotYet}
use Rattle.kms_core.specs.Run.{Run, machine}
use Rattle.kms_core.specs.Work.{first_claim}
use Rattle.kms_device.specs.declared.attempt.Attempt.{Attempt}
use Rattle.kms_device.specs.declared.attempt.Attempted.TheVariants as attempted
use Rattle.kms_device.specs.Attempts.{IsAttempt, MayAttempt, Went, new_attempt}
use Rattle.kms_device.specs.Steps.{blanks_at, is_legal, tail_of}
use Rattle.kms_device.specs.Turns.{DevicePass, DeviceTurn, run_seen}

-- A client's turn

-- the step that executes a command; none of a request
abbrev pub step_of_command : ℕ → Command → Option Step
step_of_command client (command.Atomic request) = None
step_of_command client (command.Signal label) = Some (step.Signal client)
step_of_command client command.Wait = Some (step.Read client)
step_of_command client _ = Some (step.Make client)

abbrev pub step_of_place : ℕ → Doing → Option Command → Option Step
step_of_place client (doing.Returning commit) c = Some (step.Return client)
step_of_place client doing.Idle (Some c) = step_of_command client c
step_of_place client _ c = None

-- the step that comes next of a client that is at no request: its return, or that of the command at which it is idle
abbrev pub plain_step : Run → ℕ → Option Step
plain_step r client = step_of_place client (doing_at (machine r) client) (command_at r.script (machine r) client)

-- its next step was legal in the history that was found, and was made
abbrev pub MakesStep : Script → ℕ → DevicePass → DevicePass → Step → Type 0
MakesStep script client before after next =
    DeviceTurn script (λ found. (plain_step found client ≡ Some next) × (is_legal found next ≡ true)) (next ∷ []) before after

-- its next step was not legal in the history of a length that was found
abbrev pub LacksStep : Script → ℕ → ℕ → DevicePass → DevicePass → Step → Type 0
LacksStep script client length_found before after next =
    DeviceTurn script (λ found. (plain_step found client ≡ Some next) × (is_legal found next ≡ false) × (length found.steps ≡ length_found))
    [] before after

-- what became of the step of a client that is at no request, by the answer
abbrev pub PlainTurn : Script → ℕ → DevicePass → DevicePass → pool.Turn → Type 0
PlainTurn script client before after Did = (next : Step) × MakesStep script client before after next
PlainTurn script client before after (NotYet n) = (next : Step) × LacksStep script client n before after next
PlainTurn script client before after Ended = ⊥

-- What became of an attempt, by the answer. Where it goes on it keeps where it left the client; behind a reply all that is kept is new.
abbrev pub AttemptTurn : Script → ℕ → DevicePass → Attempt → DevicePass → Attempt → pool.Turn → Type 0
AttemptTurn script client before old after new Did =
    (IsAttempt script client before old.kept after new.kept attempted.Did × (is_some new.place ≡ true))
    ⊎ ((reply : Reply) × (IsAttempt script client before old.kept after new.kept (attempted.Answered reply) × (new ≡ new_attempt)))
AttemptTurn script client before old after new (NotYet n) =
    IsAttempt script client before old.kept after new.kept (attempted.NotYet n) × (is_some new.place ≡ true)
AttemptTurn script client before old after new Ended = ⊥

-- a client that stands at a request, and does not wait for a commit of its own, made an attempt at it
pub record RequestTurn (script : Script) (client : ℕ) (before : DevicePass) (old : Attempt) (after : DevicePass) (new : Attempt)
    (answer : pool.Turn) : Type 0 where
  pub may : MayAttempt (run_seen script before) client
  pub attempt : AttemptTurn script client before old after new answer

-- It was told where it stands, unless it knew, which makes no step: then it made its step, and keeps what it kept, or an attempt.
pub record Plays (script : Script) (client : ℕ) (before : DevicePass) (old : Attempt) (after : DevicePass) (new : Attempt)
    (answer : pool.Turn) : Type 0 where
  pub told : DevicePass
  pub went : Went [] before told
  pub did : (PlainTurn script client told after answer × (new ≡ old)) ⊎ RequestTurn script client told old after new answer

-- a client's turn, by its answer
abbrev pub ClientTurn : Script → ℕ → DevicePass → Attempt → DevicePass → Attempt → pool.Turn → Type 0
ClientTurn script client before old after new Ended =
    DeviceTurn script (λ found. is_at_end found.script (machine found) client ≡ true) [] before after × (new ≡ old)
ClientTurn script client before old after new answer = Plays script client before old after new answer

-- A turn of a worker or a vblank player

-- The one step that it may do in a history is done in the history that was found.
abbrev pub DoesStep : Script → (Run → Option Step) → DevicePass → DevicePass → Step → Type 0
DoesStep script step_in before after next = DeviceTurn script (λ found. step_in found ≡ Some next) (next ∷ []) before after

-- It found that it may do none, in a history of a length, and whether that history is drained.
abbrev pub FindsNoStep : Script → (Run → Option Step) → ℕ → Bool → DevicePass → DevicePass → Type 0
FindsNoStep script step_in length_found drained before after =
    DeviceTurn script
    (λ found. (step_in found ≡ None) × (length found.steps ≡ length_found) × (is_drained found.script (machine found) ≡ drained)) [] before
    after

-- what a turn comes to that found nothing to do in a history of a length, by whether the history is drained
abbrev pub told_at : ℕ → Bool → pool.Turn
told_at length_found false = NotYet length_found
told_at length_found true = Ended

-- What a worker may do: the claim of the least commit that may be claimed, or what is left first of the commit in its hand.
abbrev pub step_of_worker : Option ℕ → Run → Option Step
step_of_worker None r = option_map step.Claim (first_claim r)
step_of_worker (Some k) r = find (is_legal r) (tail_of r.script.topology k)

-- the commit that a worker has claimed after a step, until it is cleaned up
abbrev pub hand_after : Option ℕ → Step → Option ℕ
hand_after hand (step.Claim k) = Some k
hand_after hand (step.Cleanup k) = None
hand_after hand _ = hand

-- a worker's turn, by its answer
abbrev pub WorkerTurn : Script → DevicePass → Option ℕ → DevicePass → Option ℕ → pool.Turn → Type 0
WorkerTurn script before old after new Did =
    (next : Step) × DoesStep script (step_of_worker old) before after next × (new ≡ hand_after old next)
WorkerTurn script before old after new (NotYet n) = FindsNoStep script (step_of_worker old) n false before after × (new ≡ old)
WorkerTurn script before old after new Ended = ((n : ℕ) × FindsNoStep script (step_of_worker old) n true before after) × (new ≡ old)

-- the step of a vblank player: a vblank at which the CRTC latches a commit
abbrev pub step_of_tick : ℕ → Run → Option Step
step_of_tick crtc r = if blanks_at r crtc then Some (step.Vblank Crtc crtc) else None

-- a turn of a vblank player, by its answer
abbrev pub TickTurn : Script → ℕ → DevicePass → DevicePass → pool.Turn → Type 0
TickTurn script crtc before after Did = DoesStep script (step_of_tick crtc) before after (step.Vblank Crtc crtc)
TickTurn script crtc before after (NotYet n) = FindsNoStep script (step_of_tick crtc) n false before after
TickTurn script crtc before after Ended = (n : ℕ) × FindsNoStep script (step_of_tick crtc) n true before after

-- What calls that clients make where they are idle, or returning, ask for and answer. From: `drm_file.c`, drm_read;
-- "Atomic Mode Setting", a commit that blocks.
use Rattle.std.specs.Prelude.{ℕ, ◌≡◌, ◌≤◌, not, ◌&&◌, Bool, true, false, zero, suc, List, [], ◌∷◌, ◌++◌, length, Option, Some, None}
use Rattle.kms_model.specs.declared.objects.Topology.{Topology}
use Rattle.kms_model.specs.declared.replies.Answered.{Answered}
use Rattle.kms_model.specs.declared.replies.Event.{Event}
use Rattle.kms_model.specs.declared.replies.Reply.{Reply}
use Rattle.kms_model.specs.declared.replies.Reply.TheVariants as reply
use Rattle.kms_model.specs.declared.replies.Step.{Step}
use Rattle.kms_model.specs.declared.replies.Step.TheVariants.{Make, Signal, Read, Return}
use Rattle.kms_model.specs.declared.scripts.Command.{Command}
use Rattle.kms_model.specs.declared.scripts.Command.TheVariants as command
use Rattle.kms_model.specs.declared.tables.Slot.{Slot}
use Rattle.kms_model.specs.declared.worlds.Thing.{Thing}
use Rattle.kms_model.specs.declared.worlds.World.{World}
use Rattle.kms_model.specs.Device.Execution.{execute}
use Rattle.kms_model.specs.Device.World.{thing_labelled}
use Rattle.kms_model.specs.Machine.Commits.{id_of_thing, is_cleaned}
use Rattle.kms_model.specs.Machine.Histories.{legal}
use Rattle.kms_model.specs.Machine.State.{Machine, command_at, doing_at, reserved_at, unread_at}
use Rattle.kms_model.specs.Machine.Steps.{idle_at, is_idle, is_wait, returning_of}
use Rattle.kms_model.specs.Things.Tables.{slot}
use Rattle.kms_core.specs.Run.{Run, machine}

-- Commands that are executed at once

-- the client is idle at a command that makes or closes a thing, and the history was not ended
abbrev pub MayMake : Run → ℕ → Type 0
MayMake r client = legal r.script (machine r) (Make client) ≡ true

-- the same at a `signal`
abbrev pub MaySignal : Run → ℕ → Type 0
MaySignal r client = legal r.script (machine r) (Signal client) ≡ true

abbrev pub reply_to_command : Topology → World → ℕ → Option Command → Reply
reply_to_command t w client None = reply.NoEvent
reply_to_command t w client (Some c) = (execute t w client c).reply

-- what is answered to the command at which a client stands
abbrev pub reply_at : Run → ℕ → Reply
reply_at r client =
    reply_to_command r.script.topology (machine r).device.world client (command_at r.script (machine r) client)

-- a `fence` makes a fence, with the id of its thing
abbrev pub with_fence_of : Command → ℕ → List (Slot Bool) → List (Slot Bool)
with_fence_of (command.Fence label) id slots = slots ++ slot id false ∷ []
with_fence_of _ id slots = slots

abbrev pub fence_if_done : Reply → Option Thing → Option ℕ
fence_if_done reply.Done thing = id_of_thing thing
fence_if_done _ thing = None

-- the fence that a `signal` signals, where that is done
abbrev pub fence_of : List Thing → Command → Reply → Option ℕ
fence_of things (command.Signal label) r = fence_if_done r (thing_labelled things label)
fence_of things _ r = None

-- what there may be, where a test says so
abbrev pub only_if : {A : Type 0} → Bool → Option A → Option A
only_if false o = None
only_if true o = o

-- the command at which a client is idle
abbrev pub idle_command_at : Run → ℕ → Option Command
idle_command_at r client = only_if (is_idle (doing_at (machine r) client)) (command_at r.script (machine r) client)

-- Events

-- the client is idle at a `wait`
abbrev pub MayRead : Run → ℕ → Type 0
MayRead r client = idle_at r.script (machine r) client is_wait ≡ true

abbrev pub no_event_unless : ℕ → Option Reply
no_event_unless zero = Some reply.NoEvent
no_event_unless (suc n) = None

-- what a `wait` is answered, by the unread events and by how many are reserved: none where it has to wait
abbrev pub read_reply : List Event → ℕ → Option Reply
read_reply [] reserved = no_event_unless reserved
read_reply (event ∷ events) reserved = Some (reply.Event event)

-- nothing is answered after the end of the history
abbrev pub unless_ended : Bool → Option Reply → Option Reply
unless_ended true answer = None
unless_ended false answer = answer

abbrev pub read_reply_at : Run → ℕ → Option Reply
read_reply_at r client = unless_ended (machine r).stalled
    (read_reply (unread_at (machine r).events client) (reserved_at (machine r).events client))

abbrev pub read_step : ℕ → Option Reply → List Step
read_step client None = []
read_step client (Some r) = Read client ∷ []

-- Commits that are waited for

-- the client is one of the script's and returns from a commit
pub record MayReturn (r : Run) (client : ℕ) : Type 0 where
  pub low : 1 ≤ client
  pub high : client ≤ length r.script.clients
  pub commit : ℕ
  pub returning : returning_of (doing_at (machine r) client) ≡ Some commit

abbrev pub is_some_cleaned : Machine → Option ℕ → Bool
is_some_cleaned m None = false
is_some_cleaned m (Some k) = is_cleaned m.device k

-- the commit that a client waits for is cleaned, and the history was not ended
abbrev pub is_over_at : Run → ℕ → Bool
is_over_at r client = not (machine r).stalled && is_some_cleaned (machine r) (returning_of (doing_at (machine r) client))

abbrev pub return_step : ℕ → Bool → List Step
return_step client false = []
return_step client true = Return client ∷ []

-- What is recorded

abbrev pub answered : ℕ → ℕ → ℕ → Reply → Answered
answered client command place r = record { client = client; command = command; place = place; reply = r }

-- the journal with a command more, where it is accepted
abbrev pub joined : List (ℕ × ℕ) → Bool → ℕ → ℕ → List (ℕ × ℕ)
joined journal false client command = journal
joined journal true client command = journal ++ (client, command) ∷ []

-- That fences and queues which are told of each step of a machine stand for the machine's after it.
use Rattle.std.specs.Prelude.{◌≡◌, ◌≢◌, ◌==◌, ℕ, ◌+◌, Bool, true, false, length, Option, Some, None, if◌then◌else◌}
use Rattle.kms_model.specs.declared.objects.Kind.TheVariants.{Crtc}
use Rattle.kms_model.specs.declared.objects.Topology.{Topology}
use Rattle.kms_model.specs.declared.replies.Reply.TheVariants as reply
use Rattle.kms_model.specs.declared.replies.Step.{Step}
use Rattle.kms_model.specs.declared.replies.Step.TheVariants.{Swap, Signal, Claim, Write, Flush, HwDone, Vblank, Cleanup, Read}
use Rattle.kms_model.specs.declared.scripts.Command.TheVariants as command
use Rattle.kms_model.specs.declared.scripts.Request.{Request}
use Rattle.kms_model.specs.declared.scripts.Script.{Script}
use Rattle.kms_model.specs.declared.worlds.Thing.{Thing}
use Rattle.kms_model.specs.Device.Execution.{execute}
use Rattle.kms_model.specs.Device.Objects.{object_id}
use Rattle.kms_model.specs.Device.World.{thing_labelled}
use Rattle.kms_model.specs.Machine.Commits.{asks_event, commit_at, new_crtc, out_fence_of}
use Rattle.kms_model.specs.Machine.Effects.{event_of, next}
use Rattle.kms_model.specs.Machine.State.{Commit, Machine, command_at, count_at, go_at, place_at, request_at}
use Rattle.kms_model.specs.Request.Flags.{wants_event}
use Rattle.kms_model.specs.Request.Named.{named}
use Rattle.kms_model.specs.Things.Tables.{with_value}
use Rattle.kms_signal.specs.FenceSets.{FenceSet}
use Rattle.kms_signal.specs.InStep.{AreFencesOf, IsQueueOf}
use Rattle.kms_signal.specs.Queues.{Queue, after_read, delivers, reserves}

-- Fences

abbrev pub with_signal : FenceSet → Option ℕ → FenceSet
with_signal fences None = fences
with_signal fences (Some id) = record fences { slots = with_value fences.slots id true }

-- the fences after a commit has latched at a CRTC: its out-fence there, if it has one, is signalled
abbrev pub latched_fences : Topology → Machine → ℕ → ℕ → FenceSet → FenceSet
latched_fences t m k crtc fences = with_signal fences (out_fence_of t m.device.commits k crtc)

-- the steps that signal no fence
abbrev pub signals_nothing : Step → Bool
signals_nothing (Signal client) = false
signals_nothing (Flush k kind index) = false
signals_nothing (Vblank kind index) = false
signals_nothing _ = true

abbrev pub FencesFollowSignal : Type 0
FencesFollowSignal =
    (s : Script) (m : Machine) (client label : ℕ) (thing : Thing) (fences : FenceSet)
    → command_at s m client ≡ Some (command.Signal label)
    → (execute s.topology m.device.world client (command.Signal label)).reply ≡ reply.Done
    → thing_labelled m.device.world.things label ≡ Some thing → AreFencesOf fences m.device.signalled
    → AreFencesOf (with_signal fences (Some thing.id)) (next s m (Signal client)).device.signalled

abbrev pub FencesFollowRefusedSignal : Type 0
FencesFollowRefusedSignal =
    (s : Script) (m : Machine) (client label : ℕ) (fences : FenceSet)
    → command_at s m client ≡ Some (command.Signal label)
    → (execute s.topology m.device.world client (command.Signal label)).reply ≢ reply.Done → AreFencesOf fences m.device.signalled
    → AreFencesOf fences (next s m (Signal client)).device.signalled

abbrev pub FencesFollowTheOthers : Type 0
FencesFollowTheOthers =
    (s : Script) (m : Machine) (step : Step) (fences : FenceSet)
    → signals_nothing step ≡ true → AreFencesOf fences m.device.signalled → AreFencesOf fences (next s m step).device.signalled

-- Queues

-- the queue of the commit's client after the commit has latched at a CRTC: its event there, if it asks for one, is delivered
abbrev pub latched_queue : Topology → Machine → ℕ → ℕ → ℕ → Queue → Queue
latched_queue t m k crtc count q = if asks_event t m.device.commits k then delivers q (event_of t m k crtc count) else q

-- the queue of a client after its swap: an event for each CRTC that the request names is reserved, if it asks for them
abbrev pub swapped_queue : Topology → Machine → Request → ℕ → Queue → Queue
swapped_queue t m r room q = if wants_event r.flags then reserves q (length (named t m.device.world r)) room else q

abbrev pub client_of : Topology → Machine → ℕ → ℕ
client_of t m k = (commit_at t m.device.commits k).client

-- the steps that leave all clients' events as they are
abbrev pub keeps_events : Step → Bool
keeps_events (Swap client) = false
keeps_events (Flush k kind index) = false
keeps_events (Vblank kind index) = false
keeps_events (Read client) = false
keeps_events _ = true

abbrev pub QueuesFollowSwap : Type 0
QueuesFollowSwap =
    (s : Script) (m : Machine) (client : ℕ) (r : Request) (q : Queue) (room : ℕ)
    → request_at s m client ≡ Some r → IsQueueOf q m.events client
    → IsQueueOf (swapped_queue s.topology m r room q) (next s m (Swap client)).events client

abbrev pub QueuesFollowOthersSwap : Type 0
QueuesFollowOthersSwap =
    (s : Script) (m : Machine) (client other : ℕ) (q : Queue)
    → (client == other) ≡ false → IsQueueOf q m.events other → IsQueueOf q (next s m (Swap client)).events other

abbrev pub QueuesFollowRead : Type 0
QueuesFollowRead =
    (s : Script) (m : Machine) (client : ℕ) (q : Queue)
    → IsQueueOf q m.events client → IsQueueOf (after_read q) (next s m (Read client)).events client

abbrev pub QueuesFollowOthersRead : Type 0
QueuesFollowOthersRead =
    (s : Script) (m : Machine) (client other : ℕ) (q : Queue)
    → (client == other) ≡ false → IsQueueOf q m.events other → IsQueueOf q (next s m (Read client)).events other

abbrev pub QueuesFollowTheOthers : Type 0
QueuesFollowTheOthers =
    (s : Script) (m : Machine) (step : Step) (q : Queue) (client : ℕ)
    → keeps_events step ≡ true → IsQueueOf q m.events client → IsQueueOf q (next s m step).events client

-- Flushes and vblanks, of fences, of the queue of the commit's client, and of those of other clients

-- what a flush or a vblank that latches nothing leaves
pub record LeavesSignals (old new : Machine) : Type 0 where
  pub fences : (fences : FenceSet) → AreFencesOf fences old.device.signalled → AreFencesOf fences new.device.signalled
  pub queues : (q : Queue) (client : ℕ) → IsQueueOf q old.events client → IsQueueOf q new.events client

-- what a latch of a commit at a CRTC makes, with the count
pub record LatchesSignals (t : Topology) (old new : Machine) (k crtc count : ℕ) : Type 0 where
  pub fences : (fences : FenceSet) → AreFencesOf fences old.device.signalled
      → AreFencesOf (latched_fences t old k crtc fences) new.device.signalled
  pub queue :
      (q : Queue) → IsQueueOf q old.events (client_of t old k)
      → IsQueueOf (latched_queue t old k crtc count q) new.events (client_of t old k)
  pub others :
      (q : Queue) (other : ℕ) → (client_of t old k == other) ≡ false → IsQueueOf q old.events other → IsQueueOf q new.events other

abbrev pub FollowFlush : Type 0
FollowFlush =
    (s : Script) (m : Machine) (k index : ℕ)
    → (new_crtc s.topology m.device.commits k (object_id Crtc index)).active ≡ true
    → LeavesSignals m (next s m (Flush k Crtc index))

abbrev pub FollowFlushOff : Type 0
FollowFlushOff =
    (s : Script) (m : Machine) (k index : ℕ)
    → (new_crtc s.topology m.device.commits k (object_id Crtc index)).active ≡ false
    → LatchesSignals s.topology m (next s m (Flush k Crtc index)) k (object_id Crtc index) (count_at m.device (object_id Crtc index))

abbrev pub FollowVblank : Type 0
FollowVblank =
    (s : Script) (m : Machine) (index : ℕ)
    → go_at m.device (object_id Crtc index) ≡ None → LeavesSignals m (next s m (Vblank Crtc index))

abbrev pub FollowVblankWithGo : Type 0
FollowVblankWithGo =
    (s : Script) (m : Machine) (k index : ℕ)
    → go_at m.device (object_id Crtc index) ≡ Some k
    → LatchesSignals s.topology m (next s m (Vblank Crtc index)) k (object_id Crtc index) (count_at m.device (object_id Crtc index) + 1)

-- Commits

-- the commit that a swap sets up
abbrev pub new_commit : Machine → ℕ → Request → Commit
new_commit m client r = record { client = client; command = (place_at m client).command; request = r; world = m.device.world }

-- the steps of clients, but swaps, and `stall`: they leave commits and what was done of them as they are
abbrev pub leaves_commits : Step → Bool
leaves_commits (Swap client) = false
leaves_commits (Claim k) = false
leaves_commits (Write k kind index) = false
leaves_commits (Flush k kind index) = false
leaves_commits (HwDone k) = false
leaves_commits (Vblank kind index) = false
leaves_commits (Cleanup k) = false
leaves_commits _ = true

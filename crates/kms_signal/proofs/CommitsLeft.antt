-- What speaks of commits and of what was done of them is left alone by the steps of clients, but swaps.
use Rattle.std.proofs.Common.{◌≡◌, ℕ, List, [], ◌∷◌, Bool, true, false, Option, Some, None, inl, inr}
use Rattle.std.specs.Prelude.{if◌then◌else◌}
use Rattle.std.proofs.lemmas.Bool.{cases_Bool, false≢true}
use Rattle.kms_model.specs.declared.objects.Topology.{Topology}
use Rattle.kms_model.specs.declared.replies.Event.{Event}
use Rattle.kms_model.specs.declared.replies.Reply.{Reply}
use Rattle.kms_model.specs.declared.replies.Reply.TheVariants as reply
use Rattle.kms_model.specs.declared.replies.Step.{Step}
use Rattle.kms_model.specs.declared.replies.Step.TheVariants.{Begin, Lock, BackOff, Relock, Refuse, Test, Swap, Make, Signal, Read, Return}
use Rattle.kms_model.specs.declared.replies.Step.TheVariants.{Stall}
use Rattle.kms_model.specs.declared.runs.Latch.{Latch}
use Rattle.kms_model.specs.declared.scripts.Command.{Command}
use Rattle.kms_model.specs.declared.scripts.Command.TheVariants as command
use Rattle.kms_model.specs.declared.scripts.Request.{Request}
use Rattle.kms_model.specs.declared.scripts.Script.{Script}
use Rattle.kms_model.specs.Device.Execution.{execute}
use Rattle.kms_model.specs.Device.Objects.{object_id}
use Rattle.kms_model.specs.Device.World.{thing_labelled}
use Rattle.kms_model.specs.Machine.Commits.{asks_event, id_of_thing, out_fence_of}
use Rattle.kms_model.specs.Machine.Effects.{answers, delivers, delivers_if, fence_signalled, joins_if, latches, latches_picture, locked}
use Rattle.kms_model.specs.Machine.Effects.{made_thing, next, reads, refused, relocked, signalled_by, signals, swapped_state}
use Rattle.kms_model.specs.Machine.State.{Commit, Machine, Marks, command_at, doing_at, holder_at, place_at, request_at, unread_at}
use Rattle.kms_model.specs.Machine.Steps.{contended}
use Rattle.kms_model.specs.Request.Flags.{is_nonblock, wants_event}
use Rattle.kms_signal.specs.StepLaws.{leaves_commits}

module _ (P : List Commit → Marks → List Latch → Type 0) where
  abbrev Of : Machine → Type 0
  Of m = P m.device.commits m.device.marks m.records.latches

  either : (b : Bool) (x y : Machine) → Of x → Of y → Of (if b then x else y)
  either true x y first second = first
  either false x y first second = second

  signals_leave : (m : Machine) (fence : Option ℕ) → Of m → Of (signals m fence)
  signals_leave m None of = of
  signals_leave m (Some id) of = of

  lock_leaves : (m : Machine) (client object : ℕ) (holder : Option ℕ) → Of m → Of (locked m client object holder)
  lock_leaves m client object None of = of
  lock_leaves m client object (Some other) of = of

  relock_leaves : (m : Machine) (client : ℕ) (object : Option ℕ) → Of m → Of (relocked m client object)
  relock_leaves m client None of = of
  relock_leaves m client (Some object) of = of

  refuse_leaves : (t : Topology) (m : Machine) (client : ℕ) (r : Option Request) → Of m → Of (refused t m client r)
  unfolding refused
  refuse_leaves t m client None of = of
  refuse_leaves t m client (Some r) of = of

  joins_leaves : (m : Machine) (client : ℕ) (b : Bool) → Of m → Of (joins_if b m client)
  joins_leaves m client true of = of
  joins_leaves m client false of = of

  make_leaves : (t : Topology) (m : Machine) (client : ℕ) (c : Option Command) → Of m → Of (made_thing t m client c)
  unfolding made_thing
  make_leaves t m client None of = of
  make_leaves t m client (Some c) of = joins_leaves _ client _ of

  fence_leaves : (m : Machine) (c : Command) (r : Reply) → Of m → Of (fence_signalled m (Some c) r)
  fence_leaves m (command.Signal label) reply.Done of = signals_leave m (id_of_thing (thing_labelled m.device.world.things label)) of
  fence_leaves m c r of = of

  signal_leaves : (t : Topology) (m : Machine) (client : ℕ) (c : Option Command) → Of m → Of (signalled_by t m client c)
  signal_leaves t m client None of = of
  signal_leaves t m client (Some c) of = fence_leaves (answers m client (execute t m.device.world client c).reply) c
      (execute t m.device.world client c).reply of

  read_leaves : (m : Machine) (client : ℕ) (events : List Event) → Of m → Of (reads m client events)
  read_leaves m client [] of = of
  read_leaves m client (event ∷ events) of = of

  pub commits_left : (s : Script) (m : Machine) (step : Step) → leaves_commits step ≡ true → Of m → Of (next s m step)
  unfolding next
  commits_left s m (Lock client kind index) leaves of = lock_leaves m client (object_id kind index) (holder_at m (object_id kind index)) of
  commits_left s m (Relock client) leaves of = relock_leaves m client (contended (doing_at m client)) of
  commits_left s m (Refuse client) leaves of = refuse_leaves s.topology m client (request_at s m client) of
  commits_left s m (Make client) leaves of = make_leaves s.topology m client (command_at s m client) of
  commits_left s m (Signal client) leaves of = signal_leaves s.topology m client (command_at s m client) of
  commits_left s m (Read client) leaves of = read_leaves m client (unread_at m.events client) of
  commits_left s m (Begin client) leaves of = of
  commits_left s m (BackOff client) leaves of = of
  commits_left s m (Test client) leaves of = of
  commits_left s m (Return client) leaves of = of
  commits_left s m Stall leaves of = of
  commits_left s m _ leaves of = absurd (false≢true leaves)

  -- a swap leaves the marks of other commits, and adds its own
  pub swap_adds : (s : Script) (m : Machine) (client : ℕ) (r : Request) → request_at s m client ≡ Some r
      → P (record { client = client; command = (place_at m client).command; request = r; world = m.device.world } ∷ m.device.commits)
      m.device.marks m.records.latches → Of (next s m (Swap client))
  unfolding next swapped_state
  swap_adds s m client r is now =
      rw is (elim (cases_Bool (wants_event r.flags)) [
        | inl event ↦ rw event (either (is_nonblock r.flags) _ _ now now)
        | inr none ↦ rw none (either (is_nonblock r.flags) _ _ now now)
      ])

  -- a latch changes what its picture does, whether or not it delivers an event and signals a fence
  pub latch_leaves : (t : Topology) (m : Machine) (k crtc count : ℕ) → Of (latches_picture t m k crtc count) → Of (latches t m k crtc count)
  unfolding latches
  latch_leaves t m k crtc count now =
      signals_leave (delivers_if t (latches_picture t m k crtc count) k crtc count) (out_fence_of t m.device.commits k crtc)
      (either (asks_event t m.device.commits k) (delivers t (latches_picture t m k crtc count) k crtc count)
      (latches_picture t m k crtc count) now now)

-- Fences and queues that are told of each step of a machine stay in step with it.
use Rattle.std.proofs.Common.{◌≡◌, ◌≢◌, ℕ, ◌+◌, List, [], ◌∷◌, length, Bool, true, false, Option, Some, None, inl, inr, refl, sym, ◌∙◌}
use Rattle.std.proofs.Common.{subst}
use Rattle.std.specs.Prelude.{◌==◌, if◌then◌else◌}
use Rattle.std.proofs.lemmas.Bool.{cases_Bool, false≢true}
use Rattle.kms_model.specs.declared.objects.Kind.TheVariants.{Crtc}
use Rattle.kms_model.specs.declared.objects.Topology.{Topology}
use Rattle.kms_model.specs.declared.replies.Event.{Event}
use Rattle.kms_model.specs.declared.replies.Reply.{Reply}
use Rattle.kms_model.specs.declared.replies.Reply.TheVariants as reply
use Rattle.kms_model.specs.declared.replies.Step.{Step}
use Rattle.kms_model.specs.declared.replies.Step.TheVariants.{Begin, Lock, BackOff, Relock, Refuse, Test, Swap, Make, Signal, Claim, Write}
use Rattle.kms_model.specs.declared.replies.Step.TheVariants.{Flush, HwDone, Vblank, Cleanup, Read, Return, Stall}
use Rattle.kms_model.specs.declared.scripts.Command.{Command}
use Rattle.kms_model.specs.declared.scripts.Command.TheVariants as command
use Rattle.kms_model.specs.declared.scripts.Request.{Request}
use Rattle.kms_model.specs.declared.scripts.Script.{Script}
use Rattle.kms_model.specs.declared.worlds.Thing.{Thing}
use Rattle.kms_model.specs.Device.Execution.{execute}
use Rattle.kms_model.specs.Device.Objects.{object_id}
use Rattle.kms_model.specs.Device.World.{thing_labelled}
use Rattle.kms_model.specs.Machine.Commits.{asks_event, id_of_thing, new_crtc, out_fence_of}
use Rattle.kms_model.specs.Machine.Effects.{answers, counts_vblank, delivers_if, event_of, fence_signalled, joins_if, latches}
use Rattle.kms_model.specs.Machine.Effects.{latches_picture, locked, made_thing, next, reads, refused, relocked, signalled_by, signals}
use Rattle.kms_model.specs.Machine.Effects.{swapped_state}
use Rattle.kms_model.specs.Machine.State.{Machine, command_at, count_at, doing_at, go_at, holder_at, request_at, reserved_at, unread_at}
use Rattle.kms_model.specs.Machine.Steps.{contended}
use Rattle.kms_model.specs.Request.Flags.{is_nonblock, wants_event}
use Rattle.kms_model.specs.Request.Named.{named}
use Rattle.kms_signal.specs.FenceSets.{FenceSet}
use Rattle.kms_signal.specs.InStep.{AreFencesOf, IsQueueOf}
use Rattle.kms_signal.specs.Queues.{Queue, after_read, after_read_of, reserves}
use Rattle.kms_signal.specs.StepLaws.{LatchesSignals, LeavesSignals, client_of, keeps_events, latched_queue, signals_nothing, swapped_queue}
use Rattle.kms_signal.specs.StepLaws.{with_signal}
use Rattle.kms_signal.proofs.InStepLemmas as steps
use Rattle.kms_signal.proofs.InStepLemmas.{event_delivered, event_read, events_reserved, others_reserved, others_unread}

-- Fences

on_either : (b : Bool) (x y : Machine) (fences : FenceSet) → AreFencesOf fences x.device.signalled → AreFencesOf fences y.device.signalled
    → AreFencesOf fences (if b then x else y).device.signalled
on_either true x y fences first second = first
on_either false x y fences first second = second

lock_stands : (m : Machine) (client object : ℕ) (holder : Option ℕ) (fences : FenceSet) → AreFencesOf fences m.device.signalled
    → AreFencesOf fences (locked m client object holder).device.signalled
lock_stands m client object None fences stand = stand
lock_stands m client object (Some other) fences stand = stand

relock_stands : (m : Machine) (client : ℕ) (object : Option ℕ) (fences : FenceSet) → AreFencesOf fences m.device.signalled
    → AreFencesOf fences (relocked m client object).device.signalled
relock_stands m client None fences stand = stand
relock_stands m client (Some object) fences stand = stand

refuse_stands : (t : Topology) (m : Machine) (client : ℕ) (r : Option Request) (fences : FenceSet) → AreFencesOf fences m.device.signalled
    → AreFencesOf fences (refused t m client r).device.signalled
unfolding refused
refuse_stands t m client None fences stand = stand
refuse_stands t m client (Some r) fences stand = stand

swap_stands : (t : Topology) (m : Machine) (client : ℕ) (r : Option Request) (fences : FenceSet) → AreFencesOf fences m.device.signalled
    → AreFencesOf fences (swapped_state t m client r).device.signalled
unfolding swapped_state
swap_stands t m client None fences stand = stand
swap_stands t m client (Some r) fences stand =
    elim (cases_Bool (wants_event r.flags)) [
      | inl event ↦ rw event (on_either (is_nonblock r.flags) _ _ fences stand stand)
      | inr none ↦ rw none (on_either (is_nonblock r.flags) _ _ fences stand stand)
    ]

joins_stands : (m : Machine) (client : ℕ) (b : Bool) (fences : FenceSet) → AreFencesOf fences m.device.signalled
    → AreFencesOf fences (joins_if b m client).device.signalled
joins_stands m client true fences stand = stand
joins_stands m client false fences stand = stand

make_stands : (t : Topology) (m : Machine) (client : ℕ) (c : Option Command) (fences : FenceSet) → AreFencesOf fences m.device.signalled
    → AreFencesOf fences (made_thing t m client c).device.signalled
unfolding made_thing
make_stands t m client None fences stand = stand
make_stands t m client (Some c) fences stand = joins_stands _ client _ fences stand

read_stands : (m : Machine) (client : ℕ) (events : List Event) (fences : FenceSet) → AreFencesOf fences m.device.signalled
    → AreFencesOf fences (reads m client events).device.signalled
read_stands m client [] fences stand = stand
read_stands m client (event ∷ events) fences stand = stand

pub fences_follow_others : (s : Script) (m : Machine) (step : Step) (fences : FenceSet) → signals_nothing step ≡ true
    → AreFencesOf fences m.device.signalled → AreFencesOf fences (next s m step).device.signalled
unfolding next
fences_follow_others s m (Begin client) fences nothing stand = stand
fences_follow_others s m (Lock client kind index) fences nothing stand = lock_stands m client (object_id kind index)
    (holder_at m (object_id kind index)) fences stand
fences_follow_others s m (BackOff client) fences nothing stand = stand
fences_follow_others s m (Relock client) fences nothing stand = relock_stands m client (contended (doing_at m client)) fences stand
fences_follow_others s m (Refuse client) fences nothing stand = refuse_stands s.topology m client (request_at s m client) fences stand
fences_follow_others s m (Test client) fences nothing stand = stand
fences_follow_others s m (Swap client) fences nothing stand = swap_stands s.topology m client (request_at s m client) fences stand
fences_follow_others s m (Make client) fences nothing stand = make_stands s.topology m client (command_at s m client) fences stand
fences_follow_others s m (Signal client) fences nothing stand = absurd (false≢true nothing)
fences_follow_others s m (Claim k) fences nothing stand = stand
fences_follow_others s m (Write k kind index) fences nothing stand = stand
fences_follow_others s m (Flush k kind index) fences nothing stand = absurd (false≢true nothing)
fences_follow_others s m (HwDone k) fences nothing stand = stand
fences_follow_others s m (Vblank kind index) fences nothing stand = absurd (false≢true nothing)
fences_follow_others s m (Cleanup k) fences nothing stand = stand
fences_follow_others s m (Read client) fences nothing stand = read_stands m client (unread_at m.events client) fences stand
fences_follow_others s m (Return client) fences nothing stand = stand
fences_follow_others s m Stall fences nothing stand = stand

signal_stands : (m : Machine) (fence : Option ℕ) (fences : FenceSet) → AreFencesOf fences m.device.signalled
    → AreFencesOf (with_signal fences fence) (signals m fence).device.signalled
signal_stands m None fences stand = stand
signal_stands m (Some id) fences stand = steps.fence_signalled fences m.device.signalled id stand

pub fences_follow_signal : (s : Script) (m : Machine) (client label : ℕ) (thing : Thing) (fences : FenceSet) → command_at s m client
    ≡ Some (command.Signal label)
    → (execute s.topology m.device.world client (command.Signal label)).reply ≡ reply.Done → thing_labelled m.device.world.things label
    ≡ Some thing → AreFencesOf fences m.device.signalled
    → AreFencesOf (with_signal fences (Some thing.id)) (next s m (Signal client)).device.signalled
unfolding next
fences_follow_signal s m client label thing fences is done there stand =
    rw is (subst (λ r. AreFencesOf (with_signal fences (Some thing.id))
    (fence_signalled (answers m client r) (Some (command.Signal label)) r).device.signalled) (sym done)
    (subst (λ o. AreFencesOf (with_signal fences (Some thing.id)) (signals (answers m client reply.Done) (id_of_thing o)).device.signalled)
    (sym there) (signal_stands (answers m client reply.Done) (Some thing.id) fences stand)))

not_signalled : (m : Machine) (c : Command) (r : Reply) (fences : FenceSet) → r ≢ reply.Done → AreFencesOf fences m.device.signalled
    → AreFencesOf fences (fence_signalled m (Some c) r).device.signalled
not_signalled m (command.Signal label) reply.Done fences other stand = absurd (other refl)
not_signalled m c r fences other stand = stand

pub fences_follow_refused_signal : (s : Script) (m : Machine) (client label : ℕ) (fences : FenceSet) → command_at s m client
    ≡ Some (command.Signal label)
    → (execute s.topology m.device.world client (command.Signal label)).reply ≢ reply.Done → AreFencesOf fences m.device.signalled
    → AreFencesOf fences (next s m (Signal client)).device.signalled
unfolding next
fences_follow_refused_signal s m client label fences is other stand =
    rw is (not_signalled (answers m client (execute s.topology m.device.world client (command.Signal label)).reply) (command.Signal label)
    (execute s.topology m.device.world client (command.Signal label)).reply fences other stand)

-- Queues

queue_either : (b : Bool) (x y : Machine) (q : Queue) (client : ℕ) → IsQueueOf q x.events client → IsQueueOf q y.events client
    → IsQueueOf q (if b then x else y).events client
queue_either true x y q client first second = first
queue_either false x y q client first second = second

queue_signals : (m : Machine) (fence : Option ℕ) (q : Queue) (client : ℕ) → IsQueueOf q m.events client
    → IsQueueOf q (signals m fence).events client
queue_signals m None q client stands = stands
queue_signals m (Some id) q client stands = stands

queue_locks : (m : Machine) (one object : ℕ) (holder : Option ℕ) (q : Queue) (client : ℕ) → IsQueueOf q m.events client
    → IsQueueOf q (locked m one object holder).events client
queue_locks m one object None q client stands = stands
queue_locks m one object (Some other) q client stands = stands

queue_relocks : (m : Machine) (one : ℕ) (object : Option ℕ) (q : Queue) (client : ℕ) → IsQueueOf q m.events client
    → IsQueueOf q (relocked m one object).events client
queue_relocks m one None q client stands = stands
queue_relocks m one (Some object) q client stands = stands

queue_refuses : (t : Topology) (m : Machine) (one : ℕ) (r : Option Request) (q : Queue) (client : ℕ) → IsQueueOf q m.events client
    → IsQueueOf q (refused t m one r).events client
unfolding refused
queue_refuses t m one None q client stands = stands
queue_refuses t m one (Some r) q client stands = stands

queue_joins : (m : Machine) (one : ℕ) (b : Bool) (q : Queue) (client : ℕ) → IsQueueOf q m.events client
    → IsQueueOf q (joins_if b m one).events client
queue_joins m one true q client stands = stands
queue_joins m one false q client stands = stands

queue_makes : (t : Topology) (m : Machine) (one : ℕ) (c : Option Command) (q : Queue) (client : ℕ) → IsQueueOf q m.events client
    → IsQueueOf q (made_thing t m one c).events client
unfolding made_thing
queue_makes t m one None q client stands = stands
queue_makes t m one (Some c) q client stands = queue_joins _ one _ q client stands

queue_fence : (m : Machine) (c : Command) (r : Reply) (q : Queue) (client : ℕ) → IsQueueOf q m.events client
    → IsQueueOf q (fence_signalled m (Some c) r).events client
queue_fence m (command.Signal label) reply.Done q client stands = queue_signals m (id_of_thing (thing_labelled m.device.world.things label))
    q client stands
queue_fence m c r q client stands = stands

queue_signalled : (t : Topology) (m : Machine) (one : ℕ) (c : Option Command) (q : Queue) (client : ℕ) → IsQueueOf q m.events client
    → IsQueueOf q (signalled_by t m one c).events client
queue_signalled t m one None q client stands = stands
queue_signalled t m one (Some c) q client stands = queue_fence (answers m one (execute t m.device.world one c).reply) c
    (execute t m.device.world one c).reply q client stands

pub queues_follow_others : (s : Script) (m : Machine) (step : Step) (q : Queue) (client : ℕ) → keeps_events step ≡ true
    → IsQueueOf q m.events client → IsQueueOf q (next s m step).events client
unfolding next
queues_follow_others s m (Begin one) q client kept stands = stands
queues_follow_others s m (Lock one kind index) q client kept stands = queue_locks m one (object_id kind index)
    (holder_at m (object_id kind index)) q client stands
queues_follow_others s m (BackOff one) q client kept stands = stands
queues_follow_others s m (Relock one) q client kept stands = queue_relocks m one (contended (doing_at m one)) q client stands
queues_follow_others s m (Refuse one) q client kept stands = queue_refuses s.topology m one (request_at s m one) q client stands
queues_follow_others s m (Test one) q client kept stands = stands
queues_follow_others s m (Swap one) q client kept stands = absurd (false≢true kept)
queues_follow_others s m (Make one) q client kept stands = queue_makes s.topology m one (command_at s m one) q client stands
queues_follow_others s m (Signal one) q client kept stands = queue_signalled s.topology m one (command_at s m one) q client stands
queues_follow_others s m (Claim k) q client kept stands = stands
queues_follow_others s m (Write k kind index) q client kept stands = stands
queues_follow_others s m (Flush k kind index) q client kept stands = absurd (false≢true kept)
queues_follow_others s m (HwDone k) q client kept stands = stands
queues_follow_others s m (Vblank kind index) q client kept stands = absurd (false≢true kept)
queues_follow_others s m (Cleanup k) q client kept stands = stands
queues_follow_others s m (Read one) q client kept stands = absurd (false≢true kept)
queues_follow_others s m (Return one) q client kept stands = stands
queues_follow_others s m Stall q client kept stands = stands

pub queues_follow_swap : (s : Script) (m : Machine) (client : ℕ) (r : Request) (q : Queue) (room : ℕ) → request_at s m client ≡ Some r
    → IsQueueOf q m.events client
    → IsQueueOf (swapped_queue s.topology m r room q) (next s m (Swap client)).events client
unfolding next swapped_state
queues_follow_swap s m client r q room is stands =
    rw is (elim (cases_Bool (wants_event r.flags)) [
      | inl event ↦ (let now : IsQueueOf (reserves q (length (named s.topology m.device.world r)) room)
          (record m.events {
            reserved = (client, reserved_at m.events client + length (named s.topology m.device.world r))
                ∷ m.events.reserved;
          }) client =
          events_reserved q m.events client (length (named s.topology m.device.world r)) room stands in
          rw event (queue_either (is_nonblock r.flags) _ _ (reserves q (length (named s.topology m.device.world r)) room) client now now))
      | inr none ↦ rw none (queue_either (is_nonblock r.flags) _ _ q client stands stands)
    ])

queue_swaps : (t : Topology) (m : Machine) (client other : ℕ) (r : Option Request) (q : Queue) → (client == other) ≡ false
    → IsQueueOf q m.events other → IsQueueOf q (swapped_state t m client r).events other
unfolding swapped_state
queue_swaps t m client other None q apart stands = stands
queue_swaps t m client other (Some r) q apart stands =
    elim (cases_Bool (wants_event r.flags)) [
      | inl event ↦ (let now : IsQueueOf q (record m.events
          { reserved = (client, reserved_at m.events client + length (named t m.device.world r)) ∷ m.events.reserved }) other =
          others_reserved q m.events client other (reserved_at m.events client + length (named t m.device.world r)) apart stands in
          rw event (queue_either (is_nonblock r.flags) _ _ q other now now))
      | inr none ↦ rw none (queue_either (is_nonblock r.flags) _ _ q other stands stands)
    ]

pub queues_follow_others_swap : (s : Script) (m : Machine) (client other : ℕ) (q : Queue) → (client == other) ≡ false
    → IsQueueOf q m.events other → IsQueueOf q (next s m (Swap client)).events other
unfolding next
queues_follow_others_swap s m client other q apart stands = queue_swaps s.topology m client other (request_at s m client) q apart stands

queue_reads : (m : Machine) (client : ℕ) (events : List Event) (q : Queue) → unread_at m.events client ≡ events
    → IsQueueOf q m.events client → IsQueueOf (after_read_of q events) (reads m client events).events client
queue_reads m client [] q is stands = stands
queue_reads m client (event ∷ events) q is stands = event_read q m.events client event events (stands.unread ∙ is) stands

pub queues_follow_read : (s : Script) (m : Machine) (client : ℕ) (q : Queue) → IsQueueOf q m.events client
    → IsQueueOf (after_read q) (next s m (Read client)).events client
unfolding next
queues_follow_read s m client q stands =
    subst (λ es. IsQueueOf (after_read_of q es) (reads m client (unread_at m.events client)).events client) (sym stands.unread)
    (queue_reads m client (unread_at m.events client) q refl stands)

queue_others_read : (m : Machine) (client other : ℕ) (events : List Event) (q : Queue) → (client == other) ≡ false
    → IsQueueOf q m.events other → IsQueueOf q (reads m client events).events other
queue_others_read m client other [] q apart stands = stands
queue_others_read m client other (event ∷ events) q apart stands =
    (let now = others_unread q m.events client other events apart stands in record { reserved = now.reserved; unread = now.unread })

pub queues_follow_others_read : (s : Script) (m : Machine) (client other : ℕ) (q : Queue) → (client == other) ≡ false
    → IsQueueOf q m.events other → IsQueueOf q (next s m (Read client)).events other
unfolding next
queues_follow_others_read s m client other q apart stands = queue_others_read m client other (unread_at m.events client) q apart stands

-- Latches

fences_deliver : (t : Topology) (m : Machine) (k crtc count : ℕ) (fences : FenceSet) → AreFencesOf fences m.device.signalled
    → AreFencesOf fences (delivers_if t m k crtc count).device.signalled
fences_deliver t m k crtc count fences stand = on_either (asks_event t m.device.commits k) _ m fences stand stand

latch_signals : (t : Topology) (m : Machine) (k crtc count : ℕ) → LatchesSignals t m (latches t m k crtc count) k crtc count
unfolding latches
latch_signals t m k crtc count = record {
  fences = λ fences stand. signal_stands (delivers_if t shown k crtc count) (out_fence_of t m.device.commits k crtc) fences
      (fences_deliver t shown k crtc count fences stand);
  queue = λ q stands. queue_signals (delivers_if t shown k crtc count) (out_fence_of t m.device.commits k crtc) _ (client_of t m k)
      (own (asks_event t m.device.commits k) q refl stands);
  others = λ q other apart stands. queue_signals (delivers_if t shown k crtc count) (out_fence_of t m.device.commits k crtc) q other
      (beside (asks_event t m.device.commits k) q other apart refl stands);
} where
  shown : Machine
  shown = latches_picture t m k crtc count

  own : (b : Bool) (q : Queue) → asks_event t m.device.commits k ≡ b → IsQueueOf q m.events (client_of t m k)
      → IsQueueOf (latched_queue t m k crtc count q) (delivers_if t (latches_picture t m k crtc count) k crtc count).events
      (client_of t m k)
  own true q is stands = rw is (event_delivered q m.events (client_of t m k) (event_of t m k crtc count) stands)
  own false q is stands = rw is stands

  beside : (b : Bool) (q : Queue) (other : ℕ) → (client_of t m k == other) ≡ false → asks_event t m.device.commits k ≡ b
      → IsQueueOf q m.events other → IsQueueOf q (delivers_if t (latches_picture t m k crtc count) k crtc count).events other
  beside true q other apart is stands = rw is (others_unread q _ (client_of t m k) other _ apart
      (others_reserved q m.events (client_of t m k) other _ apart stands))
  beside false q other apart is stands = rw is stands

pub flush_follows : (s : Script) (m : Machine) (k index : ℕ) → (new_crtc s.topology m.device.commits k (object_id Crtc index)).active ≡ true
    → LeavesSignals m (next s m (Flush k Crtc index))
unfolding next
flush_follows s m k index on = rw on (record { fences = λ fences stand. stand; queues = λ q client stands. stands })

pub flush_off_follows : (s : Script) (m : Machine) (k index : ℕ) → (new_crtc s.topology m.device.commits k (object_id Crtc index)).active
    ≡ false
    → LatchesSignals s.topology m (next s m (Flush k Crtc index)) k (object_id Crtc index) (count_at m.device (object_id Crtc index))
unfolding next
flush_off_follows s m k index off =
    rw off (let latch = latch_signals s.topology _ k (object_id Crtc index) (count_at m.device (object_id Crtc index))
    in record { fences = latch.fences; queue = latch.queue; others = latch.others })

pub vblank_follows : (s : Script) (m : Machine) (index : ℕ) → go_at m.device (object_id Crtc index) ≡ None
    → LeavesSignals m (next s m (Vblank Crtc index))
unfolding next
vblank_follows s m index none = rw none (record { fences = λ fences stand. stand; queues = λ q client stands. stands })

pub vblank_with_go_follows : (s : Script) (m : Machine) (k index : ℕ) → go_at m.device (object_id Crtc index) ≡ Some k
    → LatchesSignals s.topology m (next s m (Vblank Crtc index)) k (object_id Crtc index) (count_at m.device (object_id Crtc index) + 1)
unfolding next
vblank_with_go_follows s m k index has =
    rw has (let latch = latch_signals s.topology (counts_vblank m (object_id Crtc index)) k (object_id Crtc index)
    (count_at m.device (object_id Crtc index) + 1) in record { fences = latch.fences; queue = latch.queue; others = latch.others })

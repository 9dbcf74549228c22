-- That calls keep fences and queues in step with the machine.
use Rattle.std.specs.Prelude.{◌≡◌, ◌==◌, ℕ, ◌+◌, ◌-◌, List, [], ◌∷◌, ◌++◌, false, true}
use Rattle.kms_model.specs.declared.replies.Event.{Event}
use Rattle.kms_model.specs.Machine.Commits.{has_number}
use Rattle.kms_model.specs.Machine.State.{Events, reserved_at, unread_at}
use Rattle.kms_model.specs.Things.Tables.{slot, with_value}
use Rattle.kms_signal.specs.FenceSets.{FenceSet}
use Rattle.kms_signal.specs.InStep.{AreFencesOf, IsQueueOf}
use Rattle.kms_signal.specs.Queues.{Queue, empty_queue, reserves, delivers, after_read_of}

-- Fences

abbrev pub StandAtFirst : Type 0
StandAtFirst = (room : ℕ) → AreFencesOf (record { slots = []; room = room }) []

-- A fence that is made has an id that is not among those that are signalled.
abbrev pub StandWithAFence : Type 0
StandWithAFence =
    (old new : FenceSet) (signalled : List ℕ) (id : ℕ)
    → AreFencesOf old signalled → new.slots ≡ old.slots ++ slot id false ∷ [] → has_number signalled id ≡ false
    → AreFencesOf new signalled

abbrev pub StandAfterSignal : Type 0
StandAfterSignal =
    (fences : FenceSet) (signalled : List ℕ) (id : ℕ)
    → AreFencesOf fences signalled
    → AreFencesOf (record fences { slots = with_value fences.slots id true }) (id ∷ signalled)

-- The queue of a client

abbrev pub StandsAtFirst : Type 0
StandsAtFirst = (client : ℕ) → IsQueueOf empty_queue (record { reserved = []; unread = []; events_read = [] }) client

abbrev pub StandsAfterReserve : Type 0
StandsAfterReserve =
    (q : Queue) (events : Events) (client n room : ℕ)
    → IsQueueOf q events client
    → IsQueueOf (reserves q n room)
    (record events { reserved = (client, reserved_at events client + n) ∷ events.reserved }) client

abbrev pub StandsAfterDelivery : Type 0
StandsAfterDelivery =
    (q : Queue) (events : Events) (client : ℕ) (event : Event)
    → IsQueueOf q events client
    → IsQueueOf (delivers q event)
    (record events {
      reserved = (client, reserved_at events client - 1) ∷ events.reserved;
      unread = (client, unread_at events client ++ event ∷ []) ∷ events.unread;
    }) client

abbrev pub StandsAfterRead : Type 0
StandsAfterRead =
    (q : Queue) (events : Events) (client : ℕ) (event : Event) (rest : List Event)
    → IsQueueOf q events client → q.unread ≡ event ∷ rest
    → IsQueueOf (after_read_of q (event ∷ rest))
    (record events { unread = (client, rest) ∷ events.unread; events_read = (client, event) ∷ events.events_read }) client

-- What is another client's changes nothing of it.
abbrev pub StandsBesideOthers : Type 0
StandsBesideOthers =
    (q : Queue) (events : Events) (client other n : ℕ) (unread : List Event)
    → (client == other) ≡ false → IsQueueOf q events other
    → IsQueueOf q (record events { reserved = (client, n) ∷ events.reserved; unread = (client, unread) ∷ events.unread }) other

-- Calls keep fences and queues in step with the machine: one fact for each event.
use Rattle.std.proofs.Common.{◌≡◌, ℕ, ◌+◌, ◌-◌, List, [], ◌∷◌, ◌++◌, Some, None, Bool, true, false, inl, inr, refl, sym, ap, ◌∙◌}
use Rattle.std.specs.Prelude.{◌==◌, Option, is_some}
use Rattle.std.proofs.lemmas.Bool.{eq-eqb}
use Rattle.std.proofs.lemmas.Bool.Decides.{eqb_tells}
use Rattle.kms_model.specs.declared.replies.Event.{Event}
use Rattle.kms_model.specs.Firsts.{or_else}
use Rattle.kms_model.specs.Machine.Commits.{has_number}
use Rattle.kms_model.specs.Machine.Registers.{read}
use Rattle.kms_model.specs.Machine.State.{Events, reserved_at, unread_at}
use Rattle.kms_model.specs.Things.Tables.{slot, value_with_id}
use Rattle.kms_signal.specs.FenceSets.{FenceSet, or_not}
use Rattle.kms_signal.specs.InStep.{AreFencesOf, IsQueueOf}
use Rattle.kms_signal.specs.Queues.{Queue, empty_queue, reserves, delivers, after_read_of}
use Rattle.kms_signal.proofs.FenceLemmas.{with_signal, signals, still_made}
use Rattle.kms_signal.proofs.SlotLemmas.{value_pushed}

-- before the first step
pub no_fences : (room : ℕ) → AreFencesOf (record { slots = []; room = room }) []
no_fences room = record { same = λ id made. cc }

-- a fence is signalled
pub fence_signalled : (fences : FenceSet) (signalled : List ℕ) (id : ℕ) → AreFencesOf fences signalled
    → AreFencesOf (with_signal fences id) (id ∷ signalled)
fence_signalled fences signalled id stand = record {
  same = λ other made.
      elim (eqb_tells id other) [
        | inl same ↦ rw same.0 (rw (← same.1) ((signals fences id).now (rw (← same.1) at (sym (still_made fences id other) ∙ made))))
        | inr different ↦ rw different.0 ((signals fences id).others other (λ e. different.1 (sym e)) ∙ stand.same other
            (sym (still_made fences id other) ∙ made))
      ];
}

-- a fence is made, with an id that is not among those that are signalled
pub fence_made : (old new : FenceSet) (signalled : List ℕ) (id : ℕ) → AreFencesOf old signalled → new.slots ≡ old.slots ++ slot id false
    ∷ [] → has_number signalled id ≡ false → AreFencesOf new signalled
fence_made old new signalled id stand is fresh = record {
  same = λ other made. rw (is, value_pushed old.slots id other false)
      (of_either (value_with_id old.slots other) other refl (stand.same other)
      (ap (λ slots. is_some (value_with_id slots other)) (sym is) ∙ made));
} where
  of_either : (o : Option Bool) (other : ℕ) → value_with_id old.slots other ≡ o → (is_some o ≡ true → or_not o ≡ has_number signalled other)
      → is_some (value_with_id (old.slots ++ slot id false ∷ []) other) ≡ true
      → or_not (or_else o (value_with_id (slot id false ∷ []) other)) ≡ has_number signalled other
  of_either (Some b) other is same made = same refl
  of_either None other is same made =
      elim (eqb_tells id other) [
        | inl equal ↦ rw equal.0 (sym (rw equal.1 at fresh))
        | inr different ↦ cc (rw (value_pushed old.slots id other false, is, different.0) at made)
      ]

-- a client's events, of a machine that was changed for it alone
pub events_reserved : (q : Queue) (events : Events) (client n room : ℕ) → IsQueueOf q events client
    → IsQueueOf (reserves q n room) (record events { reserved = (client, reserved_at events client + n) ∷ events.reserved }) client
unfolding read
events_reserved q events client n room stand =
    record { reserved = rw (eq-eqb client client refl) (ap (λ m. m + n) stand.reserved); unread = stand.unread }

pub event_delivered : (q : Queue) (events : Events) (client : ℕ) (event : Event) → IsQueueOf q events client
    → IsQueueOf (delivers q event) (record events {
      reserved = (client, reserved_at events client - 1) ∷ events.reserved;
      unread = (client, unread_at events client ++ event ∷ [])
          ∷ events.unread;
    }) client
unfolding read
event_delivered q events client event stand = record {
  reserved = rw (eq-eqb client client refl) (ap (λ m. m - 1) stand.reserved);
  unread = rw (eq-eqb client client refl) (ap (λ es. es ++ event ∷ []) stand.unread);
}

pub event_read : (q : Queue) (events : Events) (client : ℕ) (event : Event) (rest : List Event) → q.unread ≡ event ∷ rest
    → IsQueueOf q events client
    → IsQueueOf (after_read_of q (event ∷ rest)) (record events
    { unread = (client, rest) ∷ events.unread; events_read = (client, event) ∷ events.events_read }) client
unfolding read
event_read q events client event rest is stand = record { reserved = stand.reserved; unread = rw (eq-eqb client client refl) refl }

-- before the first step, and what is another client's
pub no_events : (client : ℕ) → IsQueueOf empty_queue (record { reserved = []; unread = []; events_read = [] }) client
unfolding read
no_events client = record { reserved = refl; unread = refl }

pub others_reserved : (q : Queue) (events : Events) (client other n : ℕ) → (client == other) ≡ false → IsQueueOf q events other
    → IsQueueOf q (record events { reserved = (client, n) ∷ events.reserved }) other
unfolding read
others_reserved q events client other n apart stand = record { reserved = rw apart stand.reserved; unread = stand.unread }

pub others_unread : (q : Queue) (events : Events) (client other : ℕ) (es : List Event) → (client == other) ≡ false
    → IsQueueOf q events other → IsQueueOf q (record events { unread = (client, es) ∷ events.unread }) other
unfolding read
others_unread q events client other es apart stand = record { reserved = stand.reserved; unread = rw apart stand.unread }

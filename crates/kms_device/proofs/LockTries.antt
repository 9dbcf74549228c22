-- What came of a turn of an attempt that asked for a lock.
use Rattle.std.proofs.Common.{◌≡◌, ℕ, [], ◌∷◌, length, Bool, true, false, Option, Some, None, refl, sym, ap, ◌∙◌, subst, ⊎_elim}
use Rattle.std.specs.Prelude.{not, ◌&&◌, is_none}
use Rattle.std.proofs.lemmas.Bool.{cases_eq, eq-eqb, false≢true}
use Rattle.kms_model.specs.declared.objects.ObjId.{ObjId}
use Rattle.kms_model.specs.declared.objects.Ticket.{Ticket}
use Rattle.kms_model.specs.declared.replies.Step.{Step}
use Rattle.kms_model.specs.declared.replies.Step.TheVariants as step
use Rattle.kms_model.specs.declared.runs.Doing.TheVariants as doing
use Rattle.kms_model.specs.declared.runs.Place.{Place}
use Rattle.kms_model.specs.declared.scripts.Script.{Script}
use Rattle.kms_model.specs.declared.states.ObjState.{ObjState}
use Rattle.kms_model.specs.declared.worlds.World.{World}
use Rattle.kms_model.specs.Device.Objects.{kind_of}
use Rattle.kms_model.specs.Machine.Effects as Effects
use Rattle.kms_model.specs.Machine.Effects.{next, now_doing, put_lock}
use Rattle.kms_model.specs.Machine.Histories.{legal}
use Rattle.kms_model.specs.Machine.State.{Machine, doing_at, has_value, holder_at, holds, place_at}
use Rattle.kms_model.specs.Machine.Steps.{contended, is_free_for, may, returning_of, ticket_of}
use Rattle.kms_laws.proofs.Basics.{read_other, read_same}
use Rattle.kms_wwlock.specs.InStep.{holder_of_contended, relock_answer}
use Rattle.kms_core.specs.declared.calls.contexts.Locked.{Locked}
use Rattle.kms_core.specs.declared.calls.contexts.Locked.TheVariants as answer
use Rattle.kms_core.specs.Decisions.{world}
use Rattle.kms_core.specs.Locks.{object_or_zero, present_state, relock_steps, relocked_answer, relocked_as}
use Rattle.kms_core.specs.Run.{Run, machine}
use Rattle.kms_core.specs.States.{state_of_kind}
use Rattle.kms_device.specs.declared.attempt.Findings.{Findings}
use Rattle.kms_device.specs.declared.attempt.Attempted.TheVariants as attempted
use Rattle.kms_device.specs.Attempts.{ComesNextAt, Serves, StandsAt, WaitsAt, taken_in}
use Rattle.kms_device.specs.Steps.{owner}
use Rattle.kms_device.specs.Trying.{DidAndKeeps, IsReady, attempted_of, doing_of, kept_of, with_state}
use Rattle.kms_device.specs.Turns.{DevicePass, DeviceTurn, run_seen}
use Rattle.kms_device.proofs.HeldObjects.{IsLockableId, held_object}
use Rattle.kms_device.proofs.Serving.{serves_more}
use Rattle.kms_device.proofs.Places.{stands_next, stands_still}
use Rattle.kms_device.proofs.Stepping.{found-is, next-after, open-after}
use Rattle.kms_device.proofs.TurnsTried.{doing-after, doing-found, place-now, serves-next, stepped_on, waits_for}

-- a lock that a client took is held by it, and so is what it held
pub now_held : (m : Machine) (client object : ℕ) → holds (put_lock m object (Some client)) client object ≡ true
now_held m client object = ap (has_value client) (read_same None m.contexts.locks object (Some client)) ∙ eq-eqb client client refl

pub still_held : (m : Machine) (client object other : ℕ) → holds m client other ≡ true
    → holds (put_lock m object (Some client)) client other ≡ true
still_held m client object other held =
    ⊎_elim
    (λ (same : object ≡ other). subst (λ o. holds (put_lock m object (Some client)) client o ≡ true) same (now_held m client object))
    (λ apart. ap (has_value client) (read_other None m.contexts.locks object other (Some client) apart) ∙ held)
    (cases_eq object other)

-- the state of an object is that of a run with the same world
pub state-same : (r r2 : Run) (id : ObjId) → r2.script ≡ r.script → world r2 ≡ world r → present_state r2 id ≡ present_state r id
state-same r r2 id scripts worlds =
    ap {B = ObjState} (λ (s : Script). state_of_kind s.topology (world r2) (kind_of id.0) id.0) scripts
    ∙ ap {B = ObjState} (λ (w : World). state_of_kind r.script.topology w (kind_of id.0) id.0) worlds

module _ (script : Script) (p q : DevicePass) (kept : Findings) (ready : IsReady script p kept) where
  -- An object was taken, with its state, and nothing else changed.
  module _ (says : Run → Type 0) (x : Step) (own : owner x ≡ p.rank) (t : DeviceTurn script says (x ∷ []) p q) (id : ObjId) where
    pub serves-taken : (next script (machine t.found) x).device.world ≡ (machine t.found).device.world
        → ((object : ℕ) → holds (machine t.found) p.rank object ≡ true → holds (next script (machine t.found) x) p.rank object ≡ true)
        → (place_at (next script (machine t.found) x) p.rank).command ≡ (place_at (machine t.found) p.rank).command
        → holds (next script (machine t.found) x) p.rank id.0 ≡ true
        → Serves (run_seen script q) p.rank (with_state kept id (present_state t.found id))
    serves-taken same keeps command held =
        let now : machine (run_seen script q) ≡ next script (machine t.found) x = next-after script says x p q t in
        let there : holds (machine (run_seen script q)) p.rank id.0 ≡ true = ap (λ m. holds m p.rank id.0) now ∙ held in
        let object : IsLockableId script.topology id.0 = held_object (run_seen script q) p.rank id.0 (open-after script says (x ∷ []) p q t)
        there in
        subst (λ s. Serves (run_seen script q) p.rank (with_state kept id s))
        (state-same t.found (run_seen script q) id (sym t.finds.same) (ap (λ (m : Machine). m.device.world) now ∙ same))
        (serves_more (run_seen script q) p.rank kept id there object.can_lock object.is_id
        (serves-next script says p q kept ready x own t same keeps command))

  -- The object that a context backed off for was asked for again.
  module _ (ticket : Ticket) (object : ObjId) (off : doing_at (machine (run_seen script p)) p.rank ≡ doing.BackedOff ticket object) where
    answer-is : (m : Machine) (r : Run) → doing_at (machine r) p.rank ≡ doing.BackedOff ticket object → relocked_answer r p.rank
        ≡ relocked_as (present_state r object) (relock_answer (machine r) (holder_at (machine r) object.0))
    answer-is m r is = ap (λ d. relocked_as (present_state r (object_or_zero (contended d)))
        (relock_answer (machine r) (holder_of_contended (machine r) (contended d)))) is

    -- who took it found it free
    got-is : (r : Run) (s : ObjState) (h : Option ℕ) → answer.Got s ≡ relocked_as (present_state r object) (relock_answer (machine r) h) → s
        ≡ present_state r object
    got-is r s None said = ap (λ (a : Locked). state_in a) said
      where
        state_in : Locked → ObjState
        state_in (answer.Got s) = s
        state_in _ = present_state r object
    got-is r s (Some holder) said = absurd cc

    held-is : (r : Run) (t : Ticket) (h : Option ℕ) → answer.Held t ≡ relocked_as (present_state r object) (relock_answer (machine r) h)
        → is_none h ≡ false
    held-is r t None said = absurd cc
    held-is r t (Some holder) said = refl

    abbrev is_relocked : Locked → Bool
    is_relocked (answer.Got s) = true
    is_relocked (answer.Held t) = true
    is_relocked _ = false

    -- no other answers come
    only : (r : Run) (a : Locked) (h : Option ℕ) → a ≡ relocked_as (present_state r object) (relock_answer (machine r) h) → is_relocked a
        ≡ true
    only r a None said = ap is_relocked said
    only r a (Some holder) said = ap is_relocked said

    module _ (a : Locked) (t : DeviceTurn script (λ found. a ≡ relocked_answer found p.rank) [] p q) where
      here : doing_at (machine (run_seen script q)) p.rank ≡ doing.BackedOff ticket object
      here = doing-after script (λ found. a ≡ relocked_answer found p.rank) p q kept ready t ∙ off

      said : a ≡ relocked_as (present_state t.found object) (relock_answer (machine t.found) (holder_at (machine t.found) object.0))
      said = t.said ∙ answer-is (machine t.found) t.found
          (ap (λ (r : Run). doing_at (machine r) p.rank) (sym (found-is script (λ found. a ≡ relocked_answer found p.rank) p q t)) ∙ here)

      here_found : doing_at (machine t.found) p.rank ≡ doing.BackedOff ticket object
      here_found = ap (λ (r : Run). doing_at (machine r) p.rank) (sym (found-is script (λ found. a ≡ relocked_answer found p.rank) p q t)) ∙
          here

      held_then : is_none (holder_at (machine t.found) object.0) ≡ false → legal t.found.script (machine t.found) (step.Relock p.rank)
          ≡ false
      unfolding legal may
      held_then taken =
          ap (λ d. not (machine t.found).stalled && is_free_for (machine t.found) (contended d)) here_found
          ∙ (ap (λ b. not (machine t.found).stalled && b) taken ∙ and-no (not (machine t.found).stalled))
        where
          and-no : (b : Bool) → (b && false) ≡ false
          and-no true = refl
          and-no false = refl

    pub relocked : (a : Locked) → DeviceTurn script (λ found. a ≡ relocked_answer found p.rank) (relock_steps p.rank a) p q
        → DidAndKeeps script p kept q (attempted_of (length q.seen) a) (kept_of object a kept)
    unfolding next
    relocked (answer.Got s) t =
        subst (λ x. DidAndKeeps script p kept q attempted.Did (with_state kept object x))
        (sym (got-is t.found s (holder_at (machine t.found) object.0) (t.said ∙ answer-is (machine t.found) t.found there)))
        (stepped_on script says p q kept ready (step.Relock p.rank) refl t (with_state kept object (present_state t.found object)) [] refl
        (sym (ap (λ d. taken_in kept.states (object_or_zero (contended d)).0 (present_state t.found (object_or_zero (contended d)))) there))
        (subst (λ d. ComesNextAt d p.seen t.found p.rank kept [] (step.Relock p.rank)) (sym there) refl)
        (ap (λ (m : Machine). m.records.replies) taken) command
        (ap (λ m. returning_of (doing_at m p.rank)) taken ∙ ap (λ (z : Place). returning_of z.doing) place)
        (serves-taken says (step.Relock p.rank) refl t object (ap (λ (m : Machine). m.device.world) taken)
        (λ other held. ap (λ m. holds m p.rank other) taken ∙ still_held moved p.rank object.0 other held) command
        (ap (λ m. holds m p.rank object.0) taken ∙ now_held moved p.rank object.0)))
      where
        says : Run → Type 0
        says found = answer.Got s ≡ relocked_answer found p.rank

        there : doing_at (machine t.found) p.rank ≡ doing.BackedOff ticket object
        there = doing-found script says p q kept ready (step.Relock p.rank) refl t ∙ off

        moved : Machine
        moved = now_doing (machine t.found) p.rank (doing.Taking (record { 0 = ticket_of (doing_at (machine t.found) p.rank) }))

        taken : next script (machine t.found) (step.Relock p.rank) ≡ put_lock moved object.0 (Some p.rank)
        taken = ap (λ d. Effects.relocked (machine t.found) p.rank (contended d)) there

        place : place_at moved p.rank ≡ record {
          command = (place_at (machine t.found) p.rank).command;
          doing = doing.Taking
              (record { 0 = ticket_of (doing_at (machine t.found) p.rank) });
        }
        place = place-now (machine t.found) p.rank (doing.Taking (record { 0 = ticket_of (doing_at (machine t.found) p.rank) }))

        command : (place_at (next script (machine t.found) (step.Relock p.rank)) p.rank).command
            ≡ (place_at (machine t.found) p.rank).command
        command = ap (λ m. (place_at m p.rank).command) taken ∙ ap (λ (z : Place). z.command) place
    relocked (answer.Held h) t =
        waits_for script (λ found. answer.Held h ≡ relocked_answer found p.rank) p q kept ready t [] (step.Relock p.rank) refl
        (subst (λ d. WaitsAt d p.seen t.found p.rank kept [] (step.Relock p.rank)) (sym (here_found (answer.Held h) t)) refl)
        (held_then (answer.Held h) t (held-is t.found h (holder_at (machine t.found) object.0) (said (answer.Held h) t)))
    relocked (answer.Own s) t = absurd (false≢true
        (only t.found (answer.Own s) (holder_at (machine t.found) object.0) (said (answer.Own s) t)))
    relocked (answer.Older h) t = absurd (false≢true
        (only t.found (answer.Older h) (holder_at (machine t.found) object.0) (said (answer.Older h) t)))
    relocked (answer.Younger h) t = absurd (false≢true
        (only t.found (answer.Younger h) (holder_at (machine t.found) object.0) (said (answer.Younger h) t)))

    -- where the client stands then
    pub relocked_at : (place : Place) → StandsAt (run_seen script p) p.rank place → (a : Locked)
        → DeviceTurn script (λ found. a ≡ relocked_answer found p.rank) (relock_steps p.rank a) p q
        → StandsAt (run_seen script q) p.rank (record place { doing = doing_of ticket object a place.doing })
    unfolding next
    relocked_at place stands (answer.Got s) t =
        stands_next script says p q place stands (step.Relock p.rank) t (doing.Taking ticket)
        (ap (λ d. place_at (Effects.relocked (machine t.found) p.rank (contended d)) p.rank) there
        ∙ (place-now (machine t.found) p.rank (doing.Taking (record { 0 = ticket_of (doing_at (machine t.found) p.rank) }))
        ∙ ap {B = Place} (λ d. record {
          command = (place_at (machine t.found) p.rank).command;
          doing = doing.Taking
              (record { 0 = ticket_of d });
        }) there))
      where
        says : Run → Type 0
        says found = answer.Got s ≡ relocked_answer found p.rank

        there : doing_at (machine t.found) p.rank ≡ doing.BackedOff ticket object
        there = doing-found script says p q kept ready (step.Relock p.rank) refl t ∙ off
    relocked_at place stands (answer.Held h) t = stands_still script (λ found. answer.Held h ≡ relocked_answer found p.rank) p q place
        stands t
    relocked_at place stands (answer.Own s) t = stands_still script (λ found. answer.Own s ≡ relocked_answer found p.rank) p q place stands
        t
    relocked_at place stands (answer.Older h) t = absurd
        (false≢true (only t.found (answer.Older h) (holder_at (machine t.found) object.0) (said (answer.Older h) t)))
    relocked_at place stands (answer.Younger h) t = stands_still script (λ found. answer.Younger h ≡ relocked_answer found p.rank) p q place
        stands t

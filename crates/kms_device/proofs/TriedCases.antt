-- What the parts of an attempt did, by what the device's calls answered.
use Rattle.std.proofs.Common.{All, ◌≡◌, ℕ, List, [], ◌∷◌, ◌++◌, length, true, false, Option, Some, None, Result, Ok, Err, refl, sym, ap}
use Rattle.std.proofs.Common.{◌∙◌, subst}
use Rattle.std.specs.Prelude.{not, IfOk, IfSome, OnErr, IsErr}
use Rattle.std.proofs.lemmas.Bool.{and_from, false≢true}
use Rattle.std.proofs.lemmas.List.Elements.{All-cons, All-head, All-nil, All-tail}
use Rattle.std.specs.Global.{Box}
use Rattle.kms_model.specs.declared.objects.ObjId.{ObjId}
use Rattle.kms_model.specs.declared.objects.Ticket.{Ticket}
use Rattle.kms_model.specs.declared.replies.Refusal.{Refusal}
use Rattle.kms_model.specs.declared.replies.Reply.TheVariants as reply
use Rattle.kms_model.specs.declared.replies.Step.{Step}
use Rattle.kms_model.specs.declared.replies.Step.TheVariants as step
use Rattle.kms_model.specs.declared.runs.Doing.TheVariants as doing
use Rattle.kms_model.specs.declared.runs.Place.{Place}
use Rattle.kms_model.specs.declared.scripts.Request.{Request}
use Rattle.kms_model.specs.declared.scripts.Script.{Script}
use Rattle.kms_model.specs.declared.sets.Resolved.{Resolved}
use Rattle.kms_model.specs.declared.states.Checked.{Checked}
use Rattle.kms_model.specs.declared.states.Duplicates.{Duplicates}
use Rattle.kms_model.specs.declared.worlds.Look.{Look}
use Rattle.kms_model.specs.Machine.Histories.{legal}
use Rattle.kms_model.specs.Device.Serial.{command_of}
use Rattle.kms_model.specs.Script.WellFormed.{IsWellFormed}
use Rattle.kms_model.specs.Machine.State.{command_at, doing_at, place_at, request_in}
use Rattle.kms_model.specs.Machine.Steps.{is_idle, may, returning_of}
use Rattle.kms_model.specs.Request.Deciding.{AreOfSoundWorld}
use Rattle.kms_model.specs.Request.Flags.{is_test}
use Rattle.kms_model.specs.Request.Lookups.{look_up}
use Rattle.kms_laws.proofs.Modes.{plain-from}
use Rattle.kms_laws.proofs.Steps.{history_kept, request-is}
use Rattle.kms_check.proofs.Readiness.{HasRoom}
use Rattle.kms_check.specs.Moves.{AcceptedAs, AsksFor, RefusedBy}
use Rattle.kms_core.specs.declared.calls.contexts.Locked.{Locked}
use Rattle.kms_core.specs.declared.stores.looking.Decided.{Decided}
use Rattle.kms_core.specs.declared.stores.looking.Decided.TheVariants as answer
use Rattle.kms_core.specs.Decisions.{IsDecided, steps_of, world}
use Rattle.kms_core.specs.Locks.{MayBegin, lock_steps, locked_answer}
use Rattle.kms_core.specs.Run.{Run, machine}
use Rattle.kms_core.specs.Swaps.{swap_answer}
use Rattle.kms_device.specs.declared.attempt.Findings.{Findings}
use Rattle.kms_device.specs.declared.attempt.Attempted.{Attempted}
use Rattle.kms_device.specs.declared.attempt.Attempted.TheVariants as attempted
use Rattle.kms_device.specs.Attempts.{MayAttempt, Serves, StandsAt, no_findings}
use Rattle.kms_device.specs.Steps.{NeverEnds, is_stall}
use Rattle.kms_device.specs.Trying.{Concludes, DidAndKeeps, DidNothing, IsReady, IsToldOrKnown, LooksInVain, TakesLocksFor, Tried}
use Rattle.kms_device.specs.Trying.{attempted_of, doing_of, kept_of, with_looks}
use Rattle.kms_device.specs.Turns.{DevicePass, DeviceTurn, run_seen}
use Rattle.kms_device.proofs.Deciding.{seen-history}
use Rattle.kms_device.proofs.Joining.{tried_later}
use Rattle.kms_device.proofs.Stepping.{found-is, open-after, rank-after}
use Rattle.kms_device.proofs.TurnsTried.{ready_after}
use Rattle.kms_device.proofs.DecisionTries.{refuses_so, swaps_so, tests_so, vain_so}
use Rattle.kms_device.proofs.Moved.{asked_at, room_for}
use Rattle.kms_device.proofs.Runs.{open-at}
use Rattle.kms_device.proofs.TurnsTried.{began}
use Rattle.kms_device.proofs.TakingTries as taking
use Rattle.kms_device.proofs.TakingTries.{TakesFor}

-- no memory
pub tried_err : {E : Type 0} (script : Script) (p q : DevicePass) (kept keeps : Findings) (r : Result Attempted E) → IsErr r → DidNothing
    script p q → Tried script p kept q keeps r
tried_err script p q kept keeps (Ok did) e nothing = absurd (false≢true e)
tried_err script p q kept keeps (Err x) e nothing = nothing

-- a client that is idle at a request may begin a context
pub may_begin_at : (script : Script) (p : DevicePass) (kept : Findings) → IsReady script p kept
    → doing_at (machine (run_seen script p)) p.rank ≡ doing.Idle → MayBegin (run_seen script p) p.rank
unfolding legal may
may_begin_at script p kept ready idle =
    and_from (not (machine (run_seen script p)).stalled) _ (ap not (open-at script p.seen ready.is_open.history ready.is_open.goes_on))
    (and_from (is_idle (doing_at (machine (run_seen script p)) p.rank)) _ (ap is_idle idle)
    (rw (request-is (command_at script (machine (run_seen script p)) p.rank) ready.may.request ready.may.at) refl))

-- a context began
pub began_as : (script : Script) (says : Run → Type 0) (p q : DevicePass) (kept keeps : Findings) (client : ℕ) → IsReady script p kept
    → doing_at (machine (run_seen script p)) p.rank ≡ doing.Idle → p.rank ≡ client → keeps ≡ no_findings
    → DeviceTurn script says (step.Begin client ∷ []) p q → DidAndKeeps script p kept q attempted.Did keeps
began_as script says p q kept keeps client ready idle whose is_new t =
    subst (DidAndKeeps script p kept q attempted.Did) (sym is_new)
    (began script says p q kept ready idle (subst (λ n. DeviceTurn script says (step.Begin n ∷ []) p q) (sym whose) t))

-- a lock was asked for
pub as_locked : (script : Script) (p q : DevicePass) (kept : Findings) (id : ObjId) (a : Locked) (n : ℕ) (did : Attempted)
    (keeps : Findings) → n ≡ length q.seen → did ≡ attempted_of n a → keeps ≡ kept_of id a kept
    → DidAndKeeps script p kept q (attempted_of (length q.seen) a) (kept_of id a kept) → DidAndKeeps script p kept q did keeps
as_locked script p q kept id a n did keeps length_is did_is keeps_is h =
    subst (λ x. DidAndKeeps script p kept q x keeps) (sym (did_is ∙ ap (λ k. attempted_of k a) length_is))
    (subst (λ x. DidAndKeeps script p kept q (attempted_of (length q.seen) a) x) (sym keeps_is) h)

-- the states are those of a sound world
pub of_sound_world : (script : Script) (p : DevicePass) (kept : Findings) → IsReady script p kept
    → AreOfSoundWorld script.topology kept.states
of_sound_world script p kept ready = record {
  world = world (run_seen script p);
  sound = (history_kept script p.seen (plain-from script ready.is_open.formed) ready.is_open.history).present.lawful.sound;
  old = ready.serves.states.old;
}

module _ (script : Script) (p : DevicePass) (ticket : Ticket) (request : Request) (used : List (ℕ × Look)) (states : Duplicates)
    (ready : IsReady script p (with_looks used states)) (takes : TakesLocksFor script p ticket request) where
  abbrev Kept : Findings
  Kept = with_looks used states

  pub takes_for : TakesFor script p (with_looks used states) ticket request used
  takes_for = record { ready = ready; taking = takes.taking; at = takes.at; has = refl }

  module _ (q : DevicePass) (id : ObjId) (asks : AsksFor script.topology request used states id) (room : HasRoom states) where
    pub locks_so : (a : Locked) → DeviceTurn script (λ found. a ≡ locked_answer found p.rank id) (lock_steps p.rank id a) p q
        → DidAndKeeps script p (with_looks used states) q (attempted_of (length q.seen) a) (kept_of id a (with_looks used states))
    locks_so a t =
        let is = asked_at script p (with_looks used states) ticket request used takes_for id asks in
        taking.locked script p q (with_looks used states) ticket request used takes_for id asks is.is_id is.absent
        (λ r. room_for script.topology states id.0 (world r) ready.is_open.formed.device room is.is_id is.can_lock is.absent
        r.script.topology) a t

    -- where the client stands then
    pub locks_at : (place : Place) → StandsAt (run_seen script p) p.rank place → (a : Locked)
        → DeviceTurn script (λ found. a ≡ locked_answer found p.rank id) (lock_steps p.rank id a) p q
        → StandsAt (run_seen script q) p.rank (record place { doing = doing_of ticket id a place.doing })
    locks_at place stands a t =
        let is = asked_at script p (with_looks used states) ticket request used takes_for id asks in
        taking.locked_at script p q (with_looks used states) ticket request used takes_for id asks is.is_id is.absent
        (λ r. room_for script.topology states id.0 (world r) ready.is_open.formed.device room is.is_id is.can_lock is.absent
        r.script.topology) place stands a t

  module _ {E : Type 0} (m q : DevicePass) (a : Decided) (keeps : Findings) (r : Result Attempted E) where
    -- by what its conclusion tells
    module _ (says : Run → Type 0) (x : Step) (t : DeviceTurn script says (steps_of p.rank x a) p m) where
      concluded : (r : Result Attempted E) → ((did : Attempted) → Concludes script request Kept m a q did keeps → DidAndKeeps script p
          Kept q did keeps)
          → IfOk r (λ did. Concludes script request Kept m a q did keeps) → OnErr r (LooksInVain script a m q) → Tried script p Kept q
          keeps r
      concluded (Ok did) tells told vain = tells did told
      concluded (Err e) tells told vain = vain_so script p m q Kept ticket request used takes_for says x a t vain

    module _ (told : IfOk r (λ did. Concludes script request (with_looks used states) m a q did keeps)) (vain : OnErr r (LooksInVain
        script a m q)) where
      pub refused_so : (why : Refusal) → RefusedBy script.topology request used states why
          → DeviceTurn script (λ found. IsDecided (look_up (world found)) used (answer.Done (reply.Refused why)) a) (steps_of p.rank
          (step.Refuse p.rank) a) p m → Tried script p (with_looks used states) q keeps r
      refused_so why refused t = concluded _ (step.Refuse p.rank) t r (λ did told. refuses_so script p m q Kept ticket request used
          takes_for did keeps why refused a t told) told vain

      module _ (checked : Box Checked) (resolved : Resolved)
          (accepted : AcceptedAs script.topology request used states checked.value resolved) where
        pub tested_so : is_test request.flags ≡ true
            → DeviceTurn script (λ found. IsDecided (look_up (world found)) used (answer.Done reply.Tested) a)
            (steps_of p.rank (step.Test p.rank) a) p m
            → Tried script p (with_looks used states) q keeps r
        tested_so test t = concluded _ (step.Test p.rank) t r (λ did told. tests_so script p m q Kept ticket request used takes_for did
            keeps checked resolved accepted test a t told) told vain

        pub swapped_so : is_test request.flags ≡ false
            → DeviceTurn script (λ found. IsDecided (look_up (world found)) used (swap_answer found p.rank) a)
            (steps_of p.rank (step.Swap p.rank) a) p m
            → Tried script p (with_looks used states) q keeps r
        swapped_so no_test t = concluded _ (step.Swap p.rank) t r (λ did told. swaps_so script p m q Kept ticket request used takes_for
            did keeps checked resolved accepted no_test a t told) told vain

-- The first turn, which shows where the client stands

-- the beginning of a list of which each item passes
all-front : {A : Type 0} (P : A → Type 0) (xs ys : List A) → All P (xs ++ ys) → All P xs
all-front P [] ys h = All-nil P
all-front P (x ∷ xs) ys h = All-cons P x xs (All-head P x (xs ++ ys) h) (all-front P xs ys (All-tail P x (xs ++ ys) h))

module _ (script : Script) (says : Run → Type 0) (p q : DevicePass) (kept : Findings) (client : ℕ) (whose : p.rank ≡ client)
    (may : MayAttempt (run_seen script p) client) (serves : Serves (run_seen script p) client kept) (t : DeviceTurn script says [] p q)
  where
    pub ready_first : IsReady script p kept
    ready_first = record {
      is_open = record {
        formed = subst IsWellFormed t.finds.same t.finds.is_open.formed;
        history = seen-history script p t.found t.finds;
        goes_on = all-front (λ x. is_stall x ≡ false) p.seen t.finds.history.begins.0
            (subst NeverEnds t.finds.history.begins.1 t.finds.is_open.goes_on);
      };
      may = subst (MayAttempt (run_seen script p)) (sym whose) may;
      serves = subst (λ n. Serves (run_seen script p) n kept) (sym whose) serves;
    }

    pub ready_then : IsReady script q kept
    ready_then = ready_after script says p q kept ready_first t

    -- what the rest did
    pub tried_first : {E : Type 0} (r : DevicePass) (keeps : Findings) (result : Result Attempted E) → Tried script q kept r keeps result →
        Tried script p kept r keeps result
    tried_first r keeps result is = tried_later script says p q r kept ready_first t kept keeps result is

-- The place is known already, or a turn tells it: what is known then, and what the rest tells.
pub record Begins (E : Type 0) (script : Script) (p q : DevicePass) (kept : Findings) (here : Place) : Type 0 where
  pub ready : IsReady script q kept
  pub stands : StandsAt (run_seen script q) q.rank here
  pub lock : q.lock ≡ p.lock
  pub rank : q.rank ≡ p.rank
  pub tried : (r : DevicePass) (keeps : Findings) (result : Result Attempted E) → Tried script q kept r keeps result
      → Tried script p kept r keeps result

module _ (E : Type 0) (script : Script) (p q : DevicePass) (kept : Findings) (client : ℕ) (whose : p.rank ≡ client)
    (may : MayAttempt (run_seen script p) client) (serves : Serves (run_seen script p) client kept) (here : Place) where
  known_at : (known : Place) → StandsAt (run_seen script p) client known → q ≡ p → here ≡ known → Begins E script p q kept here
  known_at known stood same is = record {
    ready = subst (λ z. IsReady script z kept) (sym same) (record {
      is_open = stood.is_open;
      may = subst (MayAttempt (run_seen script p)) (sym whose) may;
      serves = subst (λ n. Serves (run_seen script p) n kept) (sym whose) serves;
    });
    stands = subst (λ z. StandsAt (run_seen script z) z.rank here) (sym same)
        (subst (StandsAt (run_seen script p) p.rank) (sym is) (subst (λ n. StandsAt (run_seen script p) n known) (sym whose) stood));
    lock = ap (λ (z : DevicePass). z.lock) same;
    rank = ap (λ (z : DevicePass). z.rank) same;
    tried = λ r keeps result told. subst (λ z. Tried script z kept r keeps result) same told;
  }

  told_at : DeviceTurn script (λ found. here ≡ place_at (machine found) client) [] p q → Begins E script p q kept here
  told_at t = record {
    ready = ready_then script (λ found. here ≡ place_at (machine found) client) p q kept client whose may serves t;
    stands = record {
      is_open = open-after script (λ found. here ≡ place_at (machine found) client) [] p q t;
      at =
          t.said
          ∙ (ap (λ (r : Run). place_at (machine r) client) (sym (found-is script (λ found. here ≡ place_at (machine found) client) p q t))
          ∙ ap (place_at (machine (run_seen script q)))
          (sym (rank-after script (λ found. here ≡ place_at (machine found) client) [] p q t ∙ whose)));
    };
    lock = ap (λ (z : DevicePass). z.lock) t.now;
    rank = rank-after script (λ found. here ≡ place_at (machine found) client) [] p q t;
    tried = λ r keeps result is. tried_first script (λ found. here ≡ place_at (machine found) client) p q kept client whose may serves t r
        keeps result is;
  }

  pub begins_at : (known : Option Place) → IfSome known (StandsAt (run_seen script p) client) → IsToldOrKnown script client known p q here
      → Begins E script p q kept here
  begins_at (Some place) stood told = known_at place stood told.0 told.1
  begins_at None stood told = told_at told

module _ (script : Script) (p : DevicePass) (kept : Findings) (client : ℕ) (place : Place) (whose : p.rank ≡ client)
    (ready : IsReady script p kept) (stands : StandsAt (run_seen script p) p.rank place) where
  stands_there : place_at (machine (run_seen script p)) client ≡ place
  stands_there = subst (λ n. place_at (machine (run_seen script p)) n ≡ place) whose (sym stands.at)

  may_there : MayAttempt (run_seen script p) client
  may_there = subst (MayAttempt (run_seen script p)) whose ready.may

  -- the client stands at a request
  pub no_request : (its : Script) → its ≡ script → None ≡ request_in (command_of its (record { client = client; command = place.command }))
      → ⊥
  no_request its same none_its =
      let none : None ≡ request_in (command_of script (record { client = client; command = place.command })) = none_its ∙ ap
      (λ (s : Script). request_in (command_of s (record { client = client; command = place.command }))) same in
      let there : Some may_there.request ≡ None = sym may_there.at ∙
      (ap (λ (x : Place). request_in (command_of script (record { client = client; command = x.command }))) stands_there ∙ sym none)
      in absurd cc

  -- it does not wait for a commit
  pub not_waiting : (k : ℕ) → place.doing ≡ doing.Returning k → ⊥
  not_waiting k waits =
      let there : Some k ≡ None = sym (ap returning_of waits) ∙
      (ap (λ (x : Place). returning_of x.doing) (sym stands_there) ∙ may_there.awake) in absurd cc

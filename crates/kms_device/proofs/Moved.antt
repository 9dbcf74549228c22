-- From what resolving and checking ask for to what the device's calls ask for, at what a pass has seen.
use Rattle.std.proofs.Common.{◌≡◌, get_or, length, ℕ, ◌-◌, ◌<◌, ◌≤◌, List, [], ◌∷◌, ◌++◌, map, true, false, is_some, Option, Some, None}
use Rattle.std.proofs.Common.{refl, sym, ap, ◌∙◌, subst, arith, inl, inr}
use Rattle.std.specs.Prelude.{slice_get, nat_le, if◌then◌else◌}
use Rattle.std.specs.Option.{option_flatten}
use Rattle.std.proofs.lemmas.Bool.{cases_lt, false≢true, ltb-true, le-leb, lt-leb}
use Rattle.std.proofs.lemmas.Option.{slice_get-get_or}
use Rattle.kms_model.specs.Device.Places.{state_at}
use Rattle.kms_model.specs.declared.objects.Kind.{Kind}
use Rattle.kms_model.specs.declared.objects.Kind.TheVariants.{Conn, Crtc, Enc, Plane}
use Rattle.kms_model.specs.declared.objects.ObjId.{ObjId}
use Rattle.kms_model.specs.declared.objects.Ticket.{Ticket}
use Rattle.kms_model.specs.declared.objects.Topology.{Topology}
use Rattle.kms_model.specs.declared.replies.Refusal.{Refusal}
use Rattle.kms_model.specs.declared.scripts.Request.{Request}
use Rattle.kms_model.specs.declared.scripts.Script.{Script}
use Rattle.kms_model.specs.declared.sets.Resolved.{Resolved}
use Rattle.kms_model.specs.declared.states.Both.{Both}
use Rattle.kms_model.specs.declared.states.Checked.{Checked}
use Rattle.kms_model.specs.declared.states.Duplicates.{Duplicates}
use Rattle.kms_model.specs.declared.worlds.Look.{Look}
use Rattle.kms_model.specs.declared.worlds.World.{World}
use Rattle.kms_model.specs.Device.Objects.{first_id, index_of, kind_of, object_id}
use Rattle.kms_model.specs.Machine.Commits.{lockable}
use Rattle.kms_model.specs.Machine.Histories.{are_legal, at, run_steps}
use Rattle.kms_model.specs.Machine.State.{Machine, first_machine, holds}
use Rattle.kms_model.specs.Request.Agreement.{AgreesOld}
use Rattle.kms_model.specs.Request.Deciding.{IsOfRequest}
use Rattle.kms_model.specs.Request.Lookups.{look_up, lookups}
use Rattle.kms_model.specs.Request.Resolves.{IsResolved}
use Rattle.kms_model.specs.Request.Flags.{is_test}
use Rattle.kms_model.specs.Request.SameLooks.{TellsLabels}
use Rattle.kms_model.specs.Request.Sets.{look_in}
use Rattle.kms_model.proofs.SameLooks.{resolved-same, world_tells}
use Rattle.kms_model.specs.Machine.Steps.{is_lockable}
use Rattle.kms_model.specs.Device.Sound.{IsDevice}
use Rattle.kms_model.proofs.TouchedLemmas.{HasFewObjects, few_objects}
use Rattle.kms_model.proofs.Facts.{number-in}
use Rattle.kms_check.proofs.Readiness.{HasRoom}
use Rattle.kms_core.specs.States.{state_of_kind}
use Rattle.kms_state.specs.Places.{is_free, is_free_place, may_duplicate, is_duplicated, is_duplicated_of, state_of}
use Rattle.kms_state.proofs.Slots.{slot_at}
use Rattle.kms_laws.proofs.Modes.{plain-from}
use Rattle.kms_laws.proofs.OldLookUps.{ask_within_reach}
use Rattle.kms_check.specs.Moves.{AcceptedAs, AsksFor, RefusedBy}
use Rattle.kms_check.proofs.Asked.{IsAsked, asked-touches}
use Rattle.kms_check.proofs.Covering.{HasAll, accepted-states}
use Rattle.kms_core.specs.Decisions.{labels_of, world}
use Rattle.kms_core.specs.Run.{Run, machine}
use Rattle.kms_device.specs.declared.attempt.Findings.{Findings}
use Rattle.kms_device.specs.Asking.{AreOfLocks, HoldsEach, IsAcceptedWith, IsDecidingFor, MayAskFor, MayBeRefused, MayBeSwapped}
use Rattle.kms_device.specs.Asking.{MayBeTested}
use Rattle.kms_device.specs.Attempts.{AreLookedUp}
use Rattle.kms_device.specs.Turns.{DevicePass, run_seen}
use Rattle.kms_device.proofs.Runs.{legal-before, legal-behind, run-append}
use Rattle.kms_device.proofs.TakingTries.{TakesFor}

-- What is duplicated is held

there_of : {S : Type 0} (r : Run) (client : ℕ) (kind : Kind) (states : List (Option (Both S))) (object : ℕ) → HoldsEach r client kind states
    → is_some (state_of kind states object) ≡ true → holds (machine r) client object ≡ true
there_of {S} r client kind states object each there =
    elim (cases_lt object (first_id kind)) [
      | inl below ↦ absurd (false≢true (sym (ap (λ b. is_some (if b then state_at states (object - first_id kind) else None))
          (lt-leb (first_id kind) object below)) ∙ there))
      | inr from ↦ (
          let is : is_some (state_at states (object - first_id kind))
          ≡ true = sym (ap (λ b. is_some (if b then state_at states (object - first_id kind) else None))
          (le-leb (first_id kind) object from)) ∙ there in
          ap (holds (machine r) client) (number from) ∙ by (state_at states (object - first_id kind)) refl is)
    ]
  where
    number : first_id kind ≤ object → object ≡ object_id kind (object - first_id kind)
    number from = omega (arith, from)

    by : (o : Option (Both S)) → state_at states (object - first_id kind) ≡ o → is_some o ≡ true
        → holds (machine r) client (object_id kind (object - first_id kind)) ≡ true
    by (Some both) is h = (each (object - first_id kind) both (slot_at states (object - first_id kind) both is)).1
    by None is h = absurd (false≢true h)

duplicated_held_of : (r : Run) (client : ℕ) (d : Duplicates) (object : ℕ) (kind : Kind) → AreOfLocks r client d
    → is_duplicated_of kind d object ≡ true → holds (machine r) client object ≡ true
duplicated_held_of r client d object Crtc own there = there_of r client Crtc d.crtcs object own.crtcs there
duplicated_held_of r client d object Plane own there = there_of r client Plane d.planes object own.planes there
duplicated_held_of r client d object Conn own there = there_of r client Conn d.conns object own.conns there
duplicated_held_of r client d object Enc own there = absurd (false≢true there)

pub duplicated_held : (r : Run) (client : ℕ) (d : Duplicates) (object : ℕ) → AreOfLocks r client d → is_duplicated d object ≡ true
    → holds (machine r) client object ≡ true
duplicated_held r client d object own there = duplicated_held_of r client d object (kind_of object) own there

-- What is not duplicated has a free place

free_there : {S : Type 0} (kind : Kind) (states : List (Option (Both S))) (id : ℕ) → first_id kind ≤ id → id - first_id kind < length states
    → is_some (state_of kind states id) ≡ false → is_free kind states id ≡ true
free_there {S} kind states id from within absent = ap (λ b. if b then is_free_place (slice_get states (id - first_id kind)) else false) at ∙
    by (slice_get states (id - first_id kind)) refl
  where
    at : nat_le (first_id kind) id ≡ true
    at = le-leb (first_id kind) id from

    not_there : is_some (option_flatten (slice_get states (id - first_id kind))) ≡ false
    not_there = sym (ap (λ b. is_some (if b then state_at states (id - first_id kind) else None)) at) ∙ absent

    by : (slot : Option (Option (Both S))) → slice_get states (id - first_id kind) ≡ slot → is_free_place slot ≡ true
    by None is = (let both : None ≡ Some (get_or states (id - first_id kind) None) = sym is ∙ slice_get-get_or states (id - first_id kind)
        None within in absurd cc)
    by (Some None) is = refl
    by (Some (Some both)) is = absurd (false≢true (sym not_there ∙ ap (λ o. is_some (option_flatten o)) is))

-- there is a place for the state of an object that is not duplicated
pub room_for : (t : Topology) (d : Duplicates) (id : ℕ) (w : World) → IsDevice t → HasRoom d → first_id (kind_of id) ≤ id
    → is_lockable t (kind_of id) (index_of id) ≡ true → is_duplicated d id ≡ false → (t2 : Topology)
    → may_duplicate d id (state_of_kind t2 w (kind_of id) id) ≡ true
room_for t d id w device room is_id can_lock absent t2 = by (kind_of id) refl
  where
    few : HasFewObjects t
    few = few_objects t device

    by : (kind : Kind) → kind_of id ≡ kind → may_duplicate d id (state_of_kind t2 w kind id) ≡ true
    by Crtc is = (let from : first_id Crtc ≤ id = subst (λ k. first_id k ≤ id) is is_id in
        let index = ltb-true (id - first_id Crtc) t.crtcs (subst (λ k. is_lockable t k (id - first_id k) ≡ true) is can_lock) in
        free_there Crtc d.crtcs id from (omega (arith, index, few.crtcs, room.crtcs))
        (subst (λ k. is_duplicated_of k d id ≡ false) is absent))
    by Plane is = (let from : first_id Plane ≤ id = subst (λ k. first_id k ≤ id) is is_id in
        let index = ltb-true (id - first_id Plane) (length t.planes) (subst (λ k. is_lockable t k (id - first_id k) ≡ true) is can_lock) in
        free_there Plane d.planes id from (omega (arith, index, few.planes, room.planes))
        (subst (λ k. is_duplicated_of k d id ≡ false) is absent))
    by Conn is = (let from : first_id Conn ≤ id = subst (λ k. first_id k ≤ id) is is_id in
        let index = ltb-true (id - first_id Conn) (length t.conns) (subst (λ k. is_lockable t k (id - first_id k) ≡ true) is can_lock) in
        free_there Conn d.conns id from (omega (arith, index, few.conns, room.conns))
        (subst (λ k. is_duplicated_of k d id ≡ false) is absent))
    by Enc is = absurd (false≢true (subst (λ k. is_lockable t k (id - first_id k) ≡ true) is can_lock))

same_labels : (f : ℕ → Look) (labels : List ℕ) → map (λ (l : ℕ × Look). l.0) (map (λ label. (label, f label)) labels) ≡ labels
same_labels f [] = refl
same_labels f (label ∷ labels) = ap (λ xs. label ∷ xs) (same_labels f labels)

module _ (script : Script) (p : DevicePass) (kept : Findings) (ticket : Ticket) (request : Request) (used : List (ℕ × Look))
    (c : TakesFor script p kept ticket request used) where
  abbrev R : Run
  R = run_seen script p

  looked : AreLookedUp R p.rank used
  looked = c.ready.serves.looks used c.has

  own : AreOfLocks R p.rank kept.states
  own = c.ready.serves.states

  told : used ≡ lookups (world (record R { steps = looked.early })) request
  told = looked.told ∙ ap (lookups (world (record R { steps = looked.early }))) (request_in (sym looked.at ∙ c.at))
    where
      request_in : {a b : Request} → Some a ≡ Some b → a ≡ b
      request_in e = cc

  labels : map (λ (l : ℕ × Look). l.0) used ≡ labels_of request.assigns
  labels = ap (map (λ (l : ℕ × Look). l.0)) told ∙ same_labels (look_up (world (record R { steps = looked.early })))
      (labels_of request.assigns)

  -- what was resolved with the look-ups is so with what the labels named then
  then_resolved : (resolved : Resolved) → IsResolved script.topology (look_in used) request resolved
      → IsResolved script.topology (look_up (world (record R { steps = looked.early }))) request resolved
  then_resolved resolved asks =
      resolved-same script.topology (look_in used) (look_up (world (record R { steps = looked.early }))) request resolved
      (subst (λ looks. TellsLabels (look_in looks) (look_up (world (record R { steps = looked.early }))) request.assigns) (sym told)
      (world_tells (world (record R { steps = looked.early })) request)) asks

  -- there is a world that the request and the states are of
  pub some_world : (resolved : Resolved) → IsResolved script.topology (look_in used) request resolved → (w : World)
      × IsOfRequest script.topology w request resolved kept.states
  some_world resolved asks =
      let first = first_machine script.topology in
      let late = looked.begins.0 in
      let whole : are_legal script first (looked.early ++ late)
      ≡ true = subst (λ xs. are_legal script first xs ≡ true) looked.begins.1 c.ready.is_open.history in
      let now : run_steps script (at script looked.early) late
      ≡ machine R = sym (run-append script first looked.early late) ∙ ap (at script) (sym looked.begins.1) in
      let reach = ask_within_reach script looked.early (plain-from script c.ready.is_open.formed)
      (legal-before script first looked.early late whole) late (legal-behind script first looked.early late whole) request resolved
      kept.states
      (then_resolved resolved asks) (subst (λ (m : Machine). AgreesOld script.topology m.device.world.things m.device.world.values
      kept.states) (sym now) own.old) in
      (reach.world, reach.of_request)

  pub asked_at : (id : ObjId) (asks : AsksFor script.topology request used kept.states id)
      → IsAsked script.topology (some_world asks.resolved asks.asks).0 request kept.states id.0
  asked_at id asks =
      let w = some_world asks.resolved asks.asks in
      asked-touches script.topology w.0 request kept.states id.0 c.ready.is_open.formed.device (asks.least w.0 w.1)

  pub may_ask : (id : ObjId) → AsksFor script.topology request used kept.states id → MayAskFor R p.rank ticket id
  may_ask id asks = record {
    takes = record {
      request = request;
      taking = c.taking;
      at = c.at;
      is_id = (asked_at id asks).is_id;
      lockable =
          (asked_at id asks).can_lock;
    };
    early = looked.early;
    begins = looked.begins;
    resolved = asks.resolved;
    asks = then_resolved asks.resolved asks.asks;
    duplicates = kept.states;
    taken = own;
    touched = λ w is. (asked-touches script.topology w request kept.states id.0 c.ready.is_open.formed.device (asks.least w is)).touched;
  }

  deciding : IsDecidingFor R p.rank ticket used request
  deciding = record { taking = c.taking; at = c.at; labels = labels }

  pub may_refuse_by : (why : Refusal) → RefusedBy script.topology request used kept.states why → MayBeRefused R p.rank ticket used why
  may_refuse_by why (inl early) = record { request = request; deciding = deciding; due = inl (record { first = early }) }
  may_refuse_by why (inr late) = record {
    request = request;
    deciding = deciding;
    due = inr (record {
      resolved = late.resolved;
      duplicates = kept.states;
      asks = late.asks;
      taken = own;
      gives = late.gives;
      holds = λ w is object there touched. duplicated_held R p.rank kept.states object own
          (late.covers w is object (number-in (lockable script.topology) object there) touched);
    });
  }

  module _ (checked : Checked) (resolved : Resolved) (accepted : AcceptedAs script.topology request used kept.states checked resolved) where
    all : HasAll kept.states checked
    all = (let w = some_world resolved accepted.asks
        in accepted-states script.topology request used kept.states checked resolved w.0 accepted w.1)

    accepted_with : IsAcceptedWith R p.rank used request resolved checked
    accepted_with = record {
      duplicates = kept.states;
      asks = accepted.asks;
      taken = own;
      gives = accepted.gives;
      passes = accepted.passes;
      holds = λ place l has. duplicated_held R p.rank kept.states _ own (all.given place l has);
    }

    pub may_test_by : is_test request.flags ≡ true → MayBeTested R p.rank ticket used checked
    may_test_by test = record { request = request; deciding = deciding; resolved = resolved; accepted = accepted_with; test = test }

    pub may_swap_by : is_test request.flags ≡ false → MayBeSwapped R p.rank ticket used checked resolved
    may_swap_by no_test = record {
      request = request;
      deciding = deciding;
      accepted = accepted_with;
      states = all.states;
      no_test = no_test;
    }

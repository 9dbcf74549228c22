-- What the calls that decide a request ask for.
use Rattle.std.proofs.Common.{◌≡◌, ℕ, suc, zero, ◌+◌, ◌-◌, ◌<◌, ◌≤◌, Bool, true, false, List, [], ◌∷◌, get_or, length, map, Option, Some}
use Rattle.std.proofs.Common.{None, inl, inr, refl, sym, ap, ◌∙◌, subst, arith}
use Rattle.std.specs.Prelude.{IfOk, Result, is_some, nat_lt, slice_get, slice_index_or, unwrap_or, if◌then◌else◌}
use Rattle.std.specs.Option.{option_flatten}
use Rattle.std.proofs.lemmas.Bool.{cases_lt, eq-eqb, ltb-false, ltb-true}
use Rattle.std.proofs.lemmas.Option.{unwrap_or-slice_get}
use Rattle.std.proofs.lemmas.List.{get_or-map}
use Rattle.kms_model.specs.Device.Places.{state_at}
use Rattle.kms_model.specs.declared.objects.Kind.{Kind}
use Rattle.kms_model.specs.declared.objects.Kind.TheVariants.{Conn, Crtc, Plane}
use Rattle.kms_model.specs.declared.objects.Ticket.{Ticket}
use Rattle.kms_model.specs.declared.replies.Refusal.{Refusal}
use Rattle.kms_model.specs.declared.runs.Doing.{Doing}
use Rattle.kms_model.specs.declared.runs.Doing.TheVariants as doing
use Rattle.kms_model.specs.declared.replies.Reply.TheVariants as reply
use Rattle.kms_model.specs.declared.replies.Step.{Step}
use Rattle.kms_model.specs.declared.replies.Step.TheVariants as step
use Rattle.kms_model.specs.declared.scripts.Command.TheVariants as command
use Rattle.kms_model.specs.declared.scripts.Request.{Request}
use Rattle.kms_model.specs.declared.scripts.Script.{Script}
use Rattle.kms_model.specs.declared.sets.Resolved.{Resolved}
use Rattle.kms_model.specs.declared.states.Both.{Both}
use Rattle.kms_model.specs.declared.states.Checked.{Checked}
use Rattle.kms_model.specs.declared.worlds.Look.{Look}
use Rattle.kms_model.specs.declared.worlds.World.{World}
use Rattle.kms_model.specs.Request.Flags.{is_test}
use Rattle.kms_model.specs.Request.Lookups.{look_up, lookups}
use Rattle.kms_model.specs.Device.Objects.{object_id}
use Rattle.kms_model.specs.Firsts.{or_else}
use Rattle.kms_model.specs.Machine.State.{Machine, command_at, doing_at, has_value, holds}
use Rattle.kms_model.specs.Machine.Steps.{ticket_of, ticket_taking}
use Rattle.kms_model.specs.Machine.Commits.{lockable}
use Rattle.kms_model.proofs.Facts.{number-in}
use Rattle.kms_laws.specs.Laws.{ContextsStand, has_context}
use Rattle.kms_laws.proofs.Steps.{request-is, value-is}
use Rattle.kms_state.specs.Places.{old_states}
use Rattle.kms_state.proofs.Slots.{same_duplicated}
use Rattle.kms_check.specs.Moves.{AcceptedAs, RefusedBy}
use Rattle.kms_check.proofs.Covering.{accepted-states}
use Rattle.kms_check.proofs.Readiness.{is_duplicated-object, is_kind_duplicated}
use Rattle.kms_track.specs.Places.{first_below, object_at_place}
use Rattle.kms_core.specs.declared.stores.looking.Decided.{Decided}
use Rattle.kms_core.specs.declared.stores.looking.Decided.TheVariants as decided
use Rattle.kms_core.specs.Decisions.{HoldsAll, IsAccepted, IsDecided, IsDeciding, MayRefuse, labels_of, number_or_0, steps_of, taker}
use Rattle.kms_core.specs.Decisions.{taker_at, world}
use Rattle.kms_core.specs.Run.{Run, gains, if_ok, machine}
use Rattle.kms_track.specs.InStep.{HasStates}
use Rattle.kms_core.specs.Swaps.{swap_answer}
use Rattle.kms_core.proofs.Places.{client_there}
use Rattle.kms_core.proofs.Takers.{found_at}
use Rattle.kms_core.proofs.Applied.{IsHistoryOf}
use Rattle.kms_course.specs.declared.single.contexts.RequestContext.{RequestContext}
use Rattle.kms_course.specs.Deciding.{AreOfLabels, IsOfNoWorld, accepting_answer, accepting_step}
use Rattle.kms_course.specs.Taking.{HasTaken}

-- The client of a ticket

-- where no first value is, none is there at all
none_below : (f : ℕ → Option ℕ) (n p : ℕ) → first_below f n ≡ None → p < n → f p ≡ None
unfolding first_below
none_below f zero p none below = absurd (omega (arith, below))
none_below f (suc n) p none below =
    let parts = both_none (first_below f n) (f n) none in
    elim (cases_lt p n) [
      | inl before ↦ none_below f n p parts.0 before
      | inr last ↦ (let here : n ≡ p = omega (arith, below, last) in ap f (sym here) ∙ parts.1)
    ]
  where
    both_none : (a b : Option ℕ) → or_else a b ≡ None → (a ≡ None) × (b ≡ None)
    both_none None b none = (refl, none)
    both_none (Some x) b none = absurd cc

context_of : (d : Doing) (t : ℕ) → ticket_taking d ≡ Some t → (has_context d ≡ true) × (ticket_of d ≡ t)
context_of doing.Idle t is = absurd cc
context_of (doing.Taking u) t is = (refl, (let same : u.0 ≡ t = cc in same))
context_of (doing.MustBackOff u o) t is = absurd cc
context_of (doing.BackedOff u o) t is = absurd cc
context_of (doing.Returning k) t is = absurd cc

module _ (s : Script) (m : Machine) (stand : ContextsStand s m) (client : ℕ) (t : Ticket) (low : 1 ≤ client) (high : client ≤ 16)
    (taking : doing_at m client ≡ doing.Taking t) where
  own : taker_at (doing_at m) t.0 (client - 1) ≡ Some client
  own =
      let at : (client - 1) + 1 ≡ client = omega (arith, low) in
      rw (at, taking, eq-eqb t.0 t.0 refl) refl

  same_client : (i x : ℕ) (b : Bool) → has_value t.0 (ticket_taking (doing_at m (i + 1))) ≡ b → (if b then Some (i + 1) else None) ≡ Some x
      → x ≡ client
  same_client i x false is found = absurd cc
  same_client i x true is found =
      let c = context_of (doing_at m (i + 1)) t.0 (value-is t.0 (ticket_taking (doing_at m (i + 1))) is) in
      let here : i + 1 ≡ x = cc in
      sym here ∙ stand.tickets (i + 1) client c.0 (ap has_context taking) (c.1 ∙ sym (ap ticket_of taking))

  pub taker_is : taker m t.0 ≡ client
  taker_is = by (first_below (taker_at (doing_at m) t.0) 16) refl where
    by : (o : Option ℕ) → first_below (taker_at (doing_at m) t.0) 16 ≡ o → number_or_0 o ≡ client
    by None none = (let other : None ≡ Some client = sym
        (none_below (taker_at (doing_at m) t.0) 16 (client - 1) none (omega (arith, low, high))) ∙ own in absurd cc)
    by (Some x) found =
        let f = found_at (taker_at (doing_at m) t.0) 16 x found in
        same_client f.index x (has_value t.0 (ticket_taking (doing_at m (f.index + 1)))) refl f.is

-- A client that decides

pub there : (r : Run) (c : RequestContext) → IsHistoryOf r → HasTaken r c → (1 ≤ c.client) × (c.client ≤ 16)
there r c is takes =
    let client = client_there r.script (machine r) c.client (command.Atomic c.request)
    (request-is (command_at r.script (machine r) c.client) c.request takes.at) in
    let few = is.formed.few in
    (client.0, (let most = client.1 in omega (arith, most, few)))

-- it is the client of its ticket
pub own_taker : (r : Run) (c : RequestContext) → IsHistoryOf r → ContextsStand r.script (machine r) → HasTaken r c
    → taker (machine r) c.ticket.0 ≡ c.client
own_taker r c is stand takes = (let number = there r c is takes
    in taker_is r.script (machine r) stand c.client c.ticket number.0 number.1 takes.taking)

pub decides : (r : Run) (c : RequestContext) (used : List (ℕ × Look)) → IsHistoryOf r → ContextsStand r.script (machine r) → HasTaken r c
    → map (λ l. l.0) used ≡ labels_of c.request.assigns → (machine r).stalled ≡ false → IsDeciding r c.ticket.0 used c.request
decides r c used is stand takes labels going =
    let number = there r c is takes in
    let own = own_taker r c is stand takes in
    record {
      client = rw own number.0;
      at = rw own takes.at;
      labels = labels;
      going = going;
    }

-- What it took covers what is touched

flat : {S : Type 0} (o : Option (Option S)) → option_flatten o ≡ unwrap_or o None
flat None = refl
flat (Some o) = refl

-- a state that is there by its place is there
pub same_there : {S : Type 0} (states : List (Option (Both S))) (i : ℕ) → is_some (state_at states i)
    ≡ is_some (slice_index_or states i None)
same_there states i = ap is_some (flat (slice_get states i) ∙ unwrap_or-slice_get states i None)

module _ (r : Run) (c : RequestContext) (takes : HasTaken r c) (checked : Checked) (kept : old_states checked.states ≡ old_states c.states)
  where
    held_of : (k : Kind) (i : ℕ) → i < 16 → is_kind_duplicated k checked.states i ≡ true → holds (machine r) c.client (object_id k i) ≡ true
    held_of k i few there =
        takes.held (object_id k i) (sym (same_duplicated c.states checked.states (object_id k i) kept) ∙ is_duplicated-object k
        checked.states
        i few ∙ there)

    pub held_all : HasStates checked → HoldsAll (machine r) c.client checked.touched
    held_all states p low has = by_crtc (nat_lt p 4) refl where
      by_plane : nat_lt p 4 ≡ false → (b : Bool) → nat_lt p 20 ≡ b → holds (machine r) c.client (object_at_place p) ≡ true
      by_plane out true is =
          let above = ltb-false p 4 out in
          let below = ltb-true p 20 is in
          let within : p - 4 < 16 = omega (arith, above, below) in
          rw (out, is) (held_of Plane (p - 4) within
          (same_there checked.states.planes (p - 4) ∙ states.planes (p - 4) within (rw (out, is) at has)))
      by_plane out false is =
          let above = ltb-false p 20 is in
          let within : p - 20 < 8 = omega (arith, above, low) in
          rw (out, is) (held_of Conn (p - 20) (omega (arith, within))
          (same_there checked.states.conns (p - 20) ∙ states.conns (p - 20) within (rw (out, is) at has)))

      by_crtc : (b : Bool) → nat_lt p 4 ≡ b → holds (machine r) c.client (object_at_place p) ≡ true
      by_crtc true is = (let below = ltb-true p 4 is
          in rw is (held_of Crtc p (omega (arith, below)) (same_there checked.states.crtcs p ∙ states.crtcs p below (rw is at has))))
      by_crtc false is = by_plane is (nat_lt p 20) refl

-- A request that is accepted, and one that is refused

pub accepts : (r : Run) (c : RequestContext) (used : List (ℕ × Look)) (resolved : Resolved) (checked : Checked) → IsHistoryOf r
    → ContextsStand r.script (machine r) → HasTaken r c → AcceptedAs r.script.topology c.request used c.states checked resolved
    → HasStates checked → IsAccepted r c.ticket.0 used c.request resolved checked
accepts r c used resolved checked is stand takes accepted states =
    let own = own_taker r c is stand takes in
    record {
      duplicates = c.states;
      given = record { asks = accepted.asks; old = takes.agrees.old };
      gives = accepted.gives;
      passes = accepted.passes;
      holds = rw own (held_all r c takes checked accepted.kept states);
    }

pub may_refuse : (r : Run) (c : RequestContext) (used : List (ℕ × Look)) (why : Refusal) → IsHistoryOf r
    → ContextsStand r.script (machine r) → HasTaken r c → map (λ l. l.0) used ≡ labels_of c.request.assigns → (machine r).stalled ≡ false
    → RefusedBy r.script.topology c.request used c.states why → MayRefuse r c.ticket.0 used why
may_refuse r c used why is stand takes labels going (inl early) =
    record { request = c.request; deciding = decides r c used is stand takes labels going; due = inl (record { first = early }) }
may_refuse r c used why is stand takes labels going (inr late) =
    let own = own_taker r c is stand takes in
    record {
      request = c.request;
      deciding = decides r c used is stand takes labels going;
      due = inr (record {
        resolved = late.resolved;
        duplicates = c.states;
        given = record { asks = late.asks; old = takes.agrees.old };
        gives = late.gives;
        holds = λ w of object has touched. rw own (takes.held object
            (late.covers w of object (number-in (lockable r.script.topology) object has) touched));
      });
    }

-- What deciding comes to

-- the history of a decision's answer
pub steps_own : (r n : Run) (c : RequestContext) (by : ℕ → Step) (answer : Decided) → taker (machine r) c.ticket.0 ≡ c.client → n
    ≡ gains r (steps_of (taker (machine r) c.ticket.0) (by (taker (machine r) c.ticket.0)) answer) → n
    ≡ gains r (steps_of c.client (by c.client) answer)
steps_own r n c by answer own history = history ∙ ap (λ client. gains r (steps_of client (by client) answer)) own

-- what an accepted request is answered, and the history of it
module _ {E : Type 0} (r n : Run) (c : RequestContext) (used : List (ℕ × Look)) (result : Result Decided E)
    (own : taker (machine r) c.ticket.0 ≡ c.client) where
  abbrev Own : ℕ
  Own = taker (machine r) c.ticket.0

  abbrev Answers : Decided → Type 0
  Answers decision = IfOk result (IsDecided (look_up (world r)) used decision)

  abbrev By : ℕ → Step → Type 0
  By client by = n ≡ gains r (if_ok result (steps_of client by))

  module _ (test : is_test c.request.flags ≡ true) where
    pub test_answered : Answers (decided.Done reply.Tested) → Answers (accepting_answer r c)
    test_answered answer = subst (λ b. Answers (if b then decided.Done reply.Tested else swap_answer r c.client)) (sym test) answer

    pub test_done : By Own (step.Test Own) → By c.client (accepting_step c)
    test_done history =
        subst (λ b. By c.client (if b then step.Test c.client else step.Swap c.client)) (sym test)
        (subst (λ client. By client (step.Test client)) own history)

  module _ (no_test : is_test c.request.flags ≡ false) where
    pub swap_answered : Answers (swap_answer r Own) → Answers (accepting_answer r c)
    swap_answered answer =
        subst (λ b. Answers (if b then decided.Done reply.Tested else swap_answer r c.client)) (sym no_test)
        (subst (λ client. Answers (swap_answer r client)) own answer)

    pub swap_done : By Own (step.Swap Own) → By c.client (accepting_step c)
    swap_done history =
        subst (λ b. By c.client (if b then step.Test c.client else step.Swap c.client)) (sym no_test)
        (subst (λ client. By client (step.Swap client)) own history)

-- where states of what is touched are missing, there is no world that the look-ups and the states are of
pub no_world : (r : Run) (c : RequestContext) (used : List (ℕ × Look)) (checked : Checked) (resolved : Resolved)
    → AcceptedAs r.script.topology c.request used c.states checked resolved → (HasStates checked → ⊥) → IsOfNoWorld r c used
no_world r c used checked resolved accepted lacks = record {
  resolved = resolved;
  asks = accepted.asks;
  none = λ w is.
      let all = accepted-states r.script.topology c.request used c.states checked resolved w accepted is in
      lacks all.states;
}

-- Look-ups of labels

named : (w : World) (labels : List ℕ) → map (λ (l : ℕ × Look). l.0) (map (λ label. (label, look_up w label)) labels) ≡ labels
named w [] = refl
named w (label ∷ more) = ap (λ xs. label ∷ xs) (named w more)

-- the look-ups of now are those of a request's labels
labels-now : (w : World) (request : Request) → map (λ (l : ℕ × Look). l.0) (lookups w request) ≡ labels_of request.assigns
labels-now w request = named w (labels_of request.assigns)

-- look-ups have the labels of those of now exactly where they are of the request's labels
module _ (r : Run) (c : RequestContext) (used given now : List (ℕ × Look)) (same : given ≡ used)
    (now_is : now ≡ lookups (world r) c.request) where
  now_labels : map (λ (l : ℕ × Look). l.0) now ≡ labels_of c.request.assigns
  now_labels = ap (map (λ (l : ℕ × Look). l.0)) now_is ∙ labels-now (world r) c.request

  pub of_labels : map (λ (l : ℕ × Look). l.0) given ≡ map (λ (l : ℕ × Look). l.0) now → AreOfLabels c used
  of_labels alike = ap (map (λ (l : ℕ × Look). l.0)) (sym same) ∙ alike ∙ now_labels

  pub alike_given : AreOfLabels c used → map (λ (l : ℕ × Look). l.0) given ≡ map (λ (l : ℕ × Look). l.0) now
  alike_given own = ap (map (λ (l : ℕ × Look). l.0)) same ∙ own ∙ sym now_labels

-- look-ups that have the same labels have the same at each place
pub alike_at : (used other : List (ℕ × Look)) (i : ℕ) (d : ℕ × Look) → i < length used → i < length other → map (λ (l : ℕ × Look). l.0) used
    ≡ map (λ (l : ℕ × Look). l.0) other → (get_or used i d).0 ≡ (get_or other i d).0
alike_at used other i d within among same =
    sym (get_or-map (λ (l : ℕ × Look). l.0) used i d d.0 within) ∙ ap (λ xs. get_or xs i d.0) same ∙ get_or-map (λ (l : ℕ × Look). l.0)
    other i d d.0 among

-- What calls on contexts ask for, and what they leave.
use Rattle.std.proofs.Common.{◌≡◌, ◌≤◌, Some, ℕ, ◌<◌, Bool, true, List, [], ◌∷◌, refl, sym, ap, ◌∙◌, subst, arith}
use Rattle.kms_model.specs.Order.Turns.{lock_step}
use Rattle.kms_model.specs.declared.replies.Step.{Step}
use Rattle.kms_model.specs.declared.replies.Step.TheVariants as step
use Rattle.kms_model.specs.Machine.Effects.{next, begun}
use Rattle.kms_model.specs.Machine.Histories.{legal}
use Rattle.kms_model.specs.Machine.Steps.{may, is_atomic}
use Rattle.kms_wwlock.specs.InStep.{AreClientsOf}
use Rattle.kms_wwlock.specs.Standing.{Standing}
use Rattle.kms_laws.proofs.SmallNumbers.{numbers_fit}
use Rattle.kms_model.specs.declared.objects.Ticket.{Ticket}
use Rattle.kms_model.specs.declared.runs.Doing.{Doing}
use Rattle.kms_model.specs.declared.runs.Doing.TheVariants as doing
use Rattle.kms_model.specs.declared.runs.Place.{Place}
use Rattle.kms_model.specs.Device.Objects.{first_id, index_of, kind_of}
use Rattle.kms_model.specs.Machine.State.{doing_at}
use Rattle.kms_model.specs.Machine.Steps.{ticket_of, is_lockable}
use Rattle.kms_model.specs.declared.objects.ObjId.{ObjId}
use Rattle.kms_wwlock.specs.InStep as Clients
use Rattle.kms_wwlock.specs.Standing.{HasTicket, ticket_in, place_of}
use Rattle.kms_wwlock.proofs.Held.{ticket_is}
use Rattle.kms_laws.specs.Laws.{has_context}
use Rattle.std.specs.Prelude.{nat_lt, ◌==◌, if◌then◌else◌}
use Rattle.std.proofs.Common.{false, None, Option}
use Rattle.std.proofs.lemmas.Bool.{and_from}
use Rattle.kms_model.specs.Machine.Effects.{locked}
use Rattle.kms_model.specs.Machine.State.{Machine, holder_at}
use Rattle.kms_model.specs.Machine.Steps.{is_free_or_older, may_lock, taking_at}
use Rattle.kms_model.specs.Request.Reach.{reaches}
use Rattle.kms_wwlock.specs.InStep.{after_lock, lock_answer}
use Rattle.kms_wwlock.specs.declared.table.Lock.{Lock as TableLock}
use Rattle.kms_wwlock.specs.declared.table.Lock.TheVariants as table
use Rattle.kms_model.specs.declared.states.ObjState.{ObjState}
use Rattle.kms_core.specs.Locks.{HasContext, MayBegin, MayLock, IsTaking, is_step, lock_steps, locked_as, locked_answer, present_state}
use Rattle.kms_core.specs.States.{stored_state}
use Rattle.kms_core.proofs.calls.Stored.{stored}
use Rattle.kms_core.specs.declared.calls.contexts.Locked.{Locked}
use Rattle.kms_core.specs.Run.{Run, machine, gains}
use Rattle.kms_core.specs.Stands.{Stores, Stands}
use Rattle.kms_core.proofs.stores.Beside.{stands_beside, same_locked}
use Rattle.kms_core.proofs.stores.CommitStates.{facts}
use Rattle.kms_core.proofs.stores.Histories.{goes_on}
use Rattle.kms_core.proofs.Places.{may_idle, MayIdle, not_ended, object_is}

-- begin

module _ {r : Run} {st : Stores} (stands : Stands r st) where
  pub begins_idle : {client : ℕ} → MayBegin r client → MayIdle r.script (machine r) client st.clients
  unfolding legal may
  begins_idle {client} asked = may_idle r.steps client is_atomic stands.formed stands.history stands.stores.clients
      (not_ended (machine r).stalled _ asked)

  pub tickets_fit : st.clients.table.drawn < 4294967295
  tickets_fit = let fit = numbers_fit r.script r.steps stands.formed stands.history
      in omega (arith, fit.tickets, stands.stores.clients.tickets)

  pub begins : {w : Run} (client : ℕ) {clients : Standing} → MayBegin r client → w ≡ gains r (step.Begin client ∷ [])
      → AreClientsOf (begun (machine r) client).contexts clients → Stands w (record st { clients = clients })
  unfolding next
  begins client {clients} asked more now =
      goes_on (step.Begin client) refl refl refl stands more asked
      (stands_beside (begun (machine r) client) clients
      (record { device = refl; records = refl; events = refl; stalled = refl }) now stands.stores)

-- lock

pub with_ticket : (d : Doing) {t : Ticket} → ticket_in d ≡ Some t → has_context d ≡ true
with_ticket doing.Idle e = absurd cc
with_ticket (doing.Taking u) e = refl
with_ticket (doing.MustBackOff u object) e = refl
with_ticket (doing.BackedOff u object) e = refl
with_ticket (doing.Returning k) e = absurd cc

-- the client whose context has a ticket is the only one that is found by it
pub only_client : {r : Run} {st : Stores} {t : Ticket} {found : ℕ} (client : ℕ) → Stands r st → HasTicket st.clients t found
    → HasContext r client t → found ≡ client
only_client {r} {t = t} {found = found} client stands has here =
    let own : HasContext r found t = ap (λ (p : Place). ticket_in p.doing) (sym (stands.stores.clients.places found has.is_client)) ∙
    has.ticket
    in (facts stands).locks.unique found client (with_ticket (doing_at (machine r) found) own)
    (with_ticket (doing_at (machine r) client) here)
    (ticket_is (doing_at (machine r) found) t own ∙ sym (ticket_is (doing_at (machine r) client) t here))

-- what is known of the client of a ticket that asks for an object
pub record Asks (r : Run) (st : Stores) (t : Ticket) (id : ObjId) (found : ℕ) : Type 0 where
  pub only : (client : ℕ) → IsTaking r client t → found ≡ client
  pub place : Clients.IsTaking (place_of st.clients found).doing
  pub is_id : first_id (kind_of id.0) ≤ id.0
  pub lockable : is_lockable r.script.topology (kind_of id.0) (index_of id.0) ≡ true
  pub reached : taking_at r.script (machine r) found (λ q. reaches r.script.topology (machine r).device.world q id.0) ≡ true
  pub goes_on : (machine r).stalled ≡ false

pub asks : {r : Run} {st : Stores} {t : Ticket} {id : ObjId} {found : ℕ} → Stands r st → MayLock r t id → HasTicket st.clients t found
    → Asks r st t id found
asks {r} {st} {t} {id} {found} stands may has =
    let only : (client : ℕ) → IsTaking r client t → found ≡ client = λ client is. only_client client stands has (ap ticket_in is) in
    let own = sym (only may.client may.taking) in
    record {
      only = only;
      place = subst Clients.IsTaking (sym (ap (λ (p : Place). p.doing) (stands.stores.clients.places found has.is_client)
          ∙ ap (doing_at (machine r)) (sym own) ∙ may.taking)) tt;
      is_id = may.is_id;
      lockable = may.lockable;
      reached = subst (λ (c : ℕ). taking_at r.script (machine r) c (λ q. reaches r.script.topology (machine r).device.world q id.0) ≡ true)
          own may.reached;
      goes_on = may.goes_on;
    }

-- An answer that is no event leaves the contexts as they are, and one that is an event was legal

pub no_event : (m : Machine) (client object : ℕ) (answer : TableLock) → is_step answer ≡ false → after_lock m client object answer
    ≡ m.contexts
no_event m client object table.Got e = absurd cc
no_event m client object table.Own e = refl
no_event m client object (table.Older holder) e = absurd cc
no_event m client object (table.Younger holder) e = refl

pub an_event : (m : Machine) (client object : ℕ) (answer : TableLock) → is_step answer ≡ true → after_lock m client object answer
    ≡ (locked m client object (holder_at m object)).contexts
an_event m client object table.Got e = refl
an_event m client object table.Own e = absurd cc
an_event m client object (table.Older holder) e = refl
an_event m client object (table.Younger holder) e = absurd cc

free_or_older : (m : Machine) (client : ℕ) (h : Option ℕ) → is_step (lock_answer m client h) ≡ true
    → is_free_or_older m (ticket_of (doing_at m client)) h ≡ true
free_or_older m client None e = refl
free_or_older m client (Some holder) e = at (holder == client) (nat_lt (ticket_of (doing_at m holder)) (ticket_of (doing_at m client))) e
  where
    at : (own older : Bool) → is_step (if own then table.Own else if older then table.Older (record { 0 = ticket_of (doing_at m holder) })
        else table.Younger (record { 0 = ticket_of (doing_at m holder) })) ≡ true → older ≡ true
    at true older e = absurd cc
    at false true e = refl
    at false false e = absurd cc

module _ {r : Run} {st : Stores} (stands : Stands r st) where
  -- nothing but memory for steps was taken
  pub stays : {steps : List Step} {clients : Standing} → steps ≡ r.steps → AreClientsOf (machine r).contexts clients
      → Stands (record { script = r.script; steps = steps }) (record st { clients = clients })
  stays {clients = clients} is now = rw is (record {
    formed = stands.formed;
    history = stands.history;
    freed = stands.freed;
    stored = stands.stored;
    stores = stands_beside (machine r) clients
        (record { device = refl; records = refl; events = refl; stalled = refl }) now stands.stores;
  })

  pub lock_stays : (id : ObjId) (client : ℕ) (answer : TableLock) {steps : List Step} {clients : Standing} → is_step answer ≡ false
      → steps ≡ r.steps → AreClientsOf (after_lock (machine r) client id.0 answer) clients
      → Stands (record { script = r.script; steps = steps }) (record st { clients = clients })
  lock_stays id client answer none is now = stays is (rw (no_event (machine r) client id.0 answer none) at now)

module _ {r : Run} {st : Stores} {t : Ticket} {id : ObjId} {found : ℕ} (stands : Stands r st) (A : Asks r st t id found) where
  lock_legal : is_step (lock_answer (machine r) found (holder_at (machine r) id.0)) ≡ true
      → legal r.script (machine r) (lock_step found id.0) ≡ true
  unfolding legal may may_lock
  lock_legal event =
      rw (A.goes_on, A.lockable, object_is id.0 A.is_id)
      (and_from _ (is_free_or_older (machine r) (ticket_of (doing_at (machine r) found)) (holder_at (machine r) id.0)) A.reached
      (free_or_older (machine r) found (holder_at (machine r) id.0) event))

  pub lock_goes_on : {w : Run} {answer : TableLock} {clients : Standing} → answer ≡ lock_answer (machine r) found (holder_at (machine r)
      id.0)
      → is_step answer ≡ true → w ≡ gains r (lock_step found id.0 ∷ []) → AreClientsOf (after_lock (machine r) found id.0 answer) clients
      → Stands w (record st { clients = clients })
  unfolding next
  lock_goes_on {answer = answer} {clients = clients} told event more now =
      goes_on (lock_step found id.0) refl refl refl stands more (lock_legal (ap is_step (sym told) ∙ event))
      (rw (object_is id.0 A.is_id)
      (stands_beside (locked (machine r) found id.0 (holder_at (machine r) id.0)) clients
      (same_locked (machine r) found id.0 (holder_at (machine r) id.0)) (rw (an_event (machine r) found id.0 answer event) at now)
      stands.stores))

  -- what is answered, in the words of the contract
  pub lock_answered : {state : ObjState} {answer : TableLock} → stored_state st.present id.0 ≡ Some state
      → answer ≡ lock_answer (machine r) found (holder_at (machine r) id.0)
      → (client : ℕ) → IsTaking r client t → locked_as state answer ≡ locked_answer r client id
  lock_answered {state} {answer} at told client taking =
      let there : Some state ≡ Some (present_state r id) = sym at ∙ stored id.0
      stands.stores.world.states A.is_id A.lockable in
      let state_is : state ≡ present_state r id = cc in
      subst (λ (c : ℕ). locked_as state answer ≡ locked_answer r c id) (A.only client taking) (rw (state_is, told) refl)

-- the steps of an answer
pub steps_of_lock : (client : ℕ) (id : ObjId) (state : ObjState) (answer : TableLock) {b : Bool} → is_step answer ≡ b
    → lock_steps client id (locked_as state answer) ≡ (if b then lock_step client id.0 ∷ [] else [])
steps_of_lock client id state table.Got e = rw (← e) refl
steps_of_lock client id state table.Own e = rw (← e) refl
steps_of_lock client id state (table.Older holder) e = rw (← e) refl
steps_of_lock client id state (table.Younger holder) e = rw (← e) refl

-- the history after an answer that is an event
pub lock_history : {r w : Run} {st : Stores} {t : Ticket} {id : ObjId} {found : ℕ} (state : ObjState) (answer : TableLock) {told : Locked}
    → Asks r st t id found → told ≡ locked_as state answer → is_step answer ≡ true → w ≡ gains r (lock_step found id.0 ∷ [])
    → (client : ℕ) → IsTaking r client t → w ≡ gains r (lock_steps client id told)
lock_history {r} {id = id} {found = found} state answer {told} A is event more client taking =
    more ∙ ap (gains r) (sym (steps_of_lock found id state answer event) ∙ ap (lock_steps found id) (sym is)
    ∙ ap (λ c. lock_steps c id told) (A.only client taking))

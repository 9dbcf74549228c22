-- Contexts that back off, and take their object again.
use Rattle.std.proofs.Common.{◌≡◌, ℕ, true, Some, None, Option, List, [], ◌∷◌, refl, sym, ap, ◌∙◌, subst, arith}
use Rattle.kms_model.specs.declared.objects.ObjId.{ObjId}
use Rattle.kms_model.specs.declared.objects.Ticket.{Ticket}
use Rattle.kms_model.specs.declared.replies.Step.{Step}
use Rattle.kms_model.specs.declared.replies.Step.TheVariants as step
use Rattle.kms_model.specs.declared.runs.Doing.{Doing}
use Rattle.kms_model.specs.declared.runs.Doing.TheVariants as doing
use Rattle.kms_model.specs.declared.runs.Place.{Place}
use Rattle.kms_model.specs.Machine.Effects.{next, backed_off, drops_locks, now_doing}
use Rattle.kms_model.specs.Machine.Histories.{legal}
use Rattle.kms_model.specs.Machine.State.{doing_at, holder_at, entry_at, command_at}
use Rattle.kms_model.specs.declared.scripts.Command.TheVariants as command
use Rattle.kms_model.specs.Machine.Steps.{may}
use Rattle.kms_wwlock.specs.InStep as Clients
use Rattle.kms_wwlock.specs.Standing.{HasTicket, IsClient, Standing, place_of, ticket_in}
use Rattle.kms_laws.proofs.Steps.{request-is}
use Rattle.kms_laws.proofs.Sizes.{command-there}
use Rattle.std.specs.Prelude.{is_none}
use Rattle.kms_model.specs.declared.states.ObjState.{ObjState}
use Rattle.kms_model.specs.Machine.Effects.{relocked}
use Rattle.kms_model.specs.Machine.Steps.{contended}
use Rattle.kms_laws.proofs.Contexts.{asked_of}
use Rattle.kms_wwlock.specs.declared.table.Relock.{Relock as TableRelock}
use Rattle.kms_wwlock.specs.declared.table.Relock.TheVariants as again
use Rattle.kms_core.specs.States.{stored_state}
use Rattle.kms_core.proofs.calls.Locking.{only_client, with_ticket}
use Rattle.kms_core.proofs.calls.Stored.{stored, on_device}
use Rattle.kms_model.proofs.TouchedLemmas.{few_objects}
use Rattle.kms_core.specs.Locks.{MayBackOff, MayRelock, HasContext, present_state, relocked_as, relocked_answer, object_or_zero}
use Rattle.kms_core.specs.Run.{Run, machine, gains}
use Rattle.kms_core.specs.Stands.{Stores, Stands}
use Rattle.kms_core.proofs.stores.Beside.{stands_beside, same_relocked}
use Rattle.kms_core.proofs.stores.CommitStates.{facts}
use Rattle.kms_core.proofs.stores.Histories.{goes_on}

module _ {r : Run} {st : Stores} (stands : Stands r st) where
  -- a client that has a context is one of the script's
  pub client_of_context : {t : Ticket} {client : ℕ} → HasContext r client t → IsClient client
  client_of_context {t} {client} here =
      let asked = (facts stands).locks.atomic client (with_ticket (doing_at (machine r) client) here) in
      let there = command-there r.script (entry_at (machine r) client) (command.Atomic asked.request)
      (request-is (command_at r.script (machine r) client) asked.request asked.at) in
      (there.low, omega (arith, there.high, stands.formed.few))

  -- it is found by its ticket
  pub is_found : (t : Ticket) (client : ℕ) → HasContext r client t → ticket_in (place_of st.clients client).doing ≡ Some t
  is_found t client here =
      ap (λ (p : Place). ticket_in p.doing) (stands.stores.clients.places client (client_of_context here)) ∙ here

module _ {r : Run} {st : Stores} {t : Ticket} {found : ℕ} (stands : Stands r st) (has : HasTicket st.clients t found) where
  -- what the client does in the machine, it does in the store
  stored_doing : {d : Doing} (client : ℕ) → doing_at (machine r) client ≡ d → ticket_in d ≡ Some t → doing_at (machine r) found ≡ d
  stored_doing client is own =
      ap (doing_at (machine r)) (only_client client stands has (ap ticket_in is ∙ own)) ∙ is

  place_is : {d : Doing} → doing_at (machine r) found ≡ d → (place_of st.clients found).doing ≡ d
  place_is is = ap (λ (p : Place). p.doing) (stands.stores.clients.places found has.is_client) ∙ is

  -- the history gains a step of the client that was found, and no other has the ticket
  pub gains_step : {w : Run} (of : ℕ → List Step) → w ≡ gains r (of found) → (client : ℕ) → HasContext r client t
      → w ≡ gains r (of client)
  gains_step of more client context = more ∙ ap (λ c. gains r (of c)) (only_client client stands has context)

  -- backoff

  must : (may : MayBackOff r t) → doing_at (machine r) found ≡ doing.MustBackOff t may.object
  must may = stored_doing may.client may.must refl

  pub must_place : MayBackOff r t → Clients.MustBackOff (place_of st.clients found).doing
  must_place may = subst Clients.MustBackOff (sym (place_is (must may))) tt

  backoff_legal : MayBackOff r t → legal r.script (machine r) (step.BackOff found) ≡ true
  unfolding legal may
  backoff_legal may = rw (may.goes_on, must may) refl

  pub backoff_goes_on : {w : Run} {clients : Standing} → MayBackOff r t → w ≡ gains r (step.BackOff found ∷ [])
      → Clients.AreClientsOf (Clients.after_backoff (machine r) found) clients → Stands w (record st { clients = clients })
  unfolding next
  backoff_goes_on {clients = clients} may more now =
      goes_on (step.BackOff found) refl refl refl stands more (backoff_legal may)
      (stands_beside (drops_locks (now_doing (machine r) found (backed_off (doing_at (machine r) found))) found)
      clients (record { device = refl; records = refl; events = refl; stalled = refl }) now stands.stores)

  -- relock

  off : (may : MayRelock r t) → doing_at (machine r) found ≡ doing.BackedOff t may.object
  off may = stored_doing may.client may.off refl

  pub off_stored : (may : MayRelock r t) → (place_of st.clients found).doing ≡ doing.BackedOff t may.object
  off_stored may = place_is (off may)

  pub off_place : MayRelock r t → Clients.HasBackedOff (place_of st.clients found).doing
  off_place may = subst Clients.HasBackedOff (sym (off_stored may)) tt

  -- the object that it backed off for is on the device
  pub off_there : (may : MayRelock r t) → stored_state st.present may.object.0 ≡ Some (present_state r may.object)
  off_there may =
      let there = on_device r.script.topology may.object.0 (few_objects r.script.topology stands.formed.device)
      ((facts stands).locks.asked_there found may.object.0 (ap asked_of (off may))) in
      stored may.object.0 stands.stores.world.states there.is_id
      there.lockable

  pub relock_answered : (may : MayRelock r t) {id : ObjId} {state : ObjState} {answer : TableRelock} → id ≡ may.object
      → stored_state st.present id.0 ≡ Some state
      → answer ≡ Clients.relock_answer (machine r) (Clients.holder_of_contended (machine r) (contended (doing_at (machine r) found)))
      → (client : ℕ) → HasContext r client t → relocked_as state answer ≡ relocked_answer r client
  relock_answered may {state = state} {answer = answer} id_is at told client context =
      let there : Some state ≡ Some (present_state r may.object) = sym at ∙ ap (λ (o : ObjId). stored_state st.present o.0) id_is
      ∙ off_there may in
      let state_is : state ≡ present_state r may.object = cc in
      let asked : object_or_zero (contended (doing_at (machine r) found)) ≡ may.object = ap (λ d. object_or_zero (contended d)) (off may) in
      subst (λ (c : ℕ). relocked_as state answer ≡ relocked_answer r c) (only_client client stands has context)
      (ap (λ s. relocked_as s answer) (state_is ∙ ap (present_state r) (sym asked)) ∙ ap
      (relocked_as (present_state r (object_or_zero (contended (doing_at (machine r) found))))) told)

  pub relock_goes_on : {w : Run} {clients : Standing} → MayRelock r t → again.Got
      ≡ Clients.relock_answer (machine r) (Clients.holder_of_contended (machine r) (contended (doing_at (machine r) found)))
      → w ≡ gains r (step.Relock found ∷ []) → Clients.AreClientsOf (Clients.after_relock (machine r) found again.Got) clients
      → Stands w (record st { clients = clients })
  unfolding next legal may
  relock_goes_on {clients = clients} may told more now =
      goes_on (step.Relock found) refl refl refl stands more relock_legal
      (stands_beside (relocked (machine r) found (contended (doing_at (machine r) found))) clients
      (same_relocked (machine r) found (contended (doing_at (machine r) found))) now stands.stores) where
        free : (h : Option ℕ) → again.Got ≡ Clients.relock_answer (machine r) h → is_none h ≡ true
        free None e = refl
        free (Some holder) e = absurd cc

        relock_legal : legal r.script (machine r) (step.Relock found) ≡ true
        relock_legal = rw (may.goes_on, off may)
            (free (holder_at (machine r) may.object.0)
            (told ∙ ap (λ d. Clients.relock_answer (machine r) (Clients.holder_of_contended (machine r) (contended d))) (off may)))

-- Clients that stand for a machine's go on standing for them.
use Rattle.std.proofs.Common.{◌≡◌, ◌≢◌, ℕ, zero, suc, get_or, replicate, arith, ◌-◌, ◌==◌, Bool, true, false, List, ◌∷◌, length, set, Some}
use Rattle.std.proofs.Common.{None, Option, refl, sym, ap, ◌∙◌, inl, inr, subst}
use Rattle.std.proofs.lemmas.Bool.{cases_eq, eq-eqb, ne_eqb}
use Rattle.std.specs.Prelude.{if◌then◌else◌}
use Rattle.std.proofs.lemmas.List.{get_or-replicate}
use Rattle.kms_model.specs.declared.objects.Topology.{Topology}
use Rattle.kms_model.specs.declared.objects.ObjId.{ObjId}
use Rattle.kms_model.specs.declared.objects.Ticket.{Ticket}
use Rattle.kms_model.specs.declared.runs.Doing.{Doing}
use Rattle.kms_model.specs.declared.runs.Place.{Place}
use Rattle.kms_model.specs.declared.runs.Doing.TheVariants as doing
use Rattle.kms_model.specs.Machine.Effects.{dropped, locked, relocked, backed_off}
use Rattle.kms_model.specs.Machine.Steps.{contended}
use Rattle.kms_model.specs.Machine.Registers.{read}
use Rattle.kms_model.specs.Machine.State.{Contexts, Machine, doing_at, place_at, holder_at, first_machine}
use Rattle.kms_wwlock.specs.Objects.{IsLockable, lock_place}
use Rattle.kms_wwlock.specs.Table.{Table, holder_of}
use Rattle.kms_wwlock.specs.declared.table.Lock.{Lock}
use Rattle.kms_wwlock.specs.declared.table.Lock.TheVariants as lock
use Rattle.kms_wwlock.specs.declared.table.Relock.{Relock}
use Rattle.kms_wwlock.specs.Calls.{AreUnlocked, IsTakenBy, lock_answer as table_answer, after_lock as table_after, relock_from}
use Rattle.kms_wwlock.specs.Standing.{Standing, IsClient, first_place, no_place, no_clients, place_in, doing_in, ticket_in, put_doing}
use Rattle.kms_wwlock.specs.Standing.{AreTied}
use Rattle.kms_wwlock.specs.InStep.{AreClientsOf, IsHeldAs, ticket_at, lock_answer, relock_answer, holder_of_contended, after_lock}
use Rattle.kms_wwlock.specs.InStep.{after_backoff}
use Rattle.kms_wwlock.proofs.Places.{HasContext, Moves, moves, each, SameTickets, same_tickets}
use Rattle.kms_wwlock.proofs.Held.{held_still, held_freed, held_beside, free_of, read_dropped, number, answered, answered_again}

-- the machine's places after one client's is new
pub places_put : (x : List (ℕ × Place)) (old new : List Place) (client : ℕ) (place : Place)
    → ((a : ℕ) → IsClient a → place_in old a ≡ read first_place x a) → Moves old new client place
    → (a : ℕ) → IsClient a → place_in new a ≡ read first_place ((client, place) ∷ x) a
unfolding read
places_put x old new client place stand moves =
    each old new client place (λ a p. p ≡ read first_place ((client, place) ∷ x) a) moves (rw (eq-eqb client client refl) refl)
    (λ a is ne. rw (ne_eqb client a (λ e. ne (sym e))) (stand a is))

-- each object is held as in the machine, by these locks
abbrev pub AreHeld : List Place → Table → List (ℕ × Option ℕ) → Type 0
AreHeld places table locks = (id : ObjId) → IsLockable id → IsHeldAs places (holder_of table id) (read None locks id.0)

-- no lock changes, and clients keep their tickets
pub held_all : (old new : List Place) (before after : Table) (locks : List (ℕ × Option ℕ)) → SameTickets old new → after.holders
    ≡ before.holders → AreHeld old before locks → AreHeld new after locks
held_all old new before after locks same is held = λ id lockable. rw is
    (held_still old new (holder_of before id) (read None locks id.0) same (held id lockable))

-- an object is taken by a client
pub held_taken : (old new : List Place) (before after : Table) (locks : List (ℕ × Option ℕ)) (client : ℕ) (t : Ticket) (id : ObjId)
    → IsClient client → SameTickets old new → ticket_in (doing_in new client) ≡ Some t
    → IsTakenBy before after t id → AreHeld old before locks → AreHeld new after ((id.0, Some client) ∷ locks)
unfolding read
held_taken old new before after locks client t id is same own taken held = λ other lockable.
    elim (cases_eq id.0 other.0) [
      | inl equal ↦ rw (eq-eqb id.0 other.0 equal)
          (subst (λ o. IsHeldAs new o (Some client))
          (sym (ap (λ (n : ℕ). let w : ObjId = record { 0 = n } in holder_of after w) (sym equal) ∙ taken.locked_by)) (is, own))
      | inr ne ↦ rw (ne_eqb id.0 other.0 ne, taken.others other lockable (λ e. ne (sym e)))
          (held_still old new (holder_of before other) (read None locks other.0) same (held other lockable))
    ]

-- a client's locks are dropped
pub held_dropped : (old new : List Place) (before after : Table) (locks : List (ℕ × Option ℕ)) (client : ℕ) (t : Ticket)
    → AreTied old before.contexts → IsClient client → ticket_in (doing_in old client) ≡ Some t
    → ((a : ℕ) → IsClient a → a ≢ client → ticket_in (doing_in new a) ≡ ticket_in (doing_in old a))
    → AreUnlocked before after t → AreHeld old before locks → AreHeld new after (dropped client locks)
held_dropped old new before after locks client t tied is own there freed held = λ id lockable.
    rw (freed id, read_dropped client locks id.0)
    (held_beside old new client _ (free_of client (read None locks id.0)) there (not_own (read None locks id.0))
    (held_freed old before.contexts client t (holder_of before id) (read None locks id.0) tied is own (held id lockable))) where
      not_own : (h : Option ℕ) → free_of client h ≡ Some client → ⊥
      not_own None e = absurd cc
      not_own (Some other) e = at (other == client) refl e where
        at : (b : Bool) → (other == client) ≡ b → (if b then None else Some other) ≡ Some client → ⊥
        at true is e = absurd cc
        at false is e = let same : other ≡ client = cc in let yes = eq-eqb other client same in absurd cc

-- All together: a client's place is new
module _ (x : Contexts) (v : Standing) (stand : AreClientsOf x v) (size : length v.places ≡ 16) (client : ℕ) (client_is : IsClient client)
    (new : List Place) where
  -- the new place is told of the old one, which is the machine's
  pub moved_in : (change : Place → Place) → new ≡ set v.places (client - 1) (change (place_in v.places client))
      → Moves v.places new client (change (read first_place x.places client))
  moved_in change is = Place_moves (change (read first_place x.places client))
      (is ∙ ap (λ p. set v.places (client - 1) (change p)) (stand.places client client_is)) where
        Place_moves : (place : Place) → new ≡ set v.places (client - 1) place → Moves v.places new client place
        Place_moves place e = moves v.places new client place size client_is e

  pub stands : (place : Place) (table : Table) (locks : List (ℕ × Option ℕ)) (tickets : ℕ) → Moves v.places new client place → table.drawn
      ≡ tickets → AreHeld new table locks
      → AreClientsOf (record { places = (client, place) ∷ x.places; locks = locks; tickets = tickets })
      (record { places = new; table = table })
  stands place table locks tickets m drawn held = record {
    places = places_put x.places v.places new client place stand.places m;
    tickets = drawn;
    holders = held;
  }

-- What each call does, where a client has a context with a ticket
module _ (m : Machine) (v : Standing) (stand : AreClientsOf m.contexts v) (client : ℕ) (t : Ticket) (now : Doing)
    (found : HasContext v client t now) where
  at_places : (a : ℕ) → IsClient a → doing_in v.places a ≡ doing_at m a
  at_places a is = ap (λ (p : Place). p.doing) (stand.places a is)

  its_ticket : ticket_at m client ≡ t
  its_ticket = number m v.places v.table.contexts found.tied at_places client t found.client_is found.own

  pub lock_answers : (id : ObjId) → IsLockable id → table_answer t (holder_of v.table id) ≡ lock_answer m client (holder_at m id.0)
  lock_answers id lockable = answered m v.places v.table.contexts found.tied at_places client t (holder_of v.table id) (holder_at m id.0)
      found.client_is found.own (stand.holders id lockable)

  pub relock_answers : (id : ObjId) → IsLockable id → relock_from (holder_of v.table id) ≡ relock_answer m (holder_at m id.0)
  relock_answers id lockable = answered_again m v.places v.table.contexts found.tied at_places (holder_of v.table id) (holder_at m id.0)
      (stand.holders id lockable)

  -- an object is taken
  pub takes : (id : ObjId) (table : Table) → IsTakenBy v.table table t id → table.drawn ≡ v.table.drawn
      → AreClientsOf (record { places = m.contexts.places; locks = (id.0, Some client) ∷ m.contexts.locks; tickets = m.contexts.tickets })
      (record { places = v.places; table = table })
  takes id table taken drawn = record {
    places = stand.places;
    tickets = drawn ∙ stand.tickets;
    holders = held_taken v.places v.places v.table table m.contexts.locks client t id found.client_is (λ a is. refl) found.own taken
        stand.holders;
  }

  module _ (new : List Place) (table : Table) (drawn : table.drawn ≡ v.table.drawn) where
    -- the client does something else with its ticket
    pub does : (d : Doing) → new ≡ put_doing v.places client d → ticket_in d ≡ Some t → table.holders ≡ v.table.holders
        → AreClientsOf (record {
          places = (client, record { command = (place_at m client).command; doing = d })
              ∷ m.contexts.places;
          locks = m.contexts.locks;
          tickets = m.contexts.tickets;
        }) (record { places = new; table = table })
    does d is keeps holders =
        let at = moved_in m.contexts v stand found.tied.size client found.client_is new (λ p. record p { doing = d }) is in
        stands m.contexts v stand found.tied.size client found.client_is new (record { command = (place_at m client).command; doing = d })
        table m.contexts.locks m.contexts.tickets at (drawn ∙ stand.tickets)
        (held_all v.places new v.table table m.contexts.locks
        (same_tickets v.places new client (record { command = (place_at m client).command; doing = d }) at (keeps ∙ sym found.own))
        holders stand.holders)

    -- it does, and takes an object
    pub does_taking : (d : Doing) (id : ObjId) → new ≡ put_doing v.places client d → ticket_in d ≡ Some t → IsTakenBy v.table table t id
        → AreClientsOf (record {
          places = (client, record { command = (place_at m client).command; doing = d })
              ∷ m.contexts.places;
          locks = (id.0, Some client) ∷ m.contexts.locks;
          tickets = m.contexts.tickets;
        })
        (record { places = new; table = table })
    does_taking d id is keeps taken =
        let place : Place = record { command = (place_at m client).command; doing = d } in
        let at = moved_in m.contexts v stand found.tied.size client found.client_is new (λ p. record p { doing = d }) is in
        stands m.contexts v stand found.tied.size client found.client_is new place table ((id.0, Some client) ∷ m.contexts.locks)
        m.contexts.tickets at (drawn ∙ stand.tickets)
        (held_taken v.places new v.table table m.contexts.locks client t id found.client_is
        (same_tickets v.places new client place at (keeps ∙ sym found.own)) (ap (λ (p : Place). ticket_in p.doing) at.here ∙ keeps)
        taken stand.holders)

    -- its place is new, and its locks are dropped
    pub drops : (change : Place → Place) → new ≡ set v.places (client - 1) (change (place_in v.places client)) → AreUnlocked v.table table t
        → AreClientsOf (record {
          places = (client, change (place_at m client))
              ∷ m.contexts.places;
          locks = dropped client m.contexts.locks;
          tickets = m.contexts.tickets;
        })
        (record { places = new; table = table })
    drops change is freed =
        let at = moved_in m.contexts v stand found.tied.size client found.client_is new change is in
        stands m.contexts v stand found.tied.size client found.client_is new (change (place_at m client)) table
        (dropped client m.contexts.locks) m.contexts.tickets at (drawn ∙ stand.tickets)
        (held_dropped v.places new v.table table m.contexts.locks client t found.tied found.client_is found.own
        (λ a is ne. ap (λ (p : Place). ticket_in p.doing) (at.there a is ne)) freed stand.holders)

  -- an older context holds the object
  pub meets_older : (new : List Place) (table : Table) (id : ObjId) (holder : Ticket) (h : Option ℕ) → table.drawn ≡ v.table.drawn → new
      ≡ put_doing v.places client (doing.MustBackOff t id) → table.holders ≡ v.table.holders
      → lock_answer m client h ≡ lock.Older holder → AreClientsOf (locked m client id.0 h).contexts (record { places = new; table = table })
  meets_older new table id holder None drawn is holders older = absurd cc
  meets_older new table id holder (Some other) drawn is holders older = rw its_ticket
      (does new table drawn (doing.MustBackOff t id) is refl holders)

  -- no older context holds it
  pub meets_no_older : (id : ObjId) (answer : Lock) (table : Table) → ((holder : Ticket) → answer ≡ lock.Older holder → ⊥)
      → (answer ≡ lock.Got → IsTakenBy v.table table t id) → table ≡ table_after v.table t id answer
      → answer ≡ lock_answer m client (holder_at m id.0)
      → AreClientsOf (after_lock m client id.0 answer) (record { places = v.places; table = table })
  meets_no_older id lock.Got table not_older taken is answer = got (holder_at m id.0) refl where
    got : (h : Option ℕ) → holder_at m id.0 ≡ h → AreClientsOf (locked m client id.0 (holder_at m id.0)).contexts
        (record { places = v.places; table = table })
    got None free = rw free (takes id table (taken refl) (ap (λ (w : Table). w.drawn) is))
    got (Some other) held = absurd (not_got other (answer ∙ ap (lock_answer m client) held)) where
      by_bools : (a b : Bool) (x y : Ticket) → lock.Got ≡ (if a then lock.Own else if b then lock.Older x else lock.Younger y) → ⊥
      by_bools true b x y e = absurd cc
      by_bools false true x y e = absurd cc
      by_bools false false x y e = absurd cc

      not_got : (other : ℕ) → lock.Got ≡ lock_answer m client (Some other) → ⊥
      not_got other e = by_bools (other == client) _ _ _ e
  meets_no_older id lock.Own table not_older taken is answer = subst
      (λ (w : Table). AreClientsOf m.contexts (record { places = v.places; table = w })) (sym is) stand
  meets_no_older id (lock.Older holder) table not_older taken is answer = absurd (not_older holder refl)
  meets_no_older id (lock.Younger holder) table not_older taken is answer = subst
      (λ (w : Table). AreClientsOf m.contexts (record { places = v.places; table = w })) (sym is) stand

  -- it backs off
  pub backs_off : (object : ObjId) (new : List Place) (table : Table) → now ≡ doing.MustBackOff t object → table.drawn ≡ v.table.drawn → new
      ≡ put_doing v.places client (doing.BackedOff t object)
      → AreUnlocked v.table table t → AreClientsOf (after_backoff m client) (record { places = new; table = table })
  backs_off object new table is drawn put freed =
      subst (λ (d : Doing). AreClientsOf (record {
        places = (client, record { command = (place_at m client).command; doing = backed_off d })
            ∷ m.contexts.places;
        locks = dropped client m.contexts.locks;
        tickets = m.contexts.tickets;
      })
      (record { places = new; table = table }))
      (sym (found.does ∙ is) ∙ at_places client found.client_is)
      (drops new table drawn (λ (p : Place). record p { doing = doing.BackedOff t object }) put freed)

  -- it asks again for the object that it backed off for
  module _ (object : ObjId) (is : now ≡ doing.BackedOff t object) (lockable : IsLockable object) where
    off : doing_at m client ≡ doing.BackedOff t object
    off = sym (at_places client found.client_is) ∙ found.does ∙ is

    pub again_answers : (answer : Relock) → answer ≡ relock_from (holder_of v.table object) → answer
        ≡ relock_answer m (holder_of_contended m (contended (doing_at m client)))
    again_answers answer e = e ∙ relock_answers object lockable ∙ ap (λ d. relock_answer m (holder_of_contended m (contended d))) (sym off)

    pub takes_again : (new : List Place) (table : Table) → table.drawn ≡ v.table.drawn → new ≡ put_doing v.places client (doing.Taking t)
        → IsTakenBy v.table table t object
        → AreClientsOf (relocked m client (contended (doing_at m client))).contexts (record { places = new; table = table })
    takes_again new table drawn put taken =
        subst (λ (d : Doing). AreClientsOf (relocked m client (contended d)).contexts (record { places = new; table = table })) (sym off)
        (subst (λ (w : Ticket). AreClientsOf (record {
          places = (client, record { command = (place_at m client).command; doing = doing.Taking w })
              ∷ m.contexts.places;
          locks = (object.0, Some client) ∷ m.contexts.locks;
          tickets = m.contexts.tickets;
        })
        (record { places = new; table = table })) (sym its_ticket)
        (does_taking new table drawn (doing.Taking t) object put refl taken))

-- Where it has none

module _ (m : Machine) (v : Standing) (stand : AreClientsOf m.contexts v) (tied : AreTied v.places v.table.contexts) (client : ℕ)
    (client_is : IsClient client) (none : ticket_in (doing_in v.places client) ≡ None) (new : List Place) where
  -- it holds nothing
  not_own : (id : ObjId) → IsLockable id → read None m.contexts.locks id.0 ≡ Some client → ⊥
  not_own id lockable e = at (holder_of v.table id) (subst (λ h. IsHeldAs v.places (holder_of v.table id) h) e (stand.holders id lockable))
    where
      at : (o : Option Ticket) → IsHeldAs v.places o (Some client) → ⊥
      at None held = held
      at (Some u) held = let w : None ≡ Some u = sym none ∙ held.1 in absurd cc

  beside : (table : Table) (place : Place) → Moves v.places new client place → table.holders ≡ v.table.holders
      → AreHeld new table m.contexts.locks
  beside table place at holders = λ id lockable. rw holders
      (held_beside v.places new client (holder_of v.table id) (read None m.contexts.locks id.0)
      (λ a is ne. ap (λ (p : Place). ticket_in p.doing) (at.there a is ne)) (not_own id lockable) (stand.holders id lockable))

  -- its place is new
  pub goes : (change : Place → Place) (table : Table) (tickets : ℕ) → new ≡ set v.places (client - 1) (change (place_in v.places client))
      → table.holders ≡ v.table.holders → table.drawn ≡ tickets
      → AreClientsOf (record {
        places = (client, change (place_at m client))
            ∷ m.contexts.places;
        locks = m.contexts.locks;
        tickets = tickets;
      }) (record { places = new; table = table })
  goes change table tickets is holders drawn =
      let at = moved_in m.contexts v stand tied.size client client_is new change is in
      stands m.contexts v stand tied.size client client_is new (change (place_at m client)) table m.contexts.locks tickets at drawn
      (beside table (change (place_at m client)) at holders)

-- before the first step
pub stands_first : (t : Topology) → AreClientsOf (first_machine t).contexts no_clients
unfolding read
stands_first t = record {
  places = λ client is. places_first client is;
  tickets = refl;
  holders = λ id lockable. subst (λ o. IsHeldAs (replicate 16 first_place) o None) (sym (free_at 28 (lock_place id))) tt;
} where
  free_at : (n i : ℕ) → get_or {A = Option Ticket} (replicate n None) i None ≡ None
  free_at zero i = refl
  free_at (suc n) zero = refl
  free_at (suc n) (suc i) = free_at n i

  places_first : (client : ℕ) → IsClient client → get_or (replicate 16 first_place) (client - 1) no_place ≡ first_place
  places_first client is = get_or-replicate 16 (client - 1) first_place no_place (omega arith)

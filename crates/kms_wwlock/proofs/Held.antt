-- Who holds an object, by tickets in the table and by clients in the machine.
use Rattle.std.proofs.Common.{◌≡◌, ◌≢◌, ℕ, ◌==◌, Bool, true, false, List, [], ◌∷◌, Some, None, Option, refl, sym, ap, ◌∙◌}
use Rattle.std.proofs.lemmas.Bool.{eq-eqb, eqb-true}
use Rattle.std.proofs.lemmas.Bool.{false≢true}
use Rattle.std.specs.Prelude.{nat_lt, if◌then◌else◌}
use Rattle.kms_model.specs.declared.objects.Ticket.{Ticket}
use Rattle.kms_model.specs.declared.runs.Doing.{Doing}
use Rattle.kms_model.specs.declared.runs.Doing.TheVariants as doing
use Rattle.kms_model.specs.declared.runs.Place.{Place}
use Rattle.kms_model.specs.Machine.Effects.{dropped}
use Rattle.kms_model.specs.Machine.Registers.{read}
use Rattle.kms_model.specs.Machine.State.{Machine, has_value, doing_at}
use Rattle.kms_model.specs.Machine.Steps.{ticket_of}
use Rattle.kms_wwlock.specs.declared.contexts.Context.{Context}
use Rattle.kms_wwlock.specs.declared.table.Lock.TheVariants as lock
use Rattle.kms_wwlock.specs.declared.table.Relock.TheVariants as relock
use Rattle.kms_wwlock.specs.Calls.{holder_without, lock_answer as table_answer, relock_from}
use Rattle.kms_wwlock.specs.Standing.{IsClient, doing_in, ticket_in, AreTied}
use Rattle.kms_wwlock.specs.InStep.{IsHeldAs, ticket_at, lock_answer, relock_answer}
use Rattle.kms_wwlock.proofs.Places.{SameTickets}

-- the ticket of a client with a context is the machine's number of it
pub ticket_is : (d : Doing) (t : Ticket) → ticket_in d ≡ Some t → ticket_of d ≡ t.0
ticket_is doing.Idle t e = absurd cc
ticket_is (doing.Taking u) t e = let same : u ≡ t = cc in ap (λ (x : Ticket). x.0) same
ticket_is (doing.MustBackOff u object) t e = let same : u ≡ t = cc in ap (λ (x : Ticket). x.0) same
ticket_is (doing.BackedOff u object) t e = let same : u ≡ t = cc in ap (λ (x : Ticket). x.0) same
ticket_is (doing.Returning k) t e = absurd cc

-- where clients keep their tickets, objects are held as they were
pub held_still : (old new : List Place) (o : Option Ticket) (h : Option ℕ) → SameTickets old new → IsHeldAs old o h → IsHeldAs new o h
held_still old new None None same held = held
held_still old new (Some t) (Some client) same held = (held.0, same client held.0 ∙ held.1)
held_still old new None (Some client) same held = absurd held
held_still old new (Some t) None same held = absurd held

-- the holder of an object once a client's locks are dropped
abbrev pub free_of : ℕ → Option ℕ → Option ℕ
free_of client h = if has_value client h then None else h

pub read_dropped : (client : ℕ) (locks : List (ℕ × Option ℕ)) (object : ℕ) → read None (dropped client locks) object
    ≡ free_of client (read None locks object)
unfolding read dropped
read_dropped client [] object = refl
read_dropped client (row ∷ rows) object = by_row (read_dropped client rows object) (has_value client row.1) refl where
  at_row : read None (dropped client rows) object ≡ free_of client (read None rows object) → (o : Option ℕ) → o ≡ free_of client row.1
      → (at : Bool)
      → (if at then o else read None (dropped client rows) object) ≡ free_of client (if at then row.1 else read None rows object)
  at_row rest o is true = is
  at_row rest o is false = rest

  by_row : read None (dropped client rows) object ≡ free_of client (read None rows object) → (b : Bool) → has_value client row.1 ≡ b
      → (if (if b then (row.0, None) else row).0 == object then (if b then (row.0, None) else row).1
      else read None (dropped client rows) object) ≡ free_of client (if row.0 == object then row.1 else read None rows object)
  by_row rest true is = at_row rest None (rw is refl) (row.0 == object)
  by_row rest false is = at_row rest row.1 (rw is refl) (row.0 == object)

-- what a client with a ticket held is free, and the rest is held as it was
pub held_freed : (old : List Place) (contexts : List Context) (client : ℕ) (t : Ticket) (o : Option Ticket) (h : Option ℕ)
    → AreTied old contexts → IsClient client → ticket_in (doing_in old client) ≡ Some t
    → IsHeldAs old o h → IsHeldAs old (holder_without t o) (free_of client h)
held_freed old contexts client t None None tied is own held = held
held_freed old contexts client t None (Some other) tied is own held = absurd held
held_freed old contexts client t (Some u) None tied is own held = absurd held
held_freed old contexts client t (Some u) (Some other) tied is own held = at (u.0 == t.0) (other == client) refl refl where
  tickets : other ≡ client → u.0 ≡ t.0
  tickets same = let e : Some u ≡ Some t = sym held.1 ∙ ap (λ a. ticket_in (doing_in old a)) same ∙ own in let w : u ≡ t = cc
      in ap (λ (x : Ticket). x.0) w

  clients : u.0 ≡ t.0 → other ≡ client
  clients same = tied.apart other client t held.0 is (held.1 ∙ ap (λ (n : ℕ). let w : Ticket = record { 0 = n } in Some w) same) own

  at : (b c : Bool) → (u.0 == t.0) ≡ b → (other == client) ≡ c → IsHeldAs old (if b then None else Some u) (if c then None else Some other)
  at true true eb ec = cc
  at false false eb ec = held
  at true false eb ec = let yes = eq-eqb other client (clients (eqb-true u.0 t.0 eb)) in cc
  at false true eb ec = let yes = eq-eqb u.0 t.0 (tickets (eqb-true other client ec)) in cc

-- what a change of a client's place without locks leaves held
pub held_beside : (old new : List Place) (client : ℕ) (o : Option Ticket) (h : Option ℕ)
    → ((a : ℕ) → IsClient a → a ≢ client → ticket_in (doing_in new a) ≡ ticket_in (doing_in old a))
    → (h ≡ Some client → ⊥) → IsHeldAs old o h → IsHeldAs new o h
held_beside old new client None None there none held = held
held_beside old new client None (Some other) there none held = absurd held
held_beside old new client (Some t) None there none held = absurd held
held_beside old new client (Some t) (Some other) there none held =
    (held.0, there other held.0 (λ same. none (ap (λ (n : ℕ). Some n) same)) ∙ held.1)

-- Answers

module _ (m : Machine) (places : List Place) (contexts : List Context) (tied : AreTied places contexts)
    (at_places : (a : ℕ) → IsClient a → doing_in places a ≡ doing_at m a) where
  -- the number of a client's ticket is the machine's
  pub number : (a : ℕ) (t : Ticket) → IsClient a → ticket_in (doing_in places a) ≡ Some t → ticket_at m a ≡ t
  number a t is e = ap (λ (n : ℕ). let w : Ticket = record { 0 = n } in w)
      (ap ticket_of (sym (at_places a is)) ∙ ticket_is (doing_in places a) t e)

  pub answered : (client : ℕ) (t : Ticket) (o : Option Ticket) (h : Option ℕ) → IsClient client → ticket_in (doing_in places client)
      ≡ Some t → IsHeldAs places o h → table_answer t o ≡ lock_answer m client h
  answered client t None None is own held = refl
  answered client t None (Some holder) is own held = absurd held
  answered client t (Some u) None is own held = absurd held
  answered client t (Some u) (Some holder) is own held =
      at (u.0 == t.0) (holder == client) refl refl
      ∙ ap (λ (w : Ticket). if holder == client then lock.Own else if nat_lt w.0 t.0 then lock.Older w else lock.Younger w)
      (sym (number holder u held.0 held.1))
      ∙ ap (λ (w : Ticket). if holder == client then lock.Own else if nat_lt (ticket_at m holder).0 w.0 then lock.Older (ticket_at m holder)
      else lock.Younger (ticket_at m holder)) (sym (number client t is own)) where
        at : (b c : Bool) → (u.0 == t.0) ≡ b → (holder == client) ≡ c
            → (if b then lock.Own else if nat_lt u.0 t.0 then lock.Older u else lock.Younger u)
            ≡ (if c then lock.Own else if nat_lt u.0 t.0 then lock.Older u else lock.Younger u)
        at true true eb ec = refl
        at false false eb ec = refl
        at true false eb ec = let yes = eq-eqb holder client
            (tied.apart holder client t held.0 is (held.1 ∙ ap (λ (n : ℕ). let w : Ticket = record { 0 = n } in Some w)
            (eqb-true u.0 t.0 eb)) own) in absurd cc
        at false true eb ec = absurd (false≢true (sym eb ∙ yes)) where
          yes : (u.0 == t.0) ≡ true
          yes = let e : Some u ≡ Some t = sym held.1 ∙ ap (λ a. ticket_in (doing_in places a)) (eqb-true holder client ec) ∙ own
              in let w : u ≡ t = cc in eq-eqb u.0 t.0 (ap (λ (x : Ticket). x.0) w)

  pub answered_again : (o : Option Ticket) (h : Option ℕ) → IsHeldAs places o h → relock_from o ≡ relock_answer m h
  answered_again None None held = refl
  answered_again None (Some holder) held = absurd held
  answered_again (Some u) None held = absurd held
  answered_again (Some u) (Some holder) held = ap (λ (t : Ticket). relock.Held t) (sym (number holder u held.0 held.1))

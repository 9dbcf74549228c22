-- Contexts: who holds a lock takes locks or must back off, tickets are unique, and what is held or asked for has a lock.
use Rattle.std.proofs.Common.{◌≡◌, ℕ, ◌<◌, ◌≤◌, List, [], ◌∷◌, Bool, true, false, ◌==◌, Option, Some, None, refl, sym, ap, ◌∙◌, subst}
use Rattle.std.proofs.Common.{arith, ⊎_elim}
use Rattle.std.specs.Prelude.{if◌then◌else◌}
use Rattle.std.proofs.lemmas.Bool.{cases_eq, eq-eqb, eqb-true, false≢true}
use Rattle.kms_model.specs.declared.runs.Doing.{Doing}
use Rattle.kms_model.specs.declared.runs.Doing.TheVariants as doing
use Rattle.kms_model.specs.declared.runs.Place.{Place}
use Rattle.kms_model.specs.declared.scripts.Request.{Request}
use Rattle.kms_model.specs.declared.scripts.Script.{Script}
use Rattle.kms_model.specs.Device.Serial.{command_of}
use Rattle.kms_model.specs.Machine.Commits.{lockable}
use Rattle.kms_model.specs.Machine.Effects.{dropped}
use Rattle.kms_model.specs.Machine.Registers.{read}
use Rattle.kms_model.specs.Machine.State.{Contexts, has_value, request_in}
use Rattle.kms_model.specs.Machine.Steps.{ticket_of}
use Rattle.kms_model.proofs.Items.{IsIn}
use Rattle.kms_laws.specs.Laws.{has_context}
use Rattle.kms_laws.proofs.Basics.{both_bools, read_other, read_same}

abbrev pub may_hold : Doing → Bool
may_hold (doing.Taking ticket) = true
may_hold (doing.MustBackOff ticket object) = true
may_hold (doing.BackedOff ticket object) = false
may_hold doing.Idle = false
may_hold (doing.Returning k) = false

-- who may hold locks has a ticket
pub held-ticket : (d : Doing) → may_hold d ≡ true → has_context d ≡ true
held-ticket (doing.Taking ticket) h = refl
held-ticket (doing.MustBackOff ticket object) h = refl
held-ticket doing.Idle h = absurd (false≢true h)
held-ticket (doing.BackedOff ticket object) h = absurd (false≢true h)
held-ticket (doing.Returning k) h = absurd (false≢true h)

abbrev pub place_in : Contexts → ℕ → Place
place_in x client = read (record { command = 1; doing = doing.Idle }) x.places client

abbrev pub doing_in : Contexts → ℕ → Doing
doing_in x client = (place_in x client).doing

abbrev pub holder_in : Contexts → ℕ → Option ℕ
holder_in x object = read None x.locks object

-- the request at a client's place
abbrev pub request_of : Script → ℕ → Place → Option Request
request_of s client place = request_in (command_of s (record { client = client; command = place.command }))

pub record HasRequest (s : Script) (client : ℕ) (place : Place) : Type 0 where
  pub request : Request
  pub at : request_of s client place ≡ Some request

-- the object that an older context was found to hold
abbrev pub asked_of : Doing → Option ℕ
asked_of (doing.MustBackOff ticket object) = Some object.0
asked_of (doing.BackedOff ticket object) = Some object.0
asked_of (doing.Taking ticket) = None
asked_of doing.Idle = None
asked_of (doing.Returning k) = None

pub record LocksStand (s : Script) (x : Contexts) (n : ℕ) : Type 0 where
  pub holders : (object client : ℕ) → holder_in x object ≡ Some client → may_hold (doing_in x client) ≡ true
  pub unique : (a b : ℕ) → has_context (doing_in x a) ≡ true → has_context (doing_in x b) ≡ true → ticket_of (doing_in x a)
      ≡ ticket_of (doing_in x b) → a ≡ b
  pub below : (a : ℕ) → has_context (doing_in x a) ≡ true → ticket_of (doing_in x a) < x.tickets
  pub atomic : (a : ℕ) → has_context (doing_in x a) ≡ true → HasRequest s a (place_in x a)
  pub returning : (a k : ℕ) → doing_in x a ≡ doing.Returning k → k < n
  pub held_there : (object client : ℕ) → holder_in x object ≡ Some client → IsIn object (lockable s.topology)
  pub asked_there : (a object : ℕ) → asked_of (doing_in x a) ≡ Some object → IsIn object (lockable s.topology)

-- what a new place of a client owes
pub record MayGo (s : Script) (x : Contexts) (client : ℕ) (place : Place) (tickets : ℕ) : Type 0 where
  pub low : ticket_of place.doing < tickets
  pub own : (a : ℕ) → (client ≡ a → ⊥) → has_context (doing_in x a) ≡ true → ticket_of (doing_in x a) ≡ ticket_of place.doing → ⊥
  pub request : HasRequest s client place

module _ (s : Script) (x : Contexts) (n : ℕ) (L : LocksStand s x n) (client : ℕ) (place : Place) (locks : List (ℕ × Option ℕ))
    (tickets m : ℕ) (le_tickets : x.tickets ≤ tickets) (le_n : n ≤ m)
    (here : (object : ℕ) → read None locks object ≡ Some client → may_hold place.doing ≡ true)
    (there : (object a : ℕ) → (client ≡ a → ⊥) → read None locks object ≡ Some a → holder_in x object ≡ Some a)
    (go : has_context place.doing ≡ true → MayGo s x client place tickets)
    (back : (k : ℕ) → place.doing ≡ doing.Returning k → k < m)
    (held_own : (object : ℕ) → read None locks object ≡ Some client → IsIn object (lockable s.topology))
    (asked_own : (object : ℕ) → asked_of place.doing ≡ Some object → IsIn object (lockable s.topology)) where
  idle : Place
  idle = record { command = 1; doing = doing.Idle }

  now : Contexts
  now = record { places = (client, place) ∷ x.places; locks = locks; tickets = tickets }

  at_own : place_in (record { places = (client, place) ∷ x.places; locks = locks; tickets = tickets }) client ≡ place
  at_own = read_same (record { command = 1; doing = doing.Idle }) x.places client place

  at_other : (a : ℕ) → (client ≡ a → ⊥) → place_in (record { places = (client, place) ∷ x.places; locks = locks; tickets = tickets }) a
      ≡ place_in x a
  at_other a ne = read_other (record { command = 1; doing = doing.Idle }) x.places client a place ne

  abbrev P : ℕ → Place
  P a = place_in (record { places = (client, place) ∷ x.places; locks = locks; tickets = tickets }) a

  -- a client's place is the new one, or what it was
  by_client : (Q : ℕ → Place → Type 0) → Q client place → ((a : ℕ) → (client ≡ a → ⊥) → Q a (place_in x a)) → (a : ℕ) → Q a (P a)
  by_client Q own other a =
      ⊎_elim
      (λ (same : client ≡ a). subst (λ b. Q b (P b)) same (subst (Q client) (sym at_own) own))
      (λ ne. subst (Q a) (sym (at_other a ne)) (other a ne))
      (cases_eq client a)

  pub moved : LocksStand s (record { places = (client, place) ∷ x.places; locks = locks; tickets = tickets }) m
  moved = record {
    holders = λ object a h. by_client (λ b p. read None locks object ≡ Some b → may_hold p.doing ≡ true) (λ e. here object e)
        (λ b ne e. L.holders object b (there object b ne e)) a h;
    unique = λ a b ta tb e.
        ⊎_elim
        (λ (sa : client ≡ a). ⊎_elim (λ (sb : client ≡ b). sym sa ∙ sb)
        (λ nb. absurd (apart b nb tb (sym (ap (λ z. ticket_of (P z).doing) sa ∙ e)) (ap (λ z. has_context (P z).doing) sa ∙ ta)))
        (cases_eq client b))
        (λ na.
        ⊎_elim
        (λ (sb : client ≡ b). absurd (apart a na ta (e ∙ ap (λ z. ticket_of (P z).doing) (sym sb))
        (ap (λ z. has_context (P z).doing) sb ∙ tb)))
        (λ nb.
        L.unique a b (ap (λ (z : Place). has_context z.doing) (sym (at_other a na)) ∙ ta)
        (ap (λ (z : Place). has_context z.doing) (sym (at_other b nb)) ∙ tb)
        (ap (λ (z : Place). ticket_of z.doing) (sym (at_other a na)) ∙ e ∙ ap (λ (z : Place). ticket_of z.doing) (at_other b nb)))
        (cases_eq client b))
        (cases_eq client a);
    below = λ a. by_client (λ b p. has_context p.doing ≡ true → ticket_of p.doing < tickets) (λ t. (go t).low)
        (λ b ne t. let l = L.below b t in omega arith) a;
    atomic = λ a. by_client (λ b p. has_context p.doing ≡ true → HasRequest s b p) (λ t. (go t).request) (λ b ne t. L.atomic b t) a;
    returning = λ a k. by_client (λ b p. p.doing ≡ doing.Returning k → k < m) (λ e. back k e)
        (λ b ne e. let l = L.returning b k e in omega arith) a;
    held_there = λ object a h. by_client (λ b p. read None locks object ≡ Some b → IsIn object (lockable s.topology))
        (λ e. held_own object e) (λ b ne e. L.held_there object b (there object b ne e)) a h;
    asked_there = λ a object. by_client (λ b p. asked_of p.doing ≡ Some object → IsIn object (lockable s.topology))
        (λ e. asked_own object e) (λ b ne e. L.asked_there b object e) a;
  }
    where
      apart : (b : ℕ) → (client ≡ b → ⊥) → has_context (P b).doing ≡ true → ticket_of (P b).doing ≡ ticket_of (P client).doing
          → has_context (P client).doing ≡ true → ⊥
      apart b ne t e own =
          (go (ap (λ (z : Place). has_context z.doing) (sym at_own) ∙ own)).own b ne
          (ap (λ (z : Place). has_context z.doing) (sym (at_other b ne)) ∙ t)
          (ap (λ (z : Place). ticket_of z.doing) (sym (at_other b ne)) ∙ e ∙ ap (λ (z : Place). ticket_of z.doing) at_own)

-- Locks that are dropped

pub dropped-own : (client : ℕ) (locks : List (ℕ × Option ℕ)) (object : ℕ) → read None (dropped client locks) object ≡ Some client → ⊥
unfolding dropped read
dropped-own client [] object e = absurd cc
dropped-own client (row ∷ rows) object e = by_row (λ f. dropped-own client rows object f) (has_value client row.1) refl e
  where
    at_row : (read None (dropped client rows) object ≡ Some client → ⊥) → (o : Option ℕ) → has_value client o ≡ false → (b : Bool)
        → (if b then o else read None (dropped client rows) object) ≡ Some client → ⊥
    at_row ih o not_own true e = both_bools _ (ap (has_value client) e ∙ eq-eqb client client refl) not_own
    at_row ih o not_own false e = ih e

    by_row : (read None (dropped client rows) object ≡ Some client → ⊥) → (b : Bool) → has_value client row.1 ≡ b
        → (if (if b then (row.0, None) else row).0 == object then (if b then (row.0, None) else row).1
        else read None (dropped client rows) object) ≡ Some client → ⊥
    by_row ih true h e = at_row ih None refl (row.0 == object) e
    by_row ih false h e = at_row ih row.1 h (row.0 == object) e

pub dropped-other : (client : ℕ) (locks : List (ℕ × Option ℕ)) (object a : ℕ) → read None (dropped client locks) object ≡ Some a
    → read None locks object ≡ Some a
unfolding dropped read
dropped-other client [] object a e = e
dropped-other client (row ∷ rows) object a e = by_row (λ f. dropped-other client rows object a f) (has_value client row.1) e
  where
    at_row : (read None (dropped client rows) object ≡ Some a → read None rows object ≡ Some a) → (b : Bool)
        → (if b then None else read None (dropped client rows) object) ≡ Some a → (if b then row.1 else read None rows object) ≡ Some a
    at_row ih true e = absurd cc
    at_row ih false e = ih e

    same_row : (read None (dropped client rows) object ≡ Some a → read None rows object ≡ Some a) → (b : Bool)
        → (if b then row.1 else read None (dropped client rows) object) ≡ Some a → (if b then row.1 else read None rows object) ≡ Some a
    same_row ih true e = e
    same_row ih false e = ih e

    by_row : (read None (dropped client rows) object ≡ Some a → read None rows object ≡ Some a) → (b : Bool)
        → (if (if b then (row.0, None) else row).0 == object then (if b then (row.0, None) else row).1
        else read None (dropped client rows) object) ≡ Some a → (if row.0 == object then row.1 else read None rows object) ≡ Some a
    by_row ih true e = at_row ih (row.0 == object) e
    by_row ih false e = same_row ih (row.0 == object) e

pub dropped-keeps : (client : ℕ) (locks : List (ℕ × Option ℕ)) (object a : ℕ) → (client ≡ a → ⊥) → read None locks object ≡ Some a
    → read None (dropped client locks) object ≡ Some a
unfolding dropped read
dropped-keeps client [] object a ne e = e
dropped-keeps client (row ∷ rows) object a ne e = by_row (has_value client row.1) refl e (λ f. dropped-keeps client rows object a ne f)
  where
    same_row : (here : Bool) → (if here then row.1 else read None rows object) ≡ Some a
        → (read None rows object ≡ Some a → read None (dropped client rows) object ≡ Some a)
        → (if here then row.1 else read None (dropped client rows) object) ≡ Some a
    same_row true e ih = e
    same_row false e ih = ih e

    own_row : (here : Bool) → has_value client row.1 ≡ true → (if here then row.1 else read None rows object) ≡ Some a
        → (read None rows object ≡ Some a → read None (dropped client rows) object ≡ Some a)
        → (if here then None else read None (dropped client rows) object) ≡ Some a
    own_row false h e ih = ih e
    own_row true h e ih = absurd (ne (sym (eqb-true a client (sym (ap (has_value client) e) ∙ h))))

    by_row : (own : Bool) → has_value client row.1 ≡ own → (if row.0 == object then row.1 else read None rows object) ≡ Some a
        → (read None rows object ≡ Some a → read None (dropped client rows) object ≡ Some a)
        → (if (if own then (row.0, None) else row).0 == object then (if own then (row.0, None) else row).1
        else read None (dropped client rows) object) ≡ Some a
    by_row true h e ih = own_row (row.0 == object) h e ih
    by_row false h e ih = same_row (row.0 == object) e ih

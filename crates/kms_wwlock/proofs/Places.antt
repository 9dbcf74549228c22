-- What a change of one client's place does to the places of all.
use Rattle.std.proofs.Common.{◌≡◌, ◌≢◌, ℕ, ◌-◌, List, length, set, Some, refl, sym, ap, ◌∙◌, inl, inr, arith}
use Rattle.std.proofs.lemmas.Bool.{cases_eq}
use Rattle.std.proofs.lemmas.List.{get_or-set_same, get_or-set_other, length-set}
use Rattle.kms_model.specs.declared.objects.Ticket.{Ticket}
use Rattle.kms_model.specs.declared.runs.Doing.{Doing}
use Rattle.kms_model.specs.declared.runs.Place.{Place}
use Rattle.kms_wwlock.specs.Standing.{Standing, AreTied, place_of, IsClient, no_place, place_in, doing_in, ticket_in}

-- one client's place is new, and the others' are as they were
pub record Moves (old new : List Place) (client : ℕ) (place : Place) : Type 0 where
  pub size : length new ≡ 16
  pub here : place_in new client ≡ place
  pub there : (a : ℕ) → IsClient a → a ≢ client → place_in new a ≡ place_in old a

pub moves : (old new : List Place) (client : ℕ) (place : Place) → length old ≡ 16 → IsClient client → new ≡ set old (client - 1) place
    → Moves old new client place
moves old new client place size is e = rw e (record {
  size = length-set old (client - 1) place ∙ size;
  here = get_or-set_same old (client - 1) place no_place (omega arith);
  there = λ a (a_is : IsClient a) ne. get_or-set_other old (client - 1) (a - 1) place no_place (omega arith);
})

-- a fact of all clients' places is one of the new place and of the others'
pub each : (old new : List Place) (client : ℕ) (place : Place) (P : ℕ → Place → Type 0) → Moves old new client place
    → P client place → ((a : ℕ) → IsClient a → a ≢ client → P a (place_in old a)) → (a : ℕ) → IsClient a → P a (place_in new a)
each old new client place P m own others a is =
    elim (cases_eq a client) [
      | inl same ↦ rw same (rw m.here own)
      | inr ne ↦ rw (m.there a is ne) (others a is ne)
    ]

-- clients have the tickets that they had
abbrev pub SameTickets : List Place → List Place → Type 0
SameTickets old new = (a : ℕ) → IsClient a → ticket_in (doing_in new a) ≡ ticket_in (doing_in old a)

pub same_tickets : (old new : List Place) (client : ℕ) (place : Place) → Moves old new client place → ticket_in place.doing
    ≡ ticket_in (doing_in old client) → SameTickets old new
same_tickets old new client place m e = each old new client place (λ a p. ticket_in p.doing ≡ ticket_in (doing_in old a)) m e
    (λ a is ne. refl)

-- what a call finds of a client: it does this, with the ticket of its context
pub record HasContext (v : Standing) (client : ℕ) (t : Ticket) (d : Doing) : Type 0 where
  pub tied : AreTied v.places v.table.contexts
  pub client_is : IsClient client
  pub does : doing_in v.places client ≡ d
  pub own : ticket_in (doing_in v.places client) ≡ Some t

-- by what its place was found to be
pub has_context : (v w : Standing) (client : ℕ) (found : Place) (t : Ticket) (d : Doing) → AreTied v.places v.table.contexts
    → IsClient client → v ≡ w → found ≡ place_of w client → found.doing ≡ d → ticket_in d ≡ Some t
    → HasContext v client t d
has_context v w client found t d tied client_is same is does ticket =
    let doing_is : doing_in v.places client ≡ d = ap (λ (u : Standing). (place_of u client).doing) same ∙ ap (λ (p : Place). p.doing)
    (sym is) ∙ does in
    record { tied = tied; client_is = client_is; does = doing_is; own = ap ticket_in doing_is ∙ ticket }

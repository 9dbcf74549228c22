-- The client whose context has a ticket.
use Rattle.std.proofs.Common.{◌≡◌, ℕ, zero, suc, ◌+◌, ◌-◌, ◌<◌, ◌≤◌, Bool, true, false, Option, Some, None, refl, sym, ap, ◌∙◌, arith}
use Rattle.std.proofs.Common.{subst, inl, inr}
use Rattle.std.specs.Prelude.{if◌then◌else◌}
use Rattle.std.proofs.lemmas.Bool.{cases_lt, eq-eqb, eqb-true, false≢true}
use Rattle.kms_model.specs.declared.objects.Ticket.{Ticket}
use Rattle.kms_model.specs.declared.runs.Doing.{Doing}
use Rattle.kms_model.specs.declared.runs.Doing.TheVariants as doing
use Rattle.kms_model.specs.Firsts.{or_else}
use Rattle.kms_model.specs.Machine.State.{Machine, doing_at, has_value}
use Rattle.kms_model.specs.Machine.Steps.{ticket_of, ticket_taking}
use Rattle.kms_laws.specs.Laws.{has_context}
use Rattle.kms_track.specs.Places.{first_below}
use Rattle.kms_core.specs.Decisions.{number_or_0, taker, taker_at}

none-below : (f : ℕ → Option ℕ) (n : ℕ) → ((j : ℕ) → j < n → f j ≡ None) → first_below f n ≡ None
unfolding first_below
none-below f zero none = refl
none-below f (suc n) none =
    ap (λ o. or_else o (f n)) (none-below f n (λ j l. none j (omega (arith, l)))) ∙ none n (omega arith)

-- the first that is found, where none before it is
first-found : (f : ℕ → Option ℕ) (n i x : ℕ) → i < n → f i ≡ Some x → ((j : ℕ) → j < i → f j ≡ None) → first_below f n ≡ Some x
unfolding first_below
first-found f zero i x l is none = absurd (omega (arith, l))
first-found f (suc n) i x l is none =
    elim (cases_lt i n) [
      | inl before ↦ ap (λ o. or_else o (f n)) (first-found f n i x before is none)
      | inr last ↦ (let same : n ≡ i = omega (arith, l, last) in
          ap (λ o. or_else o (f n)) (none-below f n (λ j k. none j (subst (λ z. j < z) same k))) ∙ (ap f same ∙ is))
    ]

-- who takes locks with a ticket has a context with it
taking-context : (d : Doing) (t : ℕ) → has_value t (ticket_taking d) ≡ true → (has_context d ≡ true) × (ticket_of d ≡ t)
taking-context (doing.Taking ticket) t h = (refl, eqb-true ticket.0 t h)
taking-context (doing.MustBackOff ticket object) t h = absurd (false≢true h)
taking-context (doing.BackedOff ticket object) t h = absurd (false≢true h)
taking-context doing.Idle t h = absurd (false≢true h)
taking-context (doing.Returning k) t h = absurd (false≢true h)

-- where tickets are unique, the client that takes locks with a ticket is the one that is found
pub taker-is : (m : Machine) (client : ℕ) (t : Ticket) → 1 ≤ client → client ≤ 16 → doing_at m client ≡ doing.Taking t
    → ((a b : ℕ) → has_context (doing_at m a) ≡ true → has_context (doing_at m b) ≡ true → ticket_of (doing_at m a)
    ≡ ticket_of (doing_at m b) → a ≡ b) → taker m t.0 ≡ client
taker-is m client t low high taking unique = ap number_or_0
    (first-found (taker_at (doing_at m) t.0) 16 (client - 1) client (omega (arith, low, high)) here before)
  where
    number : client - 1 + 1 ≡ client
    number = omega (arith, low)

    test : has_value t.0 (ticket_taking (doing_at m (client - 1 + 1))) ≡ true
    test = ap (λ n. has_value t.0 (ticket_taking (doing_at m n))) number ∙
        (ap (λ d. has_value t.0 (ticket_taking d)) taking ∙ eq-eqb t.0 t.0 refl)

    here : taker_at (doing_at m) t.0 (client - 1) ≡ Some client
    here = ap (λ b. if b then Some (client - 1 + 1) else None) test ∙ ap Some number

    other : (j : ℕ) → j < client - 1 → (b : Bool) → has_value t.0 (ticket_taking (doing_at m (j + 1))) ≡ b
        → (if b then Some (j + 1) else None) ≡ None
    other j l false is = refl
    other j l true is =
        let there = taking-context (doing_at m (j + 1)) t.0 is in
        let same = unique (j + 1) client there.0 (ap has_context taking) (there.1 ∙ sym (ap ticket_of taking)) in
        absurd (omega (arith, l, same))

    before : (j : ℕ) → j < client - 1 → taker_at (doing_at m) t.0 j ≡ None
    before j l = other j l (has_value t.0 (ticket_taking (doing_at m (j + 1)))) refl

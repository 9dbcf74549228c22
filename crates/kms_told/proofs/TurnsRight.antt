-- The R lines of a report whose replies stand by client: each is in turn.
use Rattle.std.proofs.Common.{◌≡◌, ℕ, zero, suc, ◌+◌, ◌<◌, true, List, [], ◌∷◌, ◌++◌, Option, Some, None, refl, sym, ap, ◌∙◌, subst, arith}
use Rattle.std.proofs.Common.{inl, inr, ◌⊎◌, ⊎_elim}
use Rattle.std.specs.Prelude.{◌&&◌, ◌==◌, nat_le, nat_lt, if◌then◌else◌, ⊤}
use Rattle.std.specs.List.{flat_map, last_or, range_with_len}
use Rattle.std.proofs.lemmas.Bool.{and_from, cond-false, cond-true, eq-eqb, lt-ltb, ne_eqb, or_right}
use Rattle.kms_model.specs.declared.replies.Answered.{Answered}
use Rattle.kms_model.specs.declared.reports.Report.{Report}
use Rattle.kms_model.specs.declared.scripts.Script.{Script}
use Rattle.kms_model.specs.Report.RightAnswers.{answer_is_right, client_is_whole, entries_in, has_place, is_in_turn, is_to_entry}
use Rattle.kms_model.specs.Report.RightAnswers.{may_come_behind, no_client_is_silent, reply_is_right}
use Rattle.kms_model.proofs.Items.{IsIn}
use Rattle.kms_laws.specs.Told.{AreInOrder}
use Rattle.kms_told.proofs.AnswersRight.{Rises, StandsRight}
use Rattle.kms_told.proofs.Items.{AllPass, Forward, last-append, last-push, pass-append}
use Rattle.kms_told.proofs.RepliesRight.{right-place, right-reply, right-rise}

-- what is known of the replies to a client that are left
pub record AreOf (s : Script) (r : Report) (client : ℕ) (answers : List Answered) : Type 0 where
  pub own : (a : Answered) → IsIn a answers → a.client ≡ client
  pub right : (a : Answered) → IsIn a answers → StandsRight s (entries_in r) a
  pub rise : Forward (Rises (entries_in r)) answers

-- the line before is of an earlier client, or of this one
pub record IsBehind (r : Report) (client next : ℕ) (answers : List Answered) (b : Answered) : Type 0 where
  pub own : b.client ≡ client
  pub number : b.command + 1 ≡ next
  pub rise : (a : Answered) → IsIn a answers → Rises (entries_in r) b a

abbrev pub MayFollow : Report → ℕ → ℕ → List Answered → Option Answered → Type 0
MayFollow r client next answers None = next ≡ 1
MayFollow r client next answers (Some b) = ((next ≡ 1) × (b.client < client)) ⊎ IsBehind r client next answers b

module _ (s : Script) (r : Report) (whole : (client : ℕ) → client_is_whole r client ≡ true) (speaks : no_client_is_silent r ≡ true) where
  in-turn : (client next : ℕ) (a : Answered) (later : List Answered) (o : Option Answered) → a.client ≡ client → a.command ≡ next
      → MayFollow r client next (a ∷ later) o → is_in_turn r o a ≡ true
  in-turn client next a later None own number first = eq-eqb a.command 1 (number ∙ first)
  in-turn client next a later (Some b) own number may =
      ⊎_elim
      (λ (x : (next ≡ 1) × (b.client < client)).
      cond-false (b.client == a.client)
      ((a.command == b.command + 1) && (if is_to_entry r b then nat_lt b.place a.place else nat_le b.place a.place))
      (nat_lt b.client a.client && (a.command == 1))
      (ne_eqb b.client a.client (λ e. absurd (let lt = x.1 in omega (arith, lt, e, own))))
      ∙ and_from (nat_lt b.client a.client) (a.command == 1) (lt-ltb b.client a.client (let lt = x.1 in omega (arith, lt, own)))
      (eq-eqb a.command 1 (number ∙ x.0)))
      (λ (x : IsBehind r client next (a ∷ later) b).
      cond-true (b.client == a.client)
      ((a.command == b.command + 1) && (if is_to_entry r b then nat_lt b.place a.place else nat_le b.place a.place))
      (nat_lt b.client a.client && (a.command == 1))
      (eq-eqb b.client a.client (x.own ∙ sym own))
      ∙ and_from (a.command == b.command + 1) _ (eq-eqb a.command (b.command + 1) (number ∙ sym x.number))
      (right-rise r b a (x.rise a (inl refl))))
      may

  may-come : (o : Option Answered) (a : Answered) → may_come_behind r o a ≡ true
  may-come None a = refl
  may-come (Some b) a =
      or_right (b.client == a.client) (client_is_whole r b.client && no_client_is_silent r)
      (and_from (client_is_whole r b.client) (no_client_is_silent r) (whole b.client) speaks)

  one-right : (client next : ℕ) (a : Answered) (later before : List Answered) → a.client ≡ client → a.command ≡ next
      → MayFollow r client next (a ∷ later) (last_or None before) → StandsRight s (entries_in r) a → answer_is_right s r before a ≡ true
  unfolding answer_is_right
  one-right client next a later before own number may R =
      and_from (is_in_turn r (last_or None before) a) _ (in-turn client next a later (last_or None before) own number may)
      (and_from (has_place r a) _ (right-place s r a R)
      (and_from (may_come_behind r (last_or None before) a) (reply_is_right s r a) (may-come (last_or None before) a)
      (right-reply s r a R)))

  block : (client next least : ℕ) (answers before : List Answered) → AreOf s r client answers → AreInOrder next least answers
      → MayFollow r client next answers (last_or None before) → AllPass (answer_is_right s r) before answers
  block client next least [] before of order may = tt
  block client next least (a ∷ later) before of order may =
      let own = of.own a (inl refl) in
      let number = order.0 in (
        one-right client next a later before own number may (of.right a (inl refl)),
        block client (next + 1) a.place later (before ++ a ∷ [])
            (record { own = λ b is. of.own b (inr is); right = λ b is. of.right b (inr is); rise = of.rise.1 })
            order.1.1
            (subst (MayFollow r client (next + 1) later) (sym (last-push None before a))
            (inr (record { own = own; number = ap (λ n. n + 1) number; rise = of.rise.0 }))),
      )

  -- One client after the other

  abbrev EndsBelow : ℕ → Option Answered → Type 0
  EndsBelow client None = ⊤
  EndsBelow client (Some b) = b.client < client

  may-begin : (client : ℕ) (answers : List Answered) (o : Option Answered) → EndsBelow client o → MayFollow r client 1 answers o
  may-begin client answers None below = refl
  may-begin client answers (Some b) below = inl (refl, below)

  further : (client : ℕ) (o : Option Answered) → EndsBelow client o → EndsBelow (client + 1) o
  further client None below = tt
  further client (Some b) below = omega (arith, below)

  last-below : (client : ℕ) (answers : List Answered) (o : Option Answered) → ((a : Answered) → IsIn a answers → a.client ≡ client)
      → EndsBelow (client + 1) o → EndsBelow (client + 1) (last_or o answers)
  last-below client [] o own below = below
  last-below client (a ∷ later) o own below =
      last-below client later (Some a) (λ b is. own b (inr is)) (let e = own a (inl refl) in omega (arith, e))

  pub blocks : (of_client : ℕ → List Answered) → ((client : ℕ) → AreOf s r client (of_client client))
      → ((client : ℕ) → AreInOrder 1 0 (of_client client)) → (from n : ℕ) (before : List Answered) → EndsBelow from (last_or None before)
      → AllPass (answer_is_right s r) before (flat_map of_client (range_with_len from n))
  blocks of_client of order from zero before below = tt
  blocks of_client of order from (suc n) before below =
      pass-append (answer_is_right s r) before (of_client from) (flat_map of_client (range_with_len (from + 1) n))
      (block from 1 0 (of_client from) before (of from) (order from) (may-begin from (of_client from) (last_or None before) below))
      (blocks of_client of order (from + 1) n (before ++ of_client from)
      (subst (EndsBelow (from + 1)) (sym (last-append None before (of_client from)))
      (last-below from (of_client from) (last_or None before) (of from).own (further from (last_or None before) below))))

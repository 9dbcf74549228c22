-- R lines in their order: clients rise, places do not fall within a client, and the lines of a client stand behind one another.
use Rattle.std.proofs.Common.{◌≡◌, ℕ, zero, suc, ◌+◌, ◌-◌, ◌<◌, ◌≤◌, Bool, true, false, List, [], ◌∷◌, ◌++◌, length, take, Some, None, refl}
use Rattle.std.proofs.Common.{sym, ap, ◌∙◌, subst, arith, inl, inr, length-append}
use Rattle.std.proofs.lemmas.Bool.{and_parts, cases_eq, cases_lt, cond-false, cond-true, eq-eqb, eqb-true, leb-true, ltb-true, ne_eqb}
use Rattle.std.proofs.lemmas.List.{get_or-replicate, get_or-set_other, get_or-set_same, length-replicate, length-set}
use Rattle.std.proofs.lemmas.Option.{same_Some}
use Rattle.std.specs.Prelude.{◌&&◌, ◌==◌, ◌⊎◌, nat_le, nat_lt, replicate, slice_get, if◌then◌else◌}
use Rattle.std.specs.List.{last_or}
use Rattle.kms_audit.proofs.Firsts.{off-each}
use Rattle.kms_audit.proofs.Leasts.{get-before, get-last, get-more, get-push, last-take}
use Rattle.kms_audit.specs.declared.order.Block.{Block}
use Rattle.kms_audit.specs.Ordered.{AreBlocks, AreLinesOf, IsProper, block_at, block_with, no_block, with_line}
use Rattle.kms_audit.specs.Sections.{has_command, stands_in_order}
use Rattle.kms_model.specs.declared.replies.Answered.{Answered}
use Rattle.kms_model.specs.declared.reports.Report.{Report}
use Rattle.kms_model.specs.declared.scripts.Script.{Script}
use Rattle.kms_model.specs.Report.RightAnswers.{entries_in, first_off, has_place, is_in_turn, is_to_entry}

-- Two lines behind one another

next_client : (same : Bool) (m n : ℕ) (x y : Bool) → (m == n) ≡ same → (if same then x else (nat_lt m n && y)) ≡ true → m ≤ n
next_client true m n x y e f = omega (arith, eqb-true m n e)
next_client false m n x y e f = omega (arith, ltb-true m n (and_parts (nat_lt m n) y f).0)

next_place : (same entry : Bool) (c y : Bool) (m n : ℕ) → same ≡ true
    → (if same then (c && (if entry then nat_lt m n else nat_le m n)) else y) ≡ true → m ≤ n
next_place true true c y m n e f = omega (arith, ltb-true m n (and_parts c (nat_lt m n) f).1)
next_place true false c y m n e f = leb-true m n (and_parts c (nat_le m n) f).1
next_place false entry c y m n e f = absurd cc

-- the line of each place is there
pub get-some : {A : Type 0} (xs : List A) (k : ℕ) → k < length xs → (x : A) × (slice_get xs k ≡ Some x)
get-some [] k l = absurd (omega arith)
get-some (x ∷ xs) zero l = (x, refl)
get-some (x ∷ xs) (suc k) l = get-some xs k (omega arith)

pub get-same : {A : Type 0} (xs : List A) (i j : ℕ) (a b : A) → slice_get xs i ≡ Some a → slice_get xs j ≡ Some b → i ≡ j → a ≡ b
get-same xs i j a b g h e = same_Some a b (sym g ∙ (ap (slice_get xs) e ∙ h))

-- a line that stands where it may, to a command of the script
pub record StandsInOrder (s : Script) (r : Report) (before : List Answered) (a : Answered) : Type 0 where
  pub in_turn : is_in_turn r (last_or None before) a ≡ true
  pub placed : has_place r a ≡ true
  pub named : has_command s a ≡ true

pub order_guards : (s : Script) (r : Report) (before : List Answered) (a : Answered) → stands_in_order s r before a ≡ true
    → StandsInOrder s r before a
order_guards s r before a h =
    let first = and_parts (is_in_turn r (last_or None before) a) _ h in
    let last = and_parts (has_place r a) _ first.1 in
    record { in_turn = first.0; placed = last.0; named = last.1 }

module _ (s : Script) (r : Report) (xs : List Answered) (stands : first_off (stands_in_order s r) [] xs ≡ None) where
  pub ordered-at : (k : ℕ) (a : Answered) → slice_get xs k ≡ Some a → StandsInOrder s r (take k xs) a
  ordered-at k a g = order_guards s r (take k xs) a (off-each (stands_in_order s r) [] xs k a stands g)

  pub named-at : (k : ℕ) (a : Answered) → slice_get xs k ≡ Some a → has_command s a ≡ true
  named-at k a g = (ordered-at k a g).named

  pub placed-at : (k : ℕ) (a : Answered) → slice_get xs k ≡ Some a → a.place ≤ length (entries_in r)
  placed-at k a g =
      leb-true a.place (length (entries_in r)) (and_parts (nat_le a.place (length (entries_in r))) _ (ordered-at k a g).placed).0

  turn-at : (k : ℕ) (b a : Answered) → slice_get xs k ≡ Some b → slice_get xs (suc k) ≡ Some a → is_in_turn r (Some b) a ≡ true
  turn-at k b a h g = subst (λ o. is_in_turn r o a ≡ true) (last-take xs k b h) (ordered-at (suc k) a g).in_turn

  client-next : (k : ℕ) (b a : Answered) → slice_get xs k ≡ Some b → slice_get xs (suc k) ≡ Some a → b.client ≤ a.client
  client-next k b a h g =
      next_client (b.client == a.client) b.client a.client
      ((a.command == b.command + 1) && (if is_to_entry r b then nat_lt b.place a.place else nat_le b.place a.place)) (a.command == 1)
      refl (turn-at k b a h g)

  place-next : (k : ℕ) (b a : Answered) → slice_get xs k ≡ Some b → slice_get xs (suc k) ≡ Some a → b.client ≡ a.client → b.place ≤ a.place
  place-next k b a h g same =
      next_place (b.client == a.client) (is_to_entry r b) (a.command == b.command + 1) (nat_lt b.client a.client && (a.command == 1))
      b.place a.place (eq-eqb b.client a.client same) (turn-at k b a h g)

  pub clients-rise : (i j : ℕ) (a b : Answered) → i ≤ j → slice_get xs i ≡ Some a → slice_get xs j ≡ Some b → a.client ≤ b.client
  clients-rise i zero a b l g h = let same = get-same xs i zero a b g h (omega arith) in omega (arith, ap (λ (x : Answered). x.client) same)
  clients-rise i (suc j) a b l g h =
      elim (cases_eq i (suc j)) [
        | inl here ↦ (let same = get-same xs i (suc j) a b g h here in omega (arith, ap (λ (x : Answered). x.client) same))
        | inr apart ↦ (
            let before = get-before xs j b h in
            let first = clients-rise i j a before.0 (omega arith) g before.1 in
            omega (arith, first, client-next j before.0 b before.1 h))
      ]

  pub places-rise : (i j : ℕ) (a b : Answered) → i ≤ j → slice_get xs i ≡ Some a → slice_get xs j ≡ Some b
      → a.client ≡ b.client → a.place ≤ b.place
  places-rise i zero a b l g h own = let same = get-same xs i zero a b g h (omega arith) in omega
      (arith, ap (λ (x : Answered). x.place) same)
  places-rise i (suc j) a b l g h own =
      elim (cases_eq i (suc j)) [
        | inl here ↦ (let same = get-same xs i (suc j) a b g h here in omega (arith, ap (λ (x : Answered). x.place) same))
        | inr apart ↦ (
            let before = get-before xs j b h in
            let low = clients-rise i j a before.0 (omega arith) g before.1 in
            let high = client-next j before.0 b before.1 h in
            let first = places-rise i j a before.0 (omega arith) g before.1 (omega (arith, low, high, own)) in
            omega (arith, first, place-next j before.0 b before.1 h (omega (arith, low, high, own))))
      ]

-- Blocks

-- no line has blocks without lines
pub blocks-none : AreBlocks [] (replicate 16 no_block)
blocks-none = record {
  size = length-replicate 16 no_block;
  lines = λ client some few.
      let empty : block_at (replicate 16 no_block) client ≡ no_block = get_or-replicate 16 (client - 1) no_block no_block (omega arith) in
      subst (AreLinesOf [] client) (sym empty) (record {
        proper = inr (refl, refl);
        within = omega arith;
        in_block = λ place a g own. absurd cc;
        of_client = λ place a g low high. absurd cc;
      });
}

-- a block with one more line
grown : (b : Block) (n : ℕ) → IsProper b
    → ((b.end ≡ 0) × (block_with b n ≡ record { next = n; end = n + 1 })) ⊎
    ((b.next < b.end) × (block_with b n ≡ record { next = b.next; end = n + 1 }))
grown b n proper =
    elim proper [
      | inl some ↦ inr (
        some,
        cond-false (b.end == 0) (record { next = n; end = n + 1 }) (record { next = b.next; end = n + 1 })
            (ne_eqb b.end 0 (λ e. omega arith)),
      )
      | inr none ↦ inl (
        none.1,
        cond-true (b.end == 0) (record { next = n; end = n + 1 })
            (record { next = b.next; end = n + 1 }) (eq-eqb b.end 0 none.1),
      )
    ]

module _ (s : Script) (r : Report) (front : List Answered) (a : Answered)
    (stands : first_off (stands_in_order s r) [] (front ++ a ∷ []) ≡ None) where
  longer : length (front ++ a ∷ []) ≡ length front + 1
  longer = length-append front (a ∷ [])

  last_line : slice_get (front ++ a ∷ []) (length front) ≡ Some a
  last_line = at_end front where
    at_end : (xs : List Answered) → slice_get (xs ++ a ∷ []) (length xs) ≡ Some a
    at_end [] = refl
    at_end (x ∷ xs) = at_end xs

  other_lines : (client : ℕ) (b : Block) → (client ≡ a.client → ⊥) → AreLinesOf front client b → AreLinesOf (front ++ a ∷ []) client b
  other_lines client b apart are = record {
    proper = are.proper;
    within = omega (arith, are.within, longer);
    in_block = λ place line g own.
        elim (cases_lt place (length front)) [
          | inl before ↦ are.in_block place line (get-push front a line place g before) own
          | inr behind ↦ absurd (apart (sym own ∙ ap (λ (x : Answered). x.client) (get-last front a line place g behind).1))
        ];
    of_client = λ place line g low high. are.of_client place line
        (get-push front a line place g (omega (arith, high, are.within))) low high;
  }

  first_line : (b : Block) → AreLinesOf front a.client b
      → b.end ≡ 0 → AreLinesOf (front ++ a ∷ []) a.client (record { next = length front; end = length front + 1 })
  first_line b are none = record {
    proper = inl (omega arith);
    within = omega (arith, longer);
    in_block = λ place line g own.
        elim (cases_lt place (length front)) [
          | inl before ↦ (let held = are.in_block place line (get-push front a line place g before) own in absurd
              (omega (arith, held.1, none)))
          | inr behind ↦ (let at = get-last front a line place g behind in (omega (arith, at.0), omega (arith, at.0)))
        ];
    of_client = λ place line g low high. ap (λ (x : Answered). x.client) (get-last front a line place g low).1;
  }

  further_line : (b : Block) → AreLinesOf front a.client b
      → b.next < b.end → AreLinesOf (front ++ a ∷ []) a.client (record { next = b.next; end = length front + 1 })
  further_line b are some = record {
    proper = inl (omega (arith, some, are.within));
    within = omega (arith, longer);
    in_block = λ place line g own.
        elim (cases_lt place (length front)) [
          | inl before ↦ (let held = are.in_block place line (get-push front a line place g before) own in (held.0, omega (arith, before)))
          | inr behind ↦ (let at = get-last front a line place g behind in (omega (arith, at.0, some, are.within), omega (arith, at.0)))
        ];
    of_client = λ place line g low high.
        let begun = get-some front b.next (omega (arith, some, are.within)) in
        let own = are.of_client b.next begun.0 begun.1 (omega arith) some in
        let first = clients-rise s r (front ++ a ∷ []) stands b.next place begun.0 line low
        (get-more front (a ∷ []) b.next begun.0 begun.1) g in
        let then_last = clients-rise s r (front ++ a ∷ []) stands place (length front) line a (omega arith) g last_line in
        omega (arith, own, first, then_last);
  }

  own_lines : (b : Block) → AreLinesOf front a.client b → AreLinesOf (front ++ a ∷ []) a.client (block_with b (length front))
  own_lines b are =
      elim (grown b (length front) are.proper) [
        | inl none ↦ subst (AreLinesOf (front ++ a ∷ []) a.client) (sym none.1) (first_line b are none.0)
        | inr some ↦ subst (AreLinesOf (front ++ a ∷ []) a.client) (sym some.1) (further_line b are some.0)
      ]

  pub blocks-push : (blocks : List Block) → 1 ≤ a.client → a.client ≤ 16 → AreBlocks front blocks
      → AreBlocks (front ++ a ∷ []) (with_line blocks a.client (length front))
  blocks-push blocks least most are = record {
    size = length-set blocks (a.client - 1) (block_with (block_at blocks a.client) (length front)) ∙ are.size;
    lines = λ client some few.
        let own = block_with (block_at blocks a.client) (length front) in
        elim (cases_eq client a.client) [
          | inl same ↦ (
              let here : block_at (with_line blocks a.client (length front)) client ≡ own =
              ap (block_at (with_line blocks a.client (length front))) same
              ∙ get_or-set_same blocks (a.client - 1) own no_block (omega (arith, are.size, least, most)) in
              subst (AreLinesOf (front ++ a ∷ []) client) (sym here)
              (subst (λ c. AreLinesOf (front ++ a ∷ []) c own) (sym same)
              (own_lines (block_at blocks a.client) (are.lines a.client least most))))
          | inr apart ↦ (
              let there : block_at (with_line blocks a.client (length front)) client ≡ block_at blocks client =
              get_or-set_other blocks (a.client - 1) (client - 1) own no_block (λ e. apart (omega arith)) in
              subst (AreLinesOf (front ++ a ∷ []) client) (sym there)
              (other_lines client (block_at blocks client) apart (are.lines client some few)))
        ];
  }

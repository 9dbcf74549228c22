-- R lines of a client, compared at a place.
use Rattle.std.proofs.Common.{◌≡◌, ℕ, zero, suc, ◌+◌, ◌-◌, ◌<◌, ◌≤◌, Bool, true, false, List, [], ◌∷◌, ◌++◌, length, take, drop, Option}
use Rattle.std.proofs.Common.{Some, None, refl, sym, ap, ◌∙◌, subst, arith, inl, inr}
use Rattle.std.proofs.lemmas.Bool.{cases_eq, cases_lt, cond-false, cond-true, le-leb, lt-leb}
use Rattle.std.proofs.lemmas.Bool.Decides.{nat_tests}
use Rattle.std.proofs.lemmas.List.{get_or-set_other, get_or-set_same, length-drop, length-set, length-take, length-take-le}
use Rattle.std.proofs.lemmas.Option.{same_Some}
use Rattle.std.specs.Prelude.{◌⊎◌, nat_le, option_map, slice_get, slice_index_or, slice_set, if◌then◌else◌}
use Rattle.std.specs.Option.{option_map_or}
use Rattle.kms_audit.proofs.Firsts.{earliest-assoc, earliest-none, off-each}
use Rattle.kms_audit.proofs.Leasts.{get-within, off-least, take-next}
use Rattle.kms_audit.proofs.Turns.{get-some, places-rise}
use Rattle.kms_audit.proofs.Whole.{ordered-right}
use Rattle.kms_audit.specs.declared.compared.Compared.{Compared}
use Rattle.kms_audit.specs.declared.order.Block.{Block}
use Rattle.kms_audit.specs.Compared.{AreComparedUpTo, BlockIsCompared, IsWrongAt, differing_with, wrong_between}
use Rattle.kms_audit.specs.Ordered.{AreLinesOf, block_at, no_block, ordered_lines}
use Rattle.kms_audit.specs.Sections.{earliest, is_replied}
use Rattle.kms_model.specs.declared.replies.Answered.{Answered}
use Rattle.kms_model.specs.declared.reports.Report.{Report}
use Rattle.kms_model.specs.declared.scripts.Script.{Script}
use Rattle.kms_model.specs.Report.Right.{number_at}
use Rattle.kms_model.specs.Report.RightAnswers.{answers_in, first_off, reply_is_right}

-- Lists

pub get_drop : {A : Type 0} (xs : List A) (from k : ℕ) → slice_get (drop from xs) k ≡ slice_get xs (from + k)
get_drop xs zero k = let same : k ≡ 0 + k = omega arith in ap (slice_get xs) same
get_drop [] (suc from) k = refl
get_drop (x ∷ xs) (suc from) k =
    let same : suc from + k ≡ suc (from + k) = omega arith in
    get_drop xs from k ∙ ap (slice_get (x ∷ xs)) (sym same)

pub get_take : {A : Type 0} (xs : List A) (n k : ℕ) → k < n → slice_get (take n xs) k ≡ slice_get xs k
get_take xs zero k l = absurd (omega arith)
get_take [] (suc n) k l = refl
get_take (x ∷ xs) (suc n) zero l = refl
get_take (x ∷ xs) (suc n) (suc k) l = get_take xs n k (omega arith)

get_front : {A : Type 0} (cut : Option ℕ) (xs : List A) (k : ℕ) → k < length (option_map_or (λ c. take c xs) cut xs)
    → slice_get (option_map_or (λ c. take c xs) cut xs) k ≡ slice_get xs k
get_front None xs k l = refl
get_front (Some c) xs k l = get_take xs c k (omega (arith, length-take c xs))

-- the first that fails, with one item more
abbrev or_last : Option ℕ → Bool → ℕ → Option ℕ
or_last (Some m) last n = Some m
or_last None last n = if last then None else Some n

-- What is wrong between two places

module _ (s : Script) (r : Report) (from to : ℕ) where
  abbrev part : List Answered
  part = take (to - from) (drop from (answers_in r))

  part_at : (k : ℕ) (a : Answered) → slice_get part k ≡ Some a → (k < to - from) × (slice_get (answers_in r) (from + k) ≡ Some a)
  part_at k a g =
      let within : k < to - from = omega (arith, get-within part k a g, length-take (to - from) (drop from (answers_in r))) in
      (within, sym (get_drop (answers_in r) from k) ∙ (sym (get_take (drop from (answers_in r)) (to - from) k within) ∙ g))

  at_part : (at : ℕ) (a : Answered) → from ≤ at → at < to → slice_get (answers_in r) at ≡ Some a → slice_get part (at - from) ≡ Some a
  at_part at a l h g =
      get_take (drop from (answers_in r)) (to - from) (at - from) (omega arith)
      ∙ (get_drop (answers_in r) from (at - from)
      ∙ (let same : from + (at - from) ≡ at = omega arith in ap (slice_get (answers_in r)) same ∙ g))

  -- the first that is told is one, between them
  pub between-found : (k : ℕ) → wrong_between s r from to ≡ Some k
      → (a : Answered) × (((from ≤ k) × (k < to)) × ((slice_get (answers_in r) k ≡ Some a) × (reply_is_right s r a ≡ false)))
  between-found k e = by_first (first_off (is_replied s r) [] part) refl e where
    by_first : (o : Option ℕ) → first_off (is_replied s r) [] part ≡ o → number_at from o ≡ Some k
        → (a : Answered) × (((from ≤ k) × (k < to)) × ((slice_get (answers_in r) k ≡ Some a) × (reply_is_right s r a ≡ false)))
    by_first None f e = absurd cc
    by_first (Some m) f e =
        let least = off-least (reply_is_right s r) [] part m f in
        let at = part_at m least.failing least.is_item in
        let same : from + m ≡ k = same_Some (from + m) k e in
        (least.failing, ((omega arith, omega (arith, at.0)), (ap (slice_get (answers_in r)) (sym same) ∙ at.1, least.fails)))

  -- and none that is wrong there is before it
  pub between-wrong : (at : ℕ) (a : Answered) → from ≤ at → at < to → slice_get (answers_in r) at ≡ Some a → reply_is_right s r a ≡ false
      → (k : ℕ) × ((wrong_between s r from to ≡ Some k) × (k ≤ at))
  between-wrong at a l h g wrong = by_first (first_off (is_replied s r) [] part) refl where
    by_first : (o : Option ℕ) → first_off (is_replied s r) [] part ≡ o → (k : ℕ) × ((number_at from o ≡ Some k) × (k ≤ at))
    by_first None f =
        let right = off-each (is_replied s r) [] part (at - from) a f (at_part at a l h g) in absurd cc
    by_first (Some m) f =
        elim (cases_lt (at - from) m) [
          | inl before ↦ (
              let least = off-least (reply_is_right s r) [] part m f in
              let right = least.earlier (at - from) a before (at_part at a l h g) in absurd cc)
          | inr behind ↦ (from + m, (refl, omega arith))
        ]

-- The earlier of two

earliest_is : (x y : Option ℕ) (k : ℕ) → earliest x y ≡ Some k → (x ≡ Some k) ⊎ (y ≡ Some k)
earliest_is None y k e = inr e
earliest_is (Some m) None k e = inl e
earliest_is (Some m) (Some n) k e = picked (nat_le m n) e where
  picked : (b : Bool) → (if b then Some m else Some n) ≡ Some k → (Some m ≡ Some k) ⊎ (Some n ≡ Some k)
  picked true f = inl f
  picked false f = inr f

earliest_left : (m : ℕ) (y : Option ℕ) → (k : ℕ) × ((earliest (Some m) y ≡ Some k) × (k ≤ m))
earliest_left m None = (m, (refl, omega arith))
earliest_left m (Some n) =
    elim (cases_lt n m) [
      | inl below ↦ (n, (cond-false (nat_le m n) (Some m) (Some n) (lt-leb m n below), omega arith))
      | inr above ↦ (m, (cond-true (nat_le m n) (Some m) (Some n) (le-leb m n above), omega arith))
    ]

earliest_right : (x : Option ℕ) (n : ℕ) → (k : ℕ) × ((earliest x (Some n) ≡ Some k) × (k ≤ n))
earliest_right None n = (n, (refl, omega arith))
earliest_right (Some m) n =
    elim (cases_lt n m) [
      | inl below ↦ (n, (cond-false (nat_le m n) (Some m) (Some n) (lt-leb m n below), omega arith))
      | inr above ↦ (m, (cond-true (nat_le m n) (Some m) (Some n) (le-leb m n above), omega arith))
    ]

-- One client more is compared at a place

next_least : (a k place : ℕ) → (a ≡ k + 1 → ⊥) → (if nat_le a (k + 1) then place + 1 else place) ≡ (if nat_le a k then place + 1 else place)
next_least a k place apart = ap (λ b. if b then place + 1 else place) (same a k apart) where
  same : (m n : ℕ) → (m ≡ n + 1 → ⊥) → nat_le m (n + 1) ≡ nat_le m n
  same m n e = grind (arith, nat_tests)

module _ (s : Script) (r : Report) (place k : ℕ) (c : Compared) (new : Block) (after : Option ℕ) (few : k < 16)
    (are : AreComparedUpTo s r place k c)
    (is : BlockIsCompared s r place (block_at c.blocks (k + 1)) new c.differing after) where
  abbrev old : Block
  old = block_at c.blocks (k + 1)

  abbrev lines : List Answered
  lines = ordered_lines r are.order

  abbrev blocks : List Block
  blocks = slice_set c.blocks k new

  own : (client : ℕ) → client ≡ k + 1 → block_at blocks client ≡ new
  own client e =
      let at : client - 1 ≡ k = omega arith in
      ap (λ n. slice_index_or blocks n no_block) at ∙ get_or-set_same c.blocks k new no_block (omega (arith, are.size))

  other : (client : ℕ) → 1 ≤ client → (client ≡ k + 1 → ⊥) → block_at blocks client ≡ block_at c.blocks client
  other client some apart = get_or-set_other c.blocks k (client - 1) new no_block (λ e. apart (omega arith))

  -- the lines of this client
  own_lines : AreLinesOf lines (k + 1) (block_at are.order.blocks (k + 1))
  own_lines = are.is_ordered.blocks.lines (k + 1) (omega arith) (omega arith)

  old_end : old.end ≡ (block_at are.order.blocks (k + 1)).end
  old_end = are.ends (k + 1) (omega arith) (omega arith)

  new_most : new.next ≤ new.end
  new_most = is.most (omega (arith, are.up_to (k + 1) (omega arith) (omega arith), old_end))

  line_there : (at : ℕ) (a : Answered) → slice_get (answers_in r) at ≡ Some a → at < length lines → slice_get lines at ≡ Some a
  line_there at a g within = get_front are.order.cut (answers_in r) at within ∙ g

  line_in : (at : ℕ) (a : Answered) → slice_get lines at ≡ Some a → slice_get (answers_in r) at ≡ Some a
  line_in at a g = sym (get_front are.order.cut (answers_in r) at (get-within lines at a g)) ∙ g

  later_own : (at : ℕ) (a : Answered) → slice_get lines at ≡ Some a → a.client ≡ k + 1 → new.next ≤ at → place + 1 ≤ a.place
  later_own at a g mine behind =
      let held = own_lines.in_block at a g mine in
      let opened : new.next < new.end = omega (arith, held.1, is.end, old_end) in
      let first = get-some lines new.next (omega (arith, get-within lines at a g)) in
      let there = line_in new.next first.0 first.1 in
      let low = are.from_on (k + 1) (omega arith) (omega arith) in
      let client = own_lines.of_client new.next first.0 first.1 (omega (arith, low, is.least)) (omega (arith, opened, is.end, old_end)) in
      let least = are.later new.next first.0 first.1 (subst (λ n. (block_at c.blocks n).next ≤ new.next) (sym client) is.least) in
      let place_low : place ≤ first.0.place = low_of (nat_le first.0.client k) place first.0.place least in
      let rise = places-rise s r lines (ordered-right s r are.order are.is_ordered) new.next at first.0 a behind
      first.1 g (client ∙ sym mine) in
      elim (cases_eq first.0.place place) [
        | inl here ↦ absurd (is.stops first.0 opened there here)
        | inr apart ↦ omega (arith, place_low, rise, different first.0.place place apart place_low)
      ] where
        low_of : (b : Bool) (p q : ℕ) → (if b then p + 1 else p) ≤ q → p ≤ q
        low_of true p q l = omega arith
        low_of false p q l = l

        different : (p q : ℕ) → (p ≡ q → ⊥) → q ≤ p → q + 1 ≤ p
        different p q e l = omega arith

  -- a line that is not right, before the block
  wrong_own : (at : ℕ) (a : Answered) → slice_get lines at ≡ Some a → a.client ≡ k + 1 → at < new.next → reply_is_right s r a ≡ false
      → (j : ℕ) × ((after ≡ Some j) × (j ≤ at))
  wrong_own at a g mine before wrong =
      elim (cases_lt at old.next) [
        | inl earlier ↦ from_old (are.wrong at a g (subst (λ n. at < (block_at c.blocks n).next) (sym mine) earlier) wrong)
        | inr later ↦ (
            let new_one = between-wrong s r old.next new.next at a later before (line_in at a g) wrong in
            let it = earliest_right c.differing new_one.0 in
            (it.0, (is.differing ∙ (ap (earliest c.differing) new_one.1.0 ∙ it.1.0), omega (arith, it.1.1, new_one.1.1))))
      ] where
        from_old : (j : ℕ) × ((c.differing ≡ Some j) × (j ≤ at)) → (j : ℕ) × ((after ≡ Some j) × (j ≤ at))
        from_old was =
            let it = earliest_left was.0 (wrong_between s r old.next new.next) in (
              it.0,
              (
                is.differing ∙ (ap (λ o. earliest o (wrong_between s r old.next new.next)) was.1.0 ∙ it.1.0),
                omega
                    (arith, it.1.1, was.1.1),
              ),
            )

  wrong_other : (at : ℕ) (j : ℕ) → c.differing ≡ Some j → j ≤ at → (i : ℕ) × ((after ≡ Some i) × (i ≤ at))
  wrong_other at j e l =
      let it = earliest_left j (wrong_between s r old.next new.next) in
      (it.0, (is.differing ∙ (ap (λ o. earliest o (wrong_between s r old.next new.next)) e ∙ it.1.0), omega (arith, it.1.1, l)))

  found_next : (j : ℕ) → after ≡ Some j → IsWrongAt s r are.order j
  found_next j e =
      elim (earliest_is c.differing (wrong_between s r old.next new.next) j (sym is.differing ∙ e)) [
        | inl old_one ↦ are.found j old_one
        | inr new_one ↦ (
            let it = between-found s r old.next new.next j new_one in
            record {
              line = it.0;
              is_line = line_there j it.0 it.1.1.0 (omega (arith, it.1.0.1, new_most, is.end, old_end, own_lines.within));
              wrong = it.1.1.1;
            })
      ]

  pub client-compared : AreComparedUpTo s r place (k + 1) (record c { blocks = blocks; differing = after })
  client-compared = record {
    order = are.order;
    is_ordered = are.is_ordered;
    size = length-set c.blocks k new ∙ are.size;
    ends = λ client some most.
        elim (cases_eq client (k + 1)) [
          | inl mine ↦ (
              let e = ap (λ (b : Block). b.end) (own client mine) ∙ (is.end ∙ old_end) in
              e ∙ ap (λ n. (block_at are.order.blocks n).end) (sym mine))
          | inr apart ↦ ap (λ (b : Block). b.end) (other client some apart) ∙ are.ends client some most
        ];
    from_on = λ client some most.
        elim (cases_eq client (k + 1)) [
          | inl mine ↦ (
              let low = are.from_on (k + 1) (omega arith) (omega arith) in
              omega (arith, low, is.least, ap (λ (b : Block). b.next) (own client mine), ap (λ n. (block_at are.order.blocks n).next) mine))
          | inr apart ↦ omega (arith, are.from_on client some most, ap (λ (b : Block). b.next) (other client some apart))
        ];
    up_to = λ client some most.
        elim (cases_eq client (k + 1)) [
          | inl mine ↦ omega (
            arith,
            new_most,
            is.end,
            old_end,
            ap (λ (b : Block). b.next) (own client mine),
            ap
                (λ n. (block_at are.order.blocks n).end) mine,
          )
          | inr apart ↦ omega (arith, are.up_to client some most, ap (λ (b : Block). b.next) (other client some apart))
        ];
    later = λ at a g behind.
        elim (cases_eq a.client (k + 1)) [
          | inl mine ↦ (
              let low = later_own at a g mine (omega (arith, behind, ap (λ (b : Block). b.next) (own a.client mine))) in
              subst (λ n. n ≤ a.place) (sym (cond-true (nat_le a.client (k + 1)) (place + 1) place (le-leb a.client (k + 1) (omega arith))))
              low)
          | inr apart ↦ (
              let was = are.later at a g (omega
              (arith, behind, ap (λ (b : Block). b.next) (other a.client (are.is_ordered.clients at a g).0 apart))) in
              subst (λ n. n ≤ a.place) (sym (next_least a.client k place apart)) was)
        ];
    wrong = λ at a g before wrong.
        elim (cases_eq a.client (k + 1)) [
          | inl mine ↦ wrong_own at a g mine (omega (arith, before, ap (λ (b : Block). b.next) (own a.client mine))) wrong
          | inr apart ↦ (
              let was = are.wrong at a g (omega
              (arith, before, ap (λ (b : Block). b.next) (other a.client (are.is_ordered.clients at a g).0 apart))) wrong in
              wrong_other at was.0 was.1.0 was.1.1)
        ];
    found = found_next;
  }

-- All clients are compared at a place, and so at each place up to it.
pub all-clients : (s : Script) (r : Report) (place : ℕ) (c : Compared) → AreComparedUpTo s r place 16 c
    → AreComparedUpTo s r (place + 1) 0 c
all-clients s r place c are = record {
  order = are.order;
  is_ordered = are.is_ordered;
  size = are.size;
  ends = are.ends;
  from_on = are.from_on;
  up_to = are.up_to;
  later = λ at a g behind.
      let client = are.is_ordered.clients at a g in
      let was = subst (λ n. n ≤ a.place) (cond-true (nat_le a.client 16) (place + 1) place (le-leb a.client 16 client.1))
      (are.later at a g behind) in
      subst (λ n. n ≤ a.place) (sym (cond-false (nat_le a.client 0) (place + 1 + 1) (place + 1)
      (lt-leb a.client 0 (omega (arith, client.0))))) was;
  wrong = are.wrong;
  found = are.found;
}

-- One line more of a block

before_more : {A : Type 0} (test : A → Bool) (before xs : List A) (x : A)
    → first_off (λ b y. test y) before (xs ++ x ∷ []) ≡ or_last (first_off (λ b y. test y) before xs) (test x) (length xs)
unfolding first_off
before_more test before [] x = one (test x) where
  one : (b : Bool) → (if b then option_map (λ place. place + 1) None else Some 0) ≡ or_last None b 0
  one true = refl
  one false = refl
before_more test before (y ∷ ys) x = more (test y) (test x) _ _ (before_more test (before ++ y ∷ []) ys x) where
  more : (b last : Bool) (long short : Option ℕ) → long ≡ or_last short last (length ys)
      → (if b then option_map (λ place. place + 1) long else Some 0) ≡ or_last
      (if b then option_map (λ place. place + 1) short else Some 0) last (length (y ∷ ys))
  more false last long short e = refl
  more true last long (Some m) e = ap (option_map (λ place. place + 1)) e
  more true true long None e = ap (option_map (λ place. place + 1)) e
  more true false long None e = ap (option_map (λ place. place + 1)) e
      ∙ (let same : length ys + 1 ≡ length (y ∷ ys) = omega arith in ap Some same)

earliest_low : (x n : ℕ) → x ≤ n → earliest (Some x) (Some n) ≡ Some x
earliest_low x n l = cond-true (nat_le x n) (Some x) (Some n) (le-leb x n l)

module _ (s : Script) (r : Report) (from to : ℕ) (a : Answered) (up : from ≤ to) (is : slice_get (answers_in r) to ≡ Some a) where
  longer : take (to + 1 - from) (drop from (answers_in r)) ≡ take (to - from) (drop from (answers_in r)) ++ a ∷ []
  longer =
      let next : to + 1 - from ≡ suc (to - from) = omega arith in
      let here : from + (to - from) ≡ to = omega arith in
      ap (λ n. take n (drop from (answers_in r))) next
      ∙ take-next (drop from (answers_in r)) (to - from) a
      (get_drop (answers_in r) from (to - from) ∙ (ap (slice_get (answers_in r)) here ∙ is))

  size : length (part s r from to) ≡ to - from
  size =
      length-take-le (to - from) (drop from (answers_in r))
      (omega (arith, length-drop from (answers_in r), get-within (answers_in r) to a is))

  between_more : wrong_between s r from (to + 1) ≡ number_at from
      (or_last (first_off (is_replied s r) [] (part s r from to)) (reply_is_right s r a) (to - from))
  between_more =
      ap (λ xs. number_at from (first_off (is_replied s r) [] xs)) longer
      ∙ ap (number_at from) (before_more (reply_is_right s r) [] (part s r from to) a
      ∙ ap (or_last (first_off (is_replied s r) [] (part s r from to)) (reply_is_right s r a)) size)

  pub differing-more : (before : Option ℕ) → earliest before (wrong_between s r from (to + 1))
      ≡ differing_with s r a to (earliest before (wrong_between s r from to))
  differing-more before = ap (earliest before) between_more ∙ by_first (first_off (is_replied s r) [] (part s r from to)) refl
      (reply_is_right s r a) where
        by_first : (o : Option ℕ) → first_off (is_replied s r) [] (part s r from to) ≡ o → (b : Bool)
            → earliest before (number_at from (or_last o b (to - from))) ≡ (if b then earliest before (number_at from o) else earliest
            (earliest before (number_at from o)) (Some to))
        by_first (Some m) f true = refl
        by_first (Some m) f false =
            let low : from + m ≤ to = omega
            (arith, get-within (part s r from to) m _ (off-least (reply_is_right s r) [] (part s r from to) m f).is_item, size) in
            sym (earliest-assoc before (Some (from + m)) (Some to) ∙ ap (earliest before) (earliest_low (from + m) to low))
        by_first None f true = refl
        by_first None f false =
            let here : from + (to - from) ≡ to = omega arith in
            ap (λ n. earliest before (Some n)) here ∙ sym (ap (λ o. earliest o (Some to)) (earliest-none before))

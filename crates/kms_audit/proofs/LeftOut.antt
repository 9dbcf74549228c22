-- That no event is left out: where each E line is right, no client has more of them than its R lines tell events; so there are as
-- many of the one as of the other exactly where that is so of each client.
use Rattle.std.proofs.Common.{◌≡◌, ℕ, zero, suc, ◌+◌, ◌<◌, ◌≤◌, Bool, true, false, List, [], ◌∷◌, ◌++◌, length, take, Option, Some, None}
use Rattle.std.proofs.Common.{refl, sym, ap, ◌∙◌, subst, arith, inl, inr}
use Rattle.std.proofs.lemmas.Bool.{and_from, and_left, and_parts, cases_eq, cases_lt, cond-false, cond-true, eq-eqb, eqb-false, eqb-true}
use Rattle.std.proofs.lemmas.Bool.{false_from_ne_true, le-ltb, lt-ltb, ne_eqb}
use Rattle.std.proofs.lemmas.Bool.Decides.{nat_tests}
use Rattle.std.proofs.lemmas.List.{length_push, take_all}
use Rattle.std.proofs.lemmas.List.Sums.{length-filter, sum_by-cons}
use Rattle.std.proofs.lemmas.Option.{get_or_from_slice_get}
use Rattle.std.specs.List.{cons_option, count_by, filter_map, list_all}
use Rattle.std.specs.Option.{option_map_or}
use Rattle.std.specs.Prelude.{◌&&◌, ◌||◌, ◌==◌, cond, filter, is_some, map, nat_lt, slice_get}
use Rattle.kms_audit.proofs.Apart.{and_true}
use Rattle.kms_audit.proofs.Entering.{filter_push}
use Rattle.kms_audit.proofs.Firsts.{off-each}
use Rattle.kms_audit.proofs.Leasts.{get-within, take-next}
use Rattle.kms_audit.proofs.Turns.{get-some}
use Rattle.kms_audit.specs.Eventing.{AreClientsFew, EventFields, told_count}
use Rattle.kms_model.specs.declared.replies.Answered.{Answered}
use Rattle.kms_model.specs.declared.replies.Event.{Event}
use Rattle.kms_model.specs.declared.reports.Report.{Report}
use Rattle.kms_model.specs.declared.scripts.Script.{Script}
use Rattle.kms_model.specs.Report.Right.{event_in, event_is_right, events_are_whole, events_told, has_a_line, is_not_below, lines_of_client}
use Rattle.kms_model.specs.Report.RightAnswers.{answer_from, answers_in, first_off, same_event}

-- Counts

count_more : {A : Type 0} (p : A → Bool) (x : A) (xs : List A) → count_by p (x ∷ xs) ≡ cond {A = ℕ} (p x) 1 0 + count_by p xs
count_more p x xs = sum_by-cons (λ y. cond (p y) 1 0) x xs

count_same : {A : Type 0} (p q : A → Bool) → ((x : A) → p x ≡ q x) → (xs : List A) → count_by p xs ≡ count_by q xs
count_same p q same [] = refl
count_same p q same (x ∷ xs) =
    let one = ap (λ b. cond {A = ℕ} b 1 0) (same x) in
    omega (arith, count_more p x xs, count_more q x xs, one, count_same p q same xs)

count_map : {A B : Type 0} (p : B → Bool) (f : A → B) (xs : List A) → count_by p (map f xs) ≡ count_by (λ x. p (f x)) xs
count_map p f [] = refl
count_map p f (x ∷ xs) = omega (arith, count_more p (f x) (map f xs), count_more (λ y. p (f y)) x xs, count_map p f xs)

count_each : {A : Type 0} (xs : List A) → count_by (λ (x : A). true) xs ≡ length xs
count_each [] = refl
count_each {A} (x ∷ xs) = omega (arith, count_more (λ (y : A). true) x xs, count_each xs)

count_no : {A : Type 0} (p : A → Bool) (xs : List A) → ((k : ℕ) (x : A) → slice_get xs k ≡ Some x → p x ≡ false) → count_by p xs ≡ 0
count_no p [] apart = refl
count_no p (x ∷ xs) apart =
    let one = ap (λ b. cond {A = ℕ} b 1 0) (apart 0 x refl) in
    omega (arith, count_more p x xs, one, count_no p xs (λ k y g. apart (suc k) y g))

count_some : {A : Type 0} (p : A → Bool) (xs : List A) → 0 < count_by p xs
    → (x : A) × ((k : ℕ) × ((slice_get xs k ≡ Some x) × (p x ≡ true)))
count_some p [] l = absurd (omega arith)
count_some {A} p (x ∷ xs) l = by_first (p x) refl (count_some p xs) where
  by_first : (b : Bool) → p x ≡ b → (0 < count_by p xs → (y : A) × ((k : ℕ) × ((slice_get xs k ≡ Some y) × (p y ≡ true))))
      → (y : A) × ((k : ℕ) × ((slice_get (x ∷ xs) k ≡ Some y) × (p y ≡ true)))
  by_first true is rest = (x, (0, (refl, is)))
  by_first false is rest =
      let one = ap (λ b. cond {A = ℕ} b 1 0) is in
      let it = rest (omega (arith, count_more p x xs, one, l)) in
      (it.0, (suc it.1.0, (it.1.1.0, it.1.1.1)))

-- Items of which a number is below another, and those of it

one_of : (next below here b : Bool) → next ≡ (below || here) → (below && here) ≡ false
    → cond {A = ℕ} (next && b) 1 0 ≡ cond {A = ℕ} (below && b) 1 0 + cond {A = ℕ} (here && b) 1 0
one_of true true false b e f = omega arith
one_of true false true b e f = omega arith
one_of false false false b e f = refl
one_of true true true b e f = absurd cc
one_of true false false b e f = absurd cc
one_of false true false b e f = absurd cc
one_of false false true b e f = absurd cc
one_of false true true b e f = absurd cc

next_or : (k n : ℕ) → nat_lt k (suc n) ≡ (nat_lt k n || (k == n))
next_or k n = grind (arith, nat_tests)

not_both : (k n : ℕ) → (nat_lt k n && (k == n)) ≡ false
not_both k n = grind (arith, nat_tests)

count_split : {A : Type 0} (key : A → ℕ) (p : A → Bool) (n : ℕ) (xs : List A)
    → count_by (λ x. nat_lt (key x) (suc n) && p x) xs ≡ count_by (λ x. nat_lt (key x) n && p x) xs + count_by (λ x. (key x == n) && p x) xs
count_split key p n [] = refl
count_split key p n (x ∷ xs) =
    let more = count_more (λ y. nat_lt (key y) (suc n) && p y) x xs in
    let low = count_more (λ y. nat_lt (key y) n && p y) x xs in
    let here = count_more (λ y. (key y == n) && p y) x xs in
    let one = one_of (nat_lt (key x) (suc n)) (nat_lt (key x) n) (key x == n) (p x) (next_or (key x) n) (not_both (key x) n) in
    omega (arith, more, low, here, one, count_split key p n xs)

count_all : {A : Type 0} (key : A → ℕ) (p : A → Bool) (n : ℕ) (xs : List A) → ((k : ℕ) (x : A) → slice_get xs k ≡ Some x → key x < n)
    → count_by (λ x. nat_lt (key x) n && p x) xs ≡ count_by p xs
count_all key p n [] low = refl
count_all key p n (x ∷ xs) low =
    let more = count_more (λ y. nat_lt (key y) n && p y) x xs in
    let one = ap (λ b. cond {A = ℕ} (b && p x) 1 0) (lt-ltb (key x) n (low 0 x refl)) in
    omega (arith, more, count_more p x xs, one, count_all key p n xs (λ k y g. low (suc k) y g))

count_none : {A : Type 0} (key : A → ℕ) (p : A → Bool) (xs : List A) → count_by (λ x. nat_lt (key x) 0 && p x) xs ≡ 0
count_none key p xs = count_no (λ x. nat_lt (key x) 0 && p x) xs
    (λ k x g. and_left (nat_lt (key x) 0) (p x) (le-ltb (key x) 0 (omega arith)))

-- Lists by their items

all_at : {A : Type 0} (p : A → Bool) (xs : List A) → ((k : ℕ) (x : A) → slice_get xs k ≡ Some x → p x ≡ true) → list_all p xs ≡ true
all_at p [] each = refl
all_at p (x ∷ xs) each = and_from (p x) (list_all p xs) (each 0 x refl) (all_at p xs (λ k y g. each (suc k) y g))

all_each : {A : Type 0} (p : A → Bool) (xs : List A) (k : ℕ) (x : A) → list_all p xs ≡ true → slice_get xs k ≡ Some x → p x ≡ true
all_each p [] k x e g = absurd cc
all_each p (y ∷ ys) zero x e g = let same : y ≡ x = cc in ap p (sym same) ∙ (and_parts (p y) (list_all p ys) e).0
all_each p (y ∷ ys) (suc k) x e g = all_each p ys k x (and_parts (p y) (list_all p ys) e).1 g

-- What R lines tell a client, and its E lines

abbrev tells : Answered → Bool
tells a = is_some (event_in a.reply)

told_more : (c : ℕ) (x : Answered) (xs : List Answered) (b : Bool) (o : Option Event) → (x.client == c) ≡ b → event_in x.reply ≡ o
    → length (events_told c (x ∷ xs)) ≡ cond {A = ℕ} (b && is_some o) 1 0 + length (events_told c xs)
told_more c x xs false o own e =
    let own_lines = filter (λ (a : Answered). a.client == c) xs in
    let same = ap (λ ys. length (filter_map (λ (a : Answered). event_in a.reply) ys))
    (cond-false (x.client == c) (x ∷ own_lines) own_lines own) in
    omega (arith, same)
told_more c x xs true None own e =
    let own_lines = filter (λ (a : Answered). a.client == c) xs in
    let same = ap (λ ys. length (filter_map (λ (a : Answered). event_in a.reply) ys))
    (cond-true (x.client == c) (x ∷ own_lines) own_lines own) in
    let first = ap (λ o. length (cons_option o (filter_map (λ (a : Answered). event_in a.reply) own_lines))) e in
    omega (arith, same, first)
told_more c x xs true (Some v) own e =
    let own_lines = filter (λ (a : Answered). a.client == c) xs in
    let same = ap (λ ys. length (filter_map (λ (a : Answered). event_in a.reply) ys))
    (cond-true (x.client == c) (x ∷ own_lines) own_lines own) in
    let first = ap (λ o. length (cons_option o (filter_map (λ (a : Answered). event_in a.reply) own_lines))) e in
    omega (arith, same, first)

told-count : (c : ℕ) (xs : List Answered) → length (events_told c xs) ≡ count_by (λ a. (a.client == c) && tells a) xs
told-count c [] = refl
told-count c (x ∷ xs) =
    omega (
      arith,
      told_more c x xs (x.client == c) (event_in x.reply) refl refl,
      count_more
          (λ a. (a.client == c) && tells a) x xs,
      told-count c xs,
    )

lines-count : (c : ℕ) (es : List EventFields) → length (lines_of_client c es) ≡ count_by (λ (e : EventFields). (e.0 == c) && true) es
lines-count c es =
    length-filter (λ (e : EventFields). e.0 == c) es
    ∙ count_same (λ (e : EventFields). e.0 == c) (λ (e : EventFields). (e.0 == c) && true) (λ e. sym (and_true (e.0 == c))) es

-- one E line more
lines_push : (c : ℕ) (es : List EventFields) (x : EventFields) (b : Bool) → (x.0 == c) ≡ b
    → length (lines_of_client c (es ++ x ∷ [])) ≡ cond {A = ℕ} b (length (lines_of_client c es) + 1) (length (lines_of_client c es))
lines_push c es x true own =
    ap length (filter_push (λ (e : EventFields). e.0 == c) es x ∙ cond-true (x.0 == c) (lines_of_client c es ++ x ∷ [])
    (lines_of_client c es) own)
    ∙ length_push (lines_of_client c es) x
lines_push c es x false own =
    ap length (filter_push (λ (e : EventFields). e.0 == c) es x ∙ cond-false (x.0 == c) (lines_of_client c es ++ x ∷ [])
    (lines_of_client c es) own)

grow : (c : ℕ) (es : List EventFields) (x : EventFields) (told : ℕ → ℕ) → length (lines_of_client x.0 es) < told x.0
    → length (lines_of_client c es) ≤ told c → length (lines_of_client c (es ++ x ∷ [])) ≤ told c
grow c es x told fits was = by_own (x.0 == c) refl where
  by_own : (b : Bool) → (x.0 == c) ≡ b → length (lines_of_client c (es ++ x ∷ [])) ≤ told c
  by_own false own = omega (arith, was, lines_push c es x false own)
  by_own true own =
      let here : length (lines_of_client c es) < told c = subst (λ n. length (lines_of_client n es) < told n) (eqb-true x.0 c own) fits in
      omega (arith, here, lines_push c es x true own)

-- an E line that is right stands behind fewer of its client than there are events told
line_fits : (s : Script) (r : Report) (k : ℕ) (x : EventFields) → first_off (event_is_right s r) [] r.events ≡ None
    → slice_get r.events k ≡ Some x
    → length (lines_of_client x.0 (take k r.events)) < length (events_told x.0 (answers_in r))
unfolding event_is_right
line_fits s r k x right g =
    let it = off-each (event_is_right s r) [] r.events k x right g in
    let next = slice_get (events_told x.0 (answers_in r)) (length (lines_of_client x.0 (take k r.events))) in
    let p = and_parts (is_not_below (λ (other : EventFields). other.0) (take k r.events) x)
    (option_map_or (same_event x.1) next false && has_a_line s r (take k r.events) x) it in
    told_there next refl (and_parts (option_map_or (same_event x.1) next false) (has_a_line s r (take k r.events) x) p.1).0 where
      told_there : (o : Option Event) → slice_get (events_told x.0 (answers_in r)) (length (lines_of_client x.0 (take k r.events))) ≡ o
          → option_map_or (same_event x.1) o false ≡ true
          → length (lines_of_client x.0 (take k r.events)) < length (events_told x.0 (answers_in r))
      told_there None e f = absurd cc
      told_there (Some v) e f = get-within (events_told x.0 (answers_in r)) (length (lines_of_client x.0 (take k r.events))) v e

below_of : (m k : ℕ) → (m ≡ k → ⊥) → m < suc k → m < k
below_of m k e l = omega arith

module _ (s : Script) (r : Report) (right : first_off (event_is_right s r) [] r.events ≡ None) (few : AreClientsFew r) where
  abbrev told_at : ℕ → ℕ
  told_at c = length (events_told c (answers_in r))

  abbrev lines_at : ℕ → ℕ
  lines_at c = length (lines_of_client c r.events)

  front_most : (k : ℕ) → k ≤ length r.events → (c : ℕ) → length (lines_of_client c (take k r.events)) ≤ told_at c
  front_most zero l c = omega arith
  front_most (suc k) l c =
      let x = get-some r.events k (omega arith) in
      subst (λ es. length (lines_of_client c es) ≤ told_at c) (sym (take-next r.events k x.0 x.1))
      (grow c (take k r.events) x.0 told_at (line_fits s r k x.0 right x.1) (front_most k (omega arith) c))

  most : (c : ℕ) → lines_at c ≤ told_at c
  most c =
      subst (λ es. length (lines_of_client c es) ≤ told_at c) (take_all (length r.events) r.events (omega arith))
      (front_most (length r.events) (omega arith) c)

  -- each client is one of 16
  low : (k : ℕ) (a : Answered) → slice_get (answers_in r) k ≡ Some a → a.client < 17
  low k a g =
      let held = few k a (get-within (answers_in r) k a g) in
      let same = ap (λ (x : Answered). x.client) (get_or_from_slice_get (answers_in r) k a a g) in
      omega (arith, held.1, same)

  told_none : (c : ℕ) → 17 ≤ c → told_at c ≡ 0
  told_none c high =
      told-count c (answers_in r)
      ∙ count_no (λ a. (a.client == c) && tells a) (answers_in r)
      (λ k a g. and_left (a.client == c) (tells a) (ne_eqb a.client c (λ e. omega (arith, low k a g, high, e))))

  line_low : (k : ℕ) (x : EventFields) → slice_get r.events k ≡ Some x → x.0 < 17
  line_low k x g =
      elim (cases_lt x.0 17) [
        | inl within ↦ within
        | inr high ↦ (
            let fits = line_fits s r k x right g in
            let none = told_none x.0 high in
            absurd (omega (arith, fits, none)))
      ]

  -- of the clients below one
  abbrev told_below : ℕ → ℕ
  told_below n = count_by (λ a. nat_lt a.client n && tells a) (answers_in r)

  abbrev lines_below : ℕ → ℕ
  lines_below n = count_by (λ (e : EventFields). nat_lt e.0 n && true) r.events

  told_next : (n : ℕ) → told_below (suc n) ≡ told_below n + told_at n
  told_next n =
      count_split (λ (a : Answered). a.client) tells n (answers_in r) ∙ ap (λ m. told_below n + m) (sym (told-count n (answers_in r)))

  lines_next : (n : ℕ) → lines_below (suc n) ≡ lines_below n + lines_at n
  lines_next n =
      count_split (λ (e : EventFields). e.0) (λ (e : EventFields). true) n r.events
      ∙ ap (λ m. lines_below n + m) (sym (lines-count n r.events))

  told_first : told_below 0 ≡ 0
  told_first = count_none (λ (a : Answered). a.client) tells (answers_in r)

  lines_first : lines_below 0 ≡ 0
  lines_first = count_none (λ (e : EventFields). e.0) (λ (e : EventFields). true) r.events

  told_whole : told_count r.replies ≡ told_below 17
  told_whole =
      sym (count_all (λ (a : Answered). a.client) tells 17 (answers_in r) low ∙ count_map tells answer_from r.replies)

  lines_whole : length r.events ≡ lines_below 17
  lines_whole = sym (count_all (λ (e : EventFields). e.0) (λ (e : EventFields). true) 17 r.events line_low ∙ count_each r.events)

  -- as many of both below a client, exactly where that is so of each of them
  record Balanced (n : ℕ) : Type 0 where
    no_more : lines_below n ≤ told_below n
    of_each : told_below n ≡ lines_below n → (c : ℕ) → c < n → told_at c ≡ lines_at c
    of_all : ((c : ℕ) → c < n → told_at c ≡ lines_at c) → told_below n ≡ lines_below n

  balanced : (n : ℕ) → Balanced n
  balanced zero = record {
    no_more = omega (arith, told_first, lines_first);
    of_each = λ e c l. absurd (omega arith);
    of_all = λ each. told_first ∙ sym lines_first;
  }
  balanced (suc n) =
      let was = balanced n in let told = told_next n in let lines = lines_next n in
      record {
        no_more = omega (arith, told, lines, was.no_more, most n);
        of_each = λ e c l.
            elim (cases_eq c n) [
              | inl here ↦ (
                  let last : told_at n ≡ lines_at n = omega (arith, told, lines, was.no_more, most n, e) in
                  ap told_at here ∙ (last ∙ sym (ap lines_at here)))
              | inr apart ↦ (
                  let same : told_below n ≡ lines_below n = omega (arith, told, lines, was.no_more, most n, e) in
                  was.of_each same c (below_of c n apart l))
            ];
        of_all = λ each.
            let same = was.of_all (λ c l. each c (omega arith)) in
            omega (arith, told, lines, same, each n (omega arith));
      }

  abbrev is_even : Answered → Bool
  is_even a = told_at a.client == lines_at a.client

  -- a client of which the R lines tell no event has no E line
  each_even : list_all is_even (answers_in r) ≡ true → (c : ℕ) → told_at c ≡ lines_at c
  each_even all c =
      elim (cases_lt 0 (told_at c)) [
        | inl some ↦ (
            let it = count_some (λ a. (a.client == c) && tells a) (answers_in r) (omega (arith, some, told-count c (answers_in r))) in
            let own = eqb-true it.0.client c (and_parts (it.0.client == c) (tells it.0) it.1.1.1).0 in
            let even = all_each is_even (answers_in r) it.1.0 it.0 all it.1.1.0 in
            subst (λ n. told_at n ≡ lines_at n) own (eqb-true (told_at it.0.client) (lines_at it.0.client) even))
        | inr none ↦ omega (arith, none, most c)
      ]

  by_sum : (b : Bool) → (told_count r.replies == length r.events) ≡ b → b ≡ list_all is_even (answers_in r)
  by_sum true e =
      let whole : told_below 17 ≡ lines_below 17 = sym told_whole ∙ (eqb-true (told_count r.replies) (length r.events) e ∙ lines_whole) in
      sym (all_at is_even (answers_in r)
      (λ k a g. eq-eqb (told_at a.client) (lines_at a.client) ((balanced 17).of_each whole a.client (low k a g))))
  by_sum false e =
      sym (false_from_ne_true (list_all is_even (answers_in r)) (λ all.
      eqb-false (told_count r.replies) (length r.events) e
      (told_whole ∙ ((balanced 17).of_all (λ c l. each_even all c) ∙ sym lines_whole))))

  pub events-whole : (told_count r.replies == length r.events) ≡ events_are_whole r
  unfolding events_are_whole
  events-whole = by_sum (told_count r.replies == length r.events) refl

-- Lists in blocks, one for each number: the lines of a report stand by client, or by CRTC.
use Rattle.std.proofs.Common.{◌≡◌, ℕ, zero, suc, ◌+◌, ◌<◌, ◌≤◌, Bool, true, false, cond, List, [], ◌∷◌, ◌++◌, length, map, Option, Some}
use Rattle.std.proofs.Common.{None, refl, sym, ap, ◌∙◌, subst, arith, add-one, inl, inr, ⊎_elim, append_assoc, append-nil, length-append}
use Rattle.std.specs.Prelude.{◌&&◌, ◌==◌, filter, nat_le, nat_lt}
use Rattle.std.specs.List.{flat_map, last_or, range_with_len}
use Rattle.std.specs.Option.{option_map_or}
use Rattle.std.proofs.lemmas.Bool.{cases_eq, cases_lt, cond-false, cond-true, eq-eqb, le-leb, le-ltb, lt-ltb, ne_eqb}
use Rattle.std.proofs.lemmas.List.{map-append}
use Rattle.std.proofs.lemmas.List.Elements.{filter-append}
use Rattle.kms_model.specs.Firsts.{one_if}
use Rattle.kms_model.specs.Report.Right.{is_not_below}
use Rattle.kms_model.proofs.Items.{IsIn, filter-same}
use Rattle.kms_model.proofs.Spans.{flat_map-range_suc}
use Rattle.kms_laws.proofs.Basics.{in_either}
use Rattle.kms_told.proofs.Items.{AllPass, pass-append}

-- Filters that let all through, or none

module _ {A : Type 0} (p : A → Bool) where
  pub filter-all : (xs : List A) → ((x : A) → IsIn x xs → p x ≡ true) → filter p xs ≡ xs
  filter-all [] on = refl
  filter-all (x ∷ xs) on =
      cond-true (p x) (x ∷ filter p xs) (filter p xs) (on x (inl refl)) ∙ ap (λ z. x ∷ z) (filter-all xs (λ y is. on y (inr is)))

  pub filter-none : (xs : List A) → ((x : A) → IsIn x xs → p x ≡ false) → filter p xs ≡ []
  filter-none [] off = refl
  filter-none (x ∷ xs) off =
      cond-false (p x) (x ∷ filter p xs) (filter p xs) (off x (inl refl)) ∙ filter-none xs (λ y is. off y (inr is))

-- Tests along a list

pub map-in : {A B : Type 0} (g : B → A) (key : A → ℕ) (k : ℕ) (ys : List B) → ((y : B) → IsIn y ys → key (g y) ≡ k) → (x : A)
    → IsIn x (map g ys)
    → key x ≡ k
map-in g key k [] own x is = absurd is
map-in g key k (y ∷ ys) own x is =
    ⊎_elim (λ (e : g y ≡ x). ap key (sym e) ∙ own y (inl refl)) (λ later. map-in g key k ys (λ z i. own z (inr i)) x later) is

module _ {A B : Type 0} (g : B → A) (test : List A → A → Bool) (before : List A) (ys : List B)
    (each : (front later : List B) (y : B) → ys ≡ front ++ y ∷ later → test (before ++ map g front) (g y) ≡ true) where
  pass-rest : (front later : List B) → ys ≡ front ++ later → AllPass test (before ++ map g front) (map g later)
  pass-rest front [] e = tt
  pass-rest front (y ∷ later) e =
      let longer : before ++ map g (front ++ y ∷ []) ≡ (before ++ map g front) ++ g y ∷ [] =
      ap (λ z. before ++ z) (map-append g front (y ∷ [])) ∙ sym (append_assoc before (map g front) (g y ∷ [])) in (
        each front later y e,
        subst (λ b. AllPass test b (map g later)) longer (pass-rest (front ++ y ∷ []) later (e ∙ sym (append_assoc front (y ∷ []) later))),
      )

  -- each item passes, by those before it in its list
  pub pass-mapped : AllPass test before (map g ys)
  pass-mapped = subst (λ b. AllPass test b (map g ys)) (append-nil before) (pass-rest [] ys refl)

module _ {A : Type 0} (key : A → ℕ) where
  abbrev pub AreBelow : ℕ → List A → Type 0
  AreBelow k xs = (x : A) → IsIn x xs → key x < k

  last-ok : (x : A) (o : Option A) (before : List A) → ((y : A) → IsIn y before → key y ≤ key x)
      → option_map_or (λ last. nat_le (key last) (key x)) o true ≡ true
      → option_map_or (λ last. nat_le (key last) (key x)) (last_or o before) true ≡ true
  last-ok x o [] low now = now
  last-ok x o (y ∷ ys) low now = last-ok x (Some y) ys (λ z is. low z (inr is)) (le-leb (key y) (key x) (low y (inl refl)))

  pub not-below : (before : List A) (x : A) → ((y : A) → IsIn y before → key y ≤ key x) → is_not_below key before x ≡ true
  not-below before x low = last-ok x None before low refl

module _ {A : Type 0} (key : A → ℕ) (f : ℕ → List A) (own : (k : ℕ) (x : A) → IsIn x (f k) → key x ≡ k) where
  pub block-keys : (from n : ℕ) (x : A) → IsIn x (flat_map f (range_with_len from n)) → (from ≤ key x) × (key x < from + n)
  block-keys from zero x is = absurd is
  block-keys from (suc n) x is =
      ⊎_elim
      (λ (here : IsIn x (f from)). let e = own from x here in (omega (arith, e), omega (arith, e)))
      (λ later. let b = block-keys (from + 1) n x later in let low = b.0 in let high = b.1 in (omega (arith, low), omega (arith, high)))
      (in_either (f from) (flat_map f (range_with_len (from + 1) n)) x is)

  -- the items of a number are those of its block
  pub own-block : (from n k : ℕ) → from ≤ k → k < from + n → filter (λ x. key x == k) (flat_map f (range_with_len from n)) ≡ f k
  own-block from zero k low high = absurd (omega (arith, low, high))
  own-block from (suc n) k low high =
      let rest = flat_map f (range_with_len (from + 1) n) in
      filter-append (λ x. key x == k) (f from) rest
      ∙ ⊎_elim
      (λ (same : from ≡ k).
      (λ i.
      filter-all (λ x. key x == k) (f from) (λ x is. eq-eqb (key x) k (own from x is ∙ same)) i
      ++ filter-none (λ x. key x == k) rest
      (λ x is. ne_eqb (key x) k (λ e. absurd (let b = (block-keys (from + 1) n x is).0 in omega (arith, b, e, same)))) i)
      ∙ append-nil (f from)
      ∙ ap f same)
      (λ (apart : from ≡ k → ⊥).
      let above : from + 1 ≤ k = ⊎_elim (λ (lt : from < k). omega (arith, lt))
      (λ (ge : k ≤ from). absurd (apart (omega (arith, ge, low)))) (cases_lt from k) in
      (λ i.
      filter-none (λ x. key x == k) (f from) (λ x is. ne_eqb (key x) k (λ e. apart (sym (own from x is) ∙ e))) i
      ++ own-block (from + 1) n k above (omega (arith, high)) i))
      (cases_eq from k)

  -- each block passes behind items of lower numbers
  pub pass-blocks : (test : List A → A → Bool) (low high : ℕ)
      → ((k : ℕ) (before : List A) → low ≤ k → k < high → AreBelow key k before → AllPass test before (f k))
      → (from n : ℕ) → low ≤ from → from + n ≡ high → (before : List A) → AreBelow key from before
      → AllPass test before (flat_map f (range_with_len from n))
  pass-blocks test low high one from zero l e before below = tt
  pass-blocks test low high one from (suc n) l e before below =
      pass-append test before (f from) (flat_map f (range_with_len (from + 1) n)) (one from before l (omega (arith, e)) below)
      (pass-blocks test low high one (from + 1) n (omega (arith, l)) (omega (arith, e)) (before ++ f from)
      (λ x is.
      ⊎_elim
      (λ (old : IsIn x before). let b = below x old in omega (arith, b))
      (λ new. let k = own from x new in omega (arith, k))
      (in_either before (f from) x is)))

-- Counts

module _ {A B : Type 0} (g : B → A) (test : A → Bool) (p : B → Bool) (same : (y : B) → test (g y) ≡ p y) where
  by_two : (a b : Bool) (x : A) (y : B) (xs : List A) (ys : List B) → a ≡ b → length xs ≡ length ys
      → length (cond a (x ∷ xs) xs) ≡ length (cond b (y ∷ ys) ys)
  by_two true true x y xs ys e l = ap suc l
  by_two false false x y xs ys e l = l
  by_two true false x y xs ys e l = absurd cc
  by_two false true x y xs ys e l = absurd cc

  pub mapped-count : (ys : List B) → length (filter test (map g ys)) ≡ length (filter p ys)
  mapped-count [] = refl
  mapped-count (y ∷ ys) = by_two (test (g y)) (p y) (g y) y (filter test (map g ys)) (filter p ys) (same y) (mapped-count ys)

by_one : {A : Type 0} (b : Bool) (x : A) (xs : List A) → length (cond b (x ∷ xs) xs) ≡ one_if b + length xs
by_one true x xs = omega arith
by_one false x xs = omega arith

count-cons : {A : Type 0} (p : A → Bool) (x : A) (xs : List A) → length (filter p (x ∷ xs)) ≡ one_if (p x) + length (filter p xs)
count-cons p x xs = by_one (p x) x (filter p xs)

bits : (a b c v : Bool) → one_if a + one_if b ≡ one_if c → one_if (a && v) + one_if (b && v) ≡ one_if (c && v)
bits true true true v e = absurd (omega (arith, e))
bits true true false v e = absurd (omega (arith, e))
bits true false true v e = omega arith
bits true false false v e = absurd (omega (arith, e))
bits false true true v e = omega arith
bits false true false v e = absurd (omega (arith, e))
bits false false true v e = absurd (omega (arith, e))
bits false false false v e = refl

by_order : (k n : ℕ) → one_if (nat_lt k n) + one_if (k == n) ≡ one_if (nat_lt k (n + 1))
by_order k n =
    ⊎_elim
    (λ (lt : k < n).
    let a = ap one_if (lt-ltb k n lt) in
    let b = ap one_if (ne_eqb k n (λ e. absurd (omega (arith, lt, e)))) in
    let c = ap one_if (lt-ltb k (n + 1) (omega (arith, lt))) in
    omega (arith, a, b, c))
    (λ (ge : n ≤ k).
    ⊎_elim
    (λ (same : k ≡ n).
    let a = ap one_if (le-ltb k n ge) in
    let b = ap one_if (eq-eqb k n same) in
    let c = ap one_if (lt-ltb k (n + 1) (omega (arith, same))) in
    omega (arith, a, b, c))
    (λ (apart : k ≡ n → ⊥).
    let above : n + 1 ≤ k = ⊎_elim (λ (lt : n < k). omega (arith, lt)) (λ (le : k ≤ n). absurd (apart (omega (arith, le, ge))))
    (cases_lt n k) in
    let a = ap one_if (le-ltb k n ge) in
    let b = ap one_if (ne_eqb k n apart) in
    let c = ap one_if (le-ltb k (n + 1) above) in
    omega (arith, a, b, c))
    (cases_eq k n))
    (cases_lt k n)

module _ {B : Type 0} (key : B → ℕ) (p : B → Bool) where
  count-split : (n : ℕ) (ys : List B)
      → length (filter (λ y. nat_lt (key y) n && p y) ys) + length (filter (λ y. (key y == n) && p y) ys)
      ≡ length (filter (λ y. nat_lt (key y) (n + 1) && p y) ys)
  count-split n [] = refl
  count-split n (y ∷ ys) =
      let a = count-cons (λ y. nat_lt (key y) n && p y) y ys in
      let b = count-cons (λ y. (key y == n) && p y) y ys in
      let c = count-cons (λ y. nat_lt (key y) (n + 1) && p y) y ys in
      let d = bits (nat_lt (key y) n) (key y == n) (nat_lt (key y) (n + 1)) (p y) (by_order (key y) n) in
      let rest = count-split n ys in
      omega (arith, a, b, c, d, rest)

  by_both : (b v : Bool) (y : B) (xs zs : List B) → length (filter p xs) ≡ length zs → p y ≡ v
      → length (filter p (cond b (y ∷ xs) xs)) ≡ length (cond (b && v) (y ∷ zs) zs)
  by_both true true y xs zs e is = ap length (cond-true (p y) (y ∷ filter p xs) (filter p xs) is) ∙ ap suc e
  by_both true false y xs zs e is = ap length (cond-false (p y) (y ∷ filter p xs) (filter p xs) is) ∙ e
  by_both false v y xs zs e is = e

  count-and : (n : ℕ) (ys : List B) → length (filter p (filter (λ y. key y == n) ys)) ≡ length (filter (λ y. (key y == n) && p y) ys)
  count-and n [] = refl
  count-and n (y ∷ ys) =
      by_both (key y == n) (p y) y (filter (λ y. key y == n) ys) (filter (λ y. (key y == n) && p y) ys) (count-and n ys) refl

module _ {A B : Type 0} (g : B → A) (test : A → Bool) (key : B → ℕ) (p : B → Bool) (same : (y : B) → test (g y) ≡ p y) (ys : List B) where
  abbrev block_of : ℕ → List A
  block_of k = map g (filter (λ y. key y == k) ys)

  blocks-below : (n : ℕ) → length (filter test (flat_map block_of (range_with_len 0 n))) ≡ length (filter (λ y. nat_lt (key y) n && p y) ys)
  blocks-below zero =
      sym (ap length (filter-none (λ y. nat_lt (key y) 0 && p y) ys (λ y is. ap (λ b. b && p y) (le-ltb (key y) 0 (omega arith)))))
  blocks-below (suc n) =
      let all = flat_map block_of (range_with_len 0 n) in
      let a = ap (λ z. length (filter test z)) (flat_map-range_suc block_of 0 n n (omega arith)) in
      let b = ap length (filter-append test all (block_of n)) in
      let c = length-append (filter test all) (filter test (block_of n)) in
      let d = blocks-below n in
      let e = mapped-count g test p same (filter (λ y. key y == n) ys) ∙ count-and key p n ys in
      let f = count-split key p n ys in
      let more = ap (λ k. length (filter (λ y. nat_lt (key y) k && p y) ys)) (add-one n) in
      omega (arith, a, b, c, d, e, f, more)

  -- the items of all blocks that pass are those of the list
  pub blocks-count : (n : ℕ) → ((y : B) → IsIn y ys → key y < n)
      → length (filter test (flat_map block_of (range_with_len 0 n))) ≡ length (filter p ys)
  blocks-count n below =
      blocks-below n ∙ ap length (filter-same (λ y. nat_lt (key y) n && p y) p ys
      (λ y is. ap (λ b. b && p y) (lt-ltb (key y) n (below y is))))

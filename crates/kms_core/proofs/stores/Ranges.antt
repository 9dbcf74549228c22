-- Tests of all numbers of a range, and of some.
use Rattle.std.proofs.Common.{◌≡◌, ℕ, zero, suc, ◌+◌, ◌<◌, ◌≤◌, Bool, true, false, List, [], ◌∷◌, map, Option, Some, None, inl, inr, refl}
use Rattle.std.proofs.Common.{ap, ◌∙◌, arith}
use Rattle.std.specs.Prelude.{◌&&◌, ◌||◌, filter, if◌then◌else◌, not}
use Rattle.std.specs.List.{flat_map, list_all, list_any, range_with_len}
use Rattle.std.proofs.lemmas.Bool.{and_from, and_left, and_right, cases_lt, or_left}
use Rattle.std.proofs.lemmas.List.Folds.{list_any-append}
use Rattle.kms_model.specs.Firsts.{first_some}

pub all_pass : (test : ℕ → Bool) (a n : ℕ) → ((j : ℕ) → a ≤ j → j < a + n → test j ≡ true) → list_all test (range_with_len a n) ≡ true
all_pass test a zero passes = refl
all_pass test a (suc n) passes = and_from (test a) _ (passes a (omega arith) (omega arith))
    (all_pass test (a + 1) n (λ j low high. passes j (omega (arith, low)) (omega (arith, high))))

pub one_fails : (test : ℕ → Bool) (a n j : ℕ) → a ≤ j → j < a + n → test j ≡ false → list_all test (range_with_len a n) ≡ false
one_fails test a zero j low high fails = absurd (omega (arith, low, high))
one_fails test a (suc n) j low high fails =
    elim (cases_lt a j) [
      | inl before ↦ and_right (test a) _ (one_fails test (a + 1) n j (omega (arith, before)) (omega (arith, high)) fails)
      | inr behind ↦ (let same : a ≡ j = omega (arith, low, behind) in and_left (test a) _ (ap test same ∙ fails))
    ]

-- A test of some number

-- an item passes where not all fail
any_not_all : {A : Type 0} (test : A → Bool) (xs : List A) → list_any test xs ≡ not (list_all (λ x. not (test x)) xs)
any_not_all test [] = refl
any_not_all test (x ∷ xs) = ap (λ b. test x || b) (any_not_all test xs) ∙ either (test x) (list_all (λ y. not (test y)) xs)
  where
    either : (b rest : Bool) → (b || not rest) ≡ not (not b && rest)
    either true rest = refl
    either false rest = refl

pub none_pass : (test : ℕ → Bool) (a n : ℕ) → ((j : ℕ) → a ≤ j → j < a + n → test j ≡ false) → list_any test (range_with_len a n) ≡ false
none_pass test a n fails = any_not_all test (range_with_len a n) ∙ ap not
    (all_pass (λ j. not (test j)) a n (λ j low high. ap not (fails j low high)))

pub one_passes : (test : ℕ → Bool) (a n j : ℕ) → a ≤ j → j < a + n → test j ≡ true → list_any test (range_with_len a n) ≡ true
one_passes test a n j low high passes = any_not_all test (range_with_len a n) ∙ ap not
    (one_fails (λ i. not (test i)) a n j low high (ap not passes))

-- Tests of some item of many lists, and of a list that is made item by item

pub any_flat : {A : Type 0} (test : A → Bool) (f : ℕ → List A) (ks : List ℕ) → list_any test (flat_map f ks)
    ≡ list_any (λ k. list_any test (f k)) ks
any_flat test f [] = refl
any_flat test f (k ∷ ks) = list_any-append test (f k) (flat_map f ks) ∙ ap (λ b. list_any test (f k) || b) (any_flat test f ks)

pub any_mapped : {A : Type 0} (test : A → Bool) (f : ℕ → A) (ks : List ℕ) → list_any test (map f ks) ≡ list_any (λ k. test (f k)) ks
any_mapped test f [] = refl
any_mapped test f (k ∷ ks) = ap (λ b. test (f k) || b) (any_mapped test f ks)

-- of a list that is filtered
pub any_filtered : {A : Type 0} (test : A → Bool) (f : ℕ → A) (chosen : ℕ → Bool) (a n : ℕ)
    → ((j : ℕ) → a ≤ j → j < a + n → chosen j ≡ true → test (f j) ≡ true)
    → list_any test (map f (filter chosen (range_with_len a n))) ≡ list_any chosen (range_with_len a n)
any_filtered test f chosen a zero holds = refl
any_filtered test f chosen a (suc n) holds = by_test (chosen a) refl
    (any_filtered test f chosen (a + 1) n (λ j low high. holds j (omega (arith, low)) (omega (arith, high)))) where
      by_test : (b : Bool) → chosen a ≡ b → list_any test (map f (filter chosen (range_with_len (a + 1) n)))
          ≡ list_any chosen (range_with_len (a + 1) n)
          → list_any test (map f (if b then a ∷ filter chosen (range_with_len (a + 1) n) else filter chosen (range_with_len (a + 1) n)))
          ≡ (b || list_any chosen (range_with_len (a + 1) n))
      by_test true is rest = or_left (test (f a)) _ (holds a (omega arith) (omega arith) is)
      by_test false is rest = rest

-- The first of a range at which something is found

pub none_some : {A : Type 0} (f : ℕ → Option A) (a n : ℕ) → ((j : ℕ) → a ≤ j → j < a + n → f j ≡ None) → first_some f (range_with_len a n)
    ≡ None
none_some f a zero none = refl
none_some f a (suc n) none = rw (none a (omega arith) (omega arith))
    (none_some f (a + 1) n (λ j low high. none j (omega (arith, low)) (omega (arith, high))))

pub one_some : {A : Type 0} (f : ℕ → Option A) (a n k : ℕ) {x : A} → a ≤ k → k < a + n → f k ≡ Some x
    → ((j : ℕ) → a ≤ j → j < k → f j ≡ None) → first_some f (range_with_len a n) ≡ Some x
one_some f a zero k low high is none = absurd (omega (arith, low, high))
one_some f a (suc n) k {x} low high is none =
    elim (cases_lt a k) [
      | inl before ↦ rw (none a (omega arith) before)
          (one_some f (a + 1) n k (omega (arith, before)) (omega (arith, high)) is (λ j above below. none j (omega (arith, above)) below))
      | inr behind ↦ (let same : a ≡ k = omega (arith, low, behind) in rw (ap f same ∙ is) refl)
    ]

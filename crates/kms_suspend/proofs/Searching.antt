-- The first of objects by their indices that passes a test, as far as a loop has come.
use Rattle.std.proofs.Common.{◌≡◌, ℕ, suc, ◌+◌, ◌-◌, ◌<◌, Bool, true, false, cond, List, [], ◌∷◌, map, Option, Some, refl, sym, ap, ◌∙◌}
use Rattle.std.proofs.Common.{arith}
use Rattle.std.specs.Prelude.{find, option_map}
use Rattle.std.specs.List.{range_with_len}

-- what is left of n objects from one on
abbrev pub found_from : (ℕ → Bool) → ℕ → ℕ → Option ℕ
found_from test i n = find test (range_with_len i (n - i))

opened : (test : ℕ → Bool) (i n : ℕ) → i < n → found_from test i n ≡ cond (test i) (Some i) (found_from test (i + 1) n)
opened test i n within = let e : n - i ≡ suc (n - (i + 1)) = omega arith in rw e refl

-- an object that fails is passed
pub found-more : (test : ℕ → Bool) (i n : ℕ) → i < n → test i ≡ false → found_from test (i + 1) n ≡ found_from test i n
found-more test i n within fails = sym (opened test i n within ∙ ap (λ b. cond b (Some i) (found_from test (i + 1) n)) fails)

-- the first that passes
pub found-here : (test : ℕ → Bool) (i n : ℕ) → i < n → test i ≡ true → found_from test i n ≡ Some i
found-here test i n within passes = opened test i n within ∙ ap (λ b. cond b (Some i) (found_from test (i + 1) n)) passes

by_test : {A : Type 0} (f : A → Bool) (g : ℕ → A) (x : ℕ) (passes : Bool) (xs : List ℕ)
    → find f (map g xs) ≡ option_map g (find (λ y. f (g y)) xs)
    → cond passes (Some (g x)) (find f (map g xs)) ≡ option_map g (cond passes (Some x) (find (λ y. f (g y)) xs))
by_test f g x true xs same = refl
by_test f g x false xs same = same

-- the first of objects that a function gives of indices
pub find-map : {A : Type 0} (f : A → Bool) (g : ℕ → A) (xs : List ℕ) → find f (map g xs) ≡ option_map g (find (λ x. f (g x)) xs)
find-map f g [] = refl
find-map f g (x ∷ xs) = by_test f g x (f (g x)) xs (find-map f g xs)

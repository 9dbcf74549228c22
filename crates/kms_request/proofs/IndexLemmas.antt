-- The first of objects by their indices, as far as a loop has come.
use Rattle.std.proofs.Common.{◌≡◌, ℕ, suc, ◌+◌, ◌-◌, ◌<◌, ◌≤◌, Option, None, refl, sym, ap, ◌∙◌, arith}
use Rattle.std.specs.List.{range_with_len}
use Rattle.kms_model.specs.Firsts.{or_else, first_some}

-- what is left of n objects from one on
abbrev pub first_from : {A : Type 0} → (ℕ → Option A) → ℕ → ℕ → Option A
first_from f i n = first_some f (range_with_len i (n - i))

opened : {A : Type 0} (f : ℕ → Option A) (i n : ℕ) → i < n → first_from f i n ≡ or_else (f i) (first_from f (i + 1) n)
opened f i n within = let e : n - i ≡ suc (n - (i + 1)) = omega arith in rw e refl

-- an object with nothing wrong is passed
pub first_from-more : {A : Type 0} (f : ℕ → Option A) (i n : ℕ) {first : Option A} → i < n → f i ≡ None → first_from f i n ≡ first
    → first_from f (i + 1) n ≡ first
first_from-more f i n within none is = sym (opened f i n within ∙ ap (λ o. or_else o (first_from f (i + 1) n)) none) ∙ is

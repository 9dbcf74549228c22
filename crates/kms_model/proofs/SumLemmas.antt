-- Sums over a list as one item changes, and over some of its items.
use Rattle.std.proofs.Common.{◌≡◌, ◌≢◌, ℕ, zero, suc, ◌+◌, ◌≤◌, List, [], ◌∷◌, set, sym, ap, refl, arith}
use Rattle.std.specs.List.{sum_by}
use Rattle.std.proofs.lemmas.List.Sums.{sum_by-cons}
use mathlib.Core.Option.{some, some-injective, some-ne-none}
use lib.ListN.{get_elem?}

module _ {V : Type 0} where
  pub sum_put : (f : V → ℕ) (vs : List V) (i : ℕ) (v w : V) → get_elem? vs i ≡ some v → sum_by f (set vs i w) + f v ≡ sum_by f vs + f w
  sum_put f [] i v w e = absurd (some-ne-none v (sym e))
  sum_put f (x ∷ xs) zero v w e = let same : f x ≡ f v = ap f (some-injective x v e)
      in omega (arith, sum_by-cons f x xs, sum_by-cons f w xs)
  sum_put f (x ∷ xs) (suc i) v w e = let h = sum_put f xs i v w e in omega (arith, sum_by-cons f x xs, sum_by-cons f x (set xs i w))

  -- an item counts at most what all do
  pub sum_above : (f : V → ℕ) (vs : List V) (i : ℕ) (v : V) → get_elem? vs i ≡ some v → f v ≤ sum_by f vs
  sum_above f [] i v e = absurd (some-ne-none v (sym e))
  sum_above f (x ∷ xs) zero v e = let same : f x ≡ f v = ap f (some-injective x v e) in omega (arith, sum_by-cons f x xs)
  sum_above f (x ∷ xs) (suc i) v e = let h = sum_above f xs i v e in omega (arith, sum_by-cons f x xs)

  -- and so do two of them
  pub sum_two : (f : V → ℕ) (vs : List V) (i j : ℕ) (v w : V) → i ≢ j → get_elem? vs i ≡ some v → get_elem? vs j ≡ some w → f v + f w
      ≤ sum_by f vs
  sum_two f [] i j v w ne e d = absurd (some-ne-none v (sym e))
  sum_two f (x ∷ xs) zero zero v w ne e d = absurd (ne refl)
  sum_two f (x ∷ xs) zero (suc j) v w ne e d = let same : f x ≡ f v = ap f (some-injective x v e) in let h = sum_above f xs j w d
      in omega (arith, sum_by-cons f x xs)
  sum_two f (x ∷ xs) (suc i) zero v w ne e d = let same : f x ≡ f w = ap f (some-injective x w d) in let h = sum_above f xs i v e
      in omega (arith, sum_by-cons f x xs)
  sum_two f (x ∷ xs) (suc i) (suc j) v w ne e d = let h = sum_two f xs i j v w (λ s. ne (ap suc s)) e d in omega (arith, sum_by-cons f x xs)

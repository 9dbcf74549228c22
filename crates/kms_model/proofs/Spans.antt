-- Lists made of a range, one number more or pointwise the same.
use Rattle.std.proofs.Common.{◌≡◌, ◌<◌, ℕ, ◌+◌, List, ◌++◌, zero, suc, refl, sym, ap, ◌∙◌, arith, append_assoc, add-one}
use Rattle.std.specs.List.{flat_map, range_with_len}
use Rattle.std.proofs.lemmas.List.{append-nil}

pub flat_map-range_suc : {X : Type 0} (f : ℕ → List X) (a n j : ℕ) → a + n ≡ j → flat_map f (range_with_len a (suc n))
    ≡ flat_map f (range_with_len a n) ++ f j
flat_map-range_suc f a zero j e = append-nil (f a) ∙ ap f (omega arith)
flat_map-range_suc {X} f a (suc n) j e = ap (λ (xs : List X). f a ++ xs) (flat_map-range_suc f (a + 1) n j (omega arith)) ∙ sym
    (append_assoc (f a) (flat_map f (range_with_len (a + 1) n)) (f j))

pub flat_map-range_more : {X : Type 0} (f : ℕ → List X) (a n j : ℕ) → a + n ≡ j → flat_map f (range_with_len a (n + 1))
    ≡ flat_map f (range_with_len a n) ++ f j
flat_map-range_more f a n j e = let one : n + 1 ≡ suc n = add-one n in rw one (flat_map-range_suc f a n j e)

-- over a range from 0 on only the numbers below its end count
pub flat_map-range_same : (f g : ℕ → List ℕ) (n : ℕ) → ((k : ℕ) → k < n → f k ≡ g k) → flat_map f (range_with_len 0 n)
    ≡ flat_map g (range_with_len 0 n)
flat_map-range_same f g zero h = refl
flat_map-range_same f g (suc n) h =
    flat_map-range_suc f 0 n n (omega arith)
    ∙ ap (λ (xs : List ℕ). xs ++ f n) (flat_map-range_same f g n (λ k below. h k (omega arith)))
    ∙ ap (λ (xs : List ℕ). flat_map g (range_with_len 0 n) ++ xs) (h n (omega arith))
    ∙ sym (flat_map-range_suc g 0 n n (omega arith))

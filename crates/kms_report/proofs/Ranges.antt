-- Lists made of ranges.
use Rattle.std.proofs.Common.{◌≡◌, ℕ, ◌+◌, List, ◌++◌, sym, ap, ◌∙◌, append_assoc}
use Rattle.std.specs.List.{flat_map, range_with_len}
use Rattle.kms_model.proofs.Spans.{flat_map-range_more}

-- a piece more behind what stands there
pub appended_range : {A : Type 0} (f : ℕ → List A) (front before after : List A) (a n j : ℕ) → a + n ≡ j
    → before ≡ front ++ flat_map f (range_with_len a n) → after ≡ before ++ f j → after ≡ front ++ flat_map f (range_with_len a (n + 1))
appended_range {A} f front before after a n j e is more =
    more ∙ ap (λ (xs : List A). xs ++ f j) is ∙ append_assoc front (flat_map f (range_with_len a n)) (f j)
    ∙ ap (λ (xs : List A). front ++ xs) (sym (flat_map-range_more f a n j e))

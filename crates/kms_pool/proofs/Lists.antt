-- Sums and joined lists over the views as one changes.
use Rattle.std.proofs.Common.{◌≡◌, ◌≢◌, ℕ, zero, suc, List, [], ◌∷◌, ◌++◌, length, map, set, sym, ap, ◌∙◌, subst, refl, ⊎_elim, arith}
use Rattle.std.proofs.Common.{append_assoc, append-nil}
use Rattle.std.specs.List.{flat_map}
use Rattle.std.specs.Prelude.{IsPermutation}
use Rattle.std.proofs.lemmas.List.Concat.{flat_map-cons}
use Rattle.std.proofs.lemmas.List.Sorted.{IsPermutation-refl, IsPermutation-append_right, IsPermutation-append_comm}
use Rattle.std.proofs.lemmas.List.Sorted.{IsPermutation-append_left, IsPermutation-trans}
use mathlib.Core.Option.{some, some-injective, some-ne-none}
use lib.ListN.{get_elem?}
use Rattle.crossbeam_queue.proofs.Lists.{at_set}

-- a list is moved behind one that others begin with
swapped : {N : Type 0} (xs ys zs us : List N) → IsPermutation us (ys ++ zs) → IsPermutation (xs ++ us) (ys ++ (xs ++ zs))
swapped xs ys zs us h =
    IsPermutation-trans _ _ _ (IsPermutation-append_right xs us (ys ++ zs) h)
    (subst (λ l. IsPermutation l (ys ++ (xs ++ zs))) (append_assoc xs ys zs)
    (subst (λ l. IsPermutation ((xs ++ ys) ++ zs) l) (append_assoc ys xs zs)
    (IsPermutation-append_left zs (xs ++ ys) (ys ++ xs) (IsPermutation-append_comm xs ys))))

module _ {V : Type 0} where
  -- Sums

  -- Joined lists

  -- those of all views are those of one and of the others, whatever that one becomes
  pub record Around {N : Type 0} (f : V → List N) (vs : List V) (i : ℕ) (v : V) : Type 0 where
    pub others : List N
    pub before : IsPermutation (flat_map f vs) (f v ++ others)
    pub after : (w : V) → IsPermutation (flat_map f (set vs i w)) (f w ++ others)

  pub around : {N : Type 0} (f : V → List N) (vs : List V) (i : ℕ) (v : V) → get_elem? vs i ≡ some v → Around f vs i v
  around f [] i v e = absurd (some-ne-none v (sym e))
  around f (x ∷ xs) zero v e = record {
    others = flat_map f xs;
    before = subst (λ l. IsPermutation (flat_map f (x ∷ xs)) (l ++ flat_map f xs)) (ap f (some-injective x v e))
        (subst (IsPermutation (flat_map f (x ∷ xs))) (flat_map-cons f x xs) (IsPermutation-refl _));
    after = λ w. subst (IsPermutation (flat_map f (w ∷ xs))) (flat_map-cons f w xs) (IsPermutation-refl _);
  }
  around f (x ∷ xs) (suc i) v e = let rest = around f xs i v e in record {
    others = f x ++ rest.others;
    before = subst (λ l. IsPermutation l (f v ++ (f x ++ rest.others))) (sym (flat_map-cons f x xs))
        (swapped (f x) (f v) rest.others (flat_map f xs) rest.before);
    after = λ w. subst (λ l. IsPermutation l (f w ++ (f x ++ rest.others))) (sym (flat_map-cons f x (set xs i w)))
        (swapped (f x) (f w) rest.others (flat_map f (set xs i w)) (rest.after w));
  }

  -- a view that becomes one with the same list changes nothing
  pub flat_same : {N : Type 0} (f : V → List N) (vs : List V) (i : ℕ) (v w : V) → get_elem? vs i ≡ some v → f w ≡ f v
      → flat_map f (set vs i w) ≡ flat_map f vs
  flat_same f [] i v w e same = refl
  flat_same f (x ∷ xs) zero v w e same = flat_map-cons f w xs ∙
      (ap (λ l. l ++ flat_map f xs) (same ∙ ap f (sym (some-injective x v e))) ∙ sym (flat_map-cons f x xs))
  flat_same f (x ∷ xs) (suc i) v w e same = flat_map-cons f x (set xs i w) ∙
      (ap (λ l. f x ++ l) (flat_same f xs i v w e same) ∙ sym (flat_map-cons f x xs))

  -- one more view without anything
  pub flat_snoc : {N : Type 0} (f : V → List N) (vs : List V) (v : V) → f v ≡ [] → flat_map f (vs ++ v ∷ []) ≡ flat_map f vs
  flat_snoc f [] v none = flat_map-cons f v [] ∙ ap (λ l. l ++ []) none
  flat_snoc f (x ∷ xs) v none = flat_map-cons f x (xs ++ v ∷ []) ∙ (ap (λ l. f x ++ l) (flat_snoc f xs v none) ∙ sym (flat_map-cons f x xs))

  flat_none : {N : Type 0} (f : V → List N) (vs : List V) → ((j : ℕ) (w : V) → get_elem? vs j ≡ some w → f w ≡ []) → flat_map f vs ≡ []
  flat_none f [] none = refl
  flat_none f (x ∷ xs) none = flat_map-cons f x xs ∙
      (ap (λ l. l ++ flat_map f xs) (none zero x refl) ∙ flat_none f xs (λ j w d. none (suc j) w d))

  -- those of all views are those of one, where the others have none
  pub flat_only : {N : Type 0} (f : V → List N) (vs : List V) (i : ℕ) (v : V) → get_elem? vs i ≡ some v
      → ((j : ℕ) (w : V) → j ≢ i → get_elem? vs j ≡ some w → f w ≡ []) → flat_map f vs ≡ f v
  flat_only f [] i v e none = absurd (some-ne-none v (sym e))
  flat_only f (x ∷ xs) zero v e none =
      flat_map-cons f x xs ∙ (ap (λ l. f x ++ l) (flat_none f xs (λ j w d. none (suc j) w (λ s. omega arith) d)) ∙
      (append-nil (f x) ∙ ap f (some-injective x v e)))
  flat_only f (x ∷ xs) (suc i) v e none =
      flat_map-cons f x xs ∙ (ap (λ l. l ++ flat_map f xs) (none zero x (λ s. omega arith) refl) ∙ flat_only f xs i v e
      (λ j w ne d. none (suc j) w (λ s. ne (omega arith)) d))

  -- what holds of each view, once one has become w
  pub each_put : (K : V → Type 0) (vs : List V) (i : ℕ) (w : V) → K w → ((j : ℕ) (d : V) → j ≢ i → get_elem? vs j ≡ some d → K d)
      → (j : ℕ) (d : V) → get_elem? (set vs i w) j ≡ some d → K d
  each_put K vs i w own others j d e =
      ⊎_elim (λ (t : (j ≡ i) × (w ≡ d)). subst K t.1 own) (λ (t : (j ≢ i) × (get_elem? vs j ≡ some d)). others j d t.0 t.1)
      (at_set vs i j w d e)

-- a list without length is empty
pub no_items : {S N : Type 0} (name : S → N) (xs : List S) → length xs ≡ 0 → map name xs ≡ []
no_items name [] e = refl
no_items name (x ∷ xs) e = absurd (omega arith)

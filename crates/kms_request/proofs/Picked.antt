-- Walks over those items of a list that count.
use Rattle.std.proofs.Common.{◌≡◌, ◌∙◌, ℕ, ◌+◌, ◌<◌, List, [], ◌∷◌, ◌++◌, length, take, get_or, Bool, true, false, inl, inr, refl, ap}
use Rattle.std.specs.Prelude.{◌&&◌, ◌||◌, filter}
use Rattle.std.specs.List.{list_any}
use Rattle.std.proofs.lemmas.Bool.{cases_Bool}
use Rattle.std.proofs.lemmas.List.{take_more}
use Rattle.std.proofs.lemmas.List.Elements.{filter-append}
use Rattle.kms_request.specs.Naming.{AreCrtcs}

module _ {A : Type 0} (p : A → Bool) where
  -- one that counts passes a test where one of those that count passes it
  pub any_picked : (q : A → Bool) (xs : List A) → list_any (λ a. p a && q a) xs ≡ list_any q (filter p xs)
  any_picked q [] = refl
  any_picked q (x ∷ xs) = elim (cases_Bool (p x)) [
    | inl is ↦ rw is (ap (λ b. q x || b) (any_picked q xs))
    | inr out ↦ rw out (any_picked q xs)
  ]

  pub picked_crtcs : (names : A → ℕ → Bool) (xs : List A) {mask : ℕ} → AreCrtcs (λ crtc. list_any (λ a. p a && names a crtc) xs) mask
      → AreCrtcs (λ crtc. list_any (λ a. names a crtc) (filter p xs)) mask
  picked_crtcs names xs are = record {
    below = are.below;
    bits = λ index low. are.bits index low ∙ any_picked
        (λ a. names a (100 + index)) xs;
  }

  -- one item more
  pub filter_more : (xs : List A) (i : ℕ) (d : A) → i < length xs → p (get_or xs i d) ≡ true → filter p (take (i + 1) xs)
      ≡ filter p (take i xs) ++ get_or xs i d ∷ []
  filter_more xs i d within is = ap (filter p) (take_more xs i d within) ∙ filter-append p (take i xs) (get_or xs i d ∷ []) ∙ rw is refl

  pub filter_less : (xs : List A) (i : ℕ) (d : A) → i < length xs → p (get_or xs i d) ≡ false → filter p (take (i + 1) xs)
      ≡ filter p (take i xs)
  filter_less xs i d within out = ap (filter p) (take_more xs i d within) ∙ filter-append p (take i xs) (get_or xs i d ∷ []) ∙ rw out
      (nil_last (filter p (take i xs)))
    where
      nil_last : (ys : List A) → ys ++ [] ≡ ys
      nil_last [] = refl
      nil_last (y ∷ ys) = ap (λ zs. y ∷ zs) (nil_last ys)

-- every item counts
pub filter_every : {A : Type 0} (xs : List A) → filter (λ x. true) xs ≡ xs
filter_every [] = refl
filter_every (x ∷ xs) = ap (λ ys. x ∷ ys) (filter_every xs)

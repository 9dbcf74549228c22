-- Loops that look for the first item that passes, and for one that fails among all.
use Rattle.std.proofs.Common.{◌≡◌, ℕ, ◌+◌, ◌<◌, ◌≤◌, Bool, true, false, List, length, get_or, drop, Some, None, sym, ap, ◌∙◌, arith}
use Rattle.std.proofs.lemmas.Bool.{cond-false, cond-true}
use Rattle.std.proofs.lemmas.List.{drop_all, drop_more}
use Rattle.std.specs.Prelude.{option_map, if◌then◌else◌}
use Rattle.std.specs.List.{position}
use Rattle.kms_audit.proofs.Firsts.{at-next}
use Rattle.kms_told.proofs.Items.{position-cons}
use Rattle.kms_model.specs.Report.Right.{number_at}

module _ {A : Type 0} (p : A → Bool) (xs : List A) (i : ℕ) where
  module _ (d : A) (within : i < length xs) where
    next_of : position p (drop i xs) ≡ (if p (get_or xs i d) then Some 0 else option_map (λ place. place + 1)
        (position p (drop (i + 1) xs)))
    next_of = ap (position p) (drop_more xs i d within) ∙ position-cons p (get_or xs i d) (drop (i + 1) xs)

    pub pos-step : p (get_or xs i d) ≡ false → number_at (i + 1) (position p (drop (i + 1) xs)) ≡ number_at i (position p (drop i xs))
    pos-step e =
        at-next i (position p (drop (i + 1) xs))
        ∙ sym (ap (number_at i) (next_of ∙ cond-false (p (get_or xs i d)) (Some 0)
        (option_map (λ place. place + 1) (position p (drop (i + 1) xs))) e))

    pub pos-here : p (get_or xs i d) ≡ true → number_at i (position p (drop i xs)) ≡ Some i
    pos-here e =
        ap (number_at i) (next_of ∙ cond-true (p (get_or xs i d)) (Some 0)
        (option_map (λ place. place + 1) (position p (drop (i + 1) xs))) e)
        ∙ (let same : i + 0 ≡ i = omega arith in ap Some same)

  pub pos-done : length xs ≤ i → number_at i (position p (drop i xs)) ≡ None
  pos-done past = ap (λ ys. number_at i (position p ys)) (drop_all i xs past)

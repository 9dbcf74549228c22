-- Counts of indices that pass a test.
use Rattle.std.proofs.Common.{◌≡◌, ◌≢◌, ℕ, zero, suc, ◌+◌, ◌<◌, ◌≤◌, Bool, true, false, inl, inr, add-one, arith, refl, ap, ◌∙◌}
use Rattle.std.proofs.lemmas.Bool.{cases_eq}
use Rattle.kms_model.specs.Firsts.{one_if}
use Rattle.kms_track.specs.Tails.{count_below}

pub none_counted : (test : ℕ → Bool) → count_below test 0 ≡ 0
unfolding count_below
none_counted test = refl

pub one_counted : (test : ℕ → Bool) (n left : ℕ) → left ≡ count_below test n → left + one_if (test n) ≡ count_below test (n + 1)
unfolding count_below
one_counted test n left is = rw (add-one n) (ap (λ m. m + one_if (test n)) is)

at_most_one : (b : Bool) → one_if b ≤ 1
at_most_one true = omega arith
at_most_one false = omega arith

pub one_more_low : (b : Bool) (n left : ℕ) → left ≤ n → left + one_if b ≤ n + 1
one_more_low b n left low = omega (arith, low, at_most_one b)

-- one index less passes

count_alike : (p q : ℕ → Bool) (n index : ℕ) → n ≤ index → ((i : ℕ) → i ≢ index → q i ≡ p i) → count_below q n ≡ count_below p n
unfolding count_below
count_alike p q zero index above same = refl
count_alike p q (suc n) index above same =
    ap (λ m. m + one_if (q n)) (count_alike p q n index (omega (arith, above)) same)
    ∙ ap (λ b. count_below p n + one_if b) (same n (λ e. absurd (omega (arith, above, e))))

pub one_less : (p q : ℕ → Bool) (n index : ℕ) → index < n → p index ≡ true → q index ≡ false → ((i : ℕ) → i ≢ index → q i ≡ p i)
    → count_below q n + 1 ≡ count_below p n
unfolding count_below
one_less p q zero index within was is same = absurd (omega (arith, within))
one_less p q (suc n) index within was is same =
    elim (cases_eq n index) [
      | inl here ↦ (
          let rest : count_below q n ≡ count_below p n = count_alike p q n index (omega (arith, here)) same in
          let gone : one_if (q n) ≡ 0 = ap (λ i. one_if (q i)) here ∙ ap (λ b. one_if b) is in
          let there : one_if (p n) ≡ 1 = ap (λ i. one_if (p i)) here ∙ ap (λ b. one_if b) was in
          omega (arith, rest, gone, there)
          )
      | inr apart ↦ (
          let rest : count_below q n + 1 ≡ count_below p n = one_less p q n index (omega (arith, within, apart)) was is same in
          let last : one_if (q n) ≡ one_if (p n) = ap (λ b. one_if b) (same n apart) in
          omega (arith, rest, last)
          )
    ]

pub count_same : (q p : ℕ → Bool) (n : ℕ) → ((i : ℕ) → q i ≡ p i) → count_below q n ≡ count_below p n
unfolding count_below
count_same q p zero same = refl
count_same q p (suc n) same = ap (λ m. m + one_if (q n)) (count_same q p n same) ∙ ap (λ b. count_below p n + one_if b) (same n)

pub count_low : (test : ℕ → Bool) (n : ℕ) → count_below test n ≤ n
unfolding count_below
count_low test zero = omega arith
count_low test (suc n) = omega (arith, count_low test n, at_most_one (test n))

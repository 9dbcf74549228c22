-- The last number below another that passes a test.
use Rattle.std.proofs.Common.{◌≡◌, ℕ, zero, suc, ◌<◌, Bool, true, false, Some, cond, arith, refl}
use Rattle.kms_model.specs.Machine.Commits.{last_below}

pub last_is : (test : ℕ → Bool) (n j : ℕ) → last_below test n ≡ Some j → (j < n) × (test j ≡ true)
unfolding last_below
last_is test zero j found = cc
last_is test (suc n) j found = of_test (test n) refl found (last_is test n j) where
  of_test : (b : Bool) → test n ≡ b → cond b (Some n) (last_below test n) ≡ Some j
      → (last_below test n ≡ Some j → (j < n) × (test j ≡ true)) → (j < suc n) × (test j ≡ true)
  of_test true is found before = (let same : n ≡ j = cc in (omega arith, rw (← same) is))
  of_test false is found before = (let fact = before found in (omega (arith, fact.0), fact.1))

pub last_same : (f g : ℕ → Bool) (n : ℕ) → ((k : ℕ) → k < n → f k ≡ g k) → last_below f n ≡ last_below g n
unfolding last_below
last_same f g zero same = refl
last_same f g (suc n) same = rw (same n (omega arith), last_same f g n (λ k within. same k (omega arith))) refl

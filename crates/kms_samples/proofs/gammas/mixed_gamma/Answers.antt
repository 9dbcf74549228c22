use Rattle.std.proofs.Common.{◌≡◌, ◌∙◌, ℕ, ◌<◌, ◌+◌, ◌-◌, ◌/◌, ◌%◌, List, [], ◌∷◌, ◌++◌, map, sym, ap, ap₂, refl, arith}
use Rattle.std.specs.List.{slice_set, range_with_len}
use Rattle.std.proofs.lemmas.List.{take_all, take_more_set}
use Rattle.std.proofs.Math.ListN.{length-set}
use Rattle.std.proofs.lemmas.List.FromFn.{map-range_with_len_more}
use Rattle.kms_samples.proofs.gammas.mixed_gamma.Goals as goal
use Rattle.kms_samples.proofs.gammas.mixed_gamma.Invariants.{IsDone}

-- one more value of a channel
one_more : (f : ℕ → ℕ) (i x : ℕ) (values : List ℕ) → i < 256 → x ≡ f i → IsDone f i values → IsDone f (i + 1) (slice_set values i x)
one_more f i x values low is done = record {
  size = length-set values i x ∙ done.size;
  done = take_more_set values i x (omega (arith, done.size, low))
      ∙ (ap₂ (λ (xs : List ℕ) (y : ℕ). xs ++ y ∷ []) done.done is ∙ sym (map-range_with_len_more f 0 i i (omega arith)));
}

-- all values of a channel
all_done : (f : ℕ → ℕ) (i : ℕ) (values : List ℕ) → i ≡ 256 → IsDone f i values → values ≡ map f (range_with_len 0 256)
all_done f i values end done =
    sym (take_all i values (omega (arith, done.size, end))) ∙ (done.done ∙ ap (λ n. map f (range_with_len 0 n)) end)

pub loop-value-preserved : goal.loop-value-preserved
loop-value-preserved c =
    let i : ℕ = c.loop-value.value in
    let low : i < 256 = omega (arith, c.loop-value-test.true) in
    record {
      red = one_more (λ value. 255 - value) i _ c.loop-value.red low (omega (arith, low)) c.loop-value.invariant.red;
      green = one_more (λ value. (value + 1) % 256) i _ c.loop-value.green low (omega (arith, low)) c.loop-value.invariant.green;
      blue = one_more (λ value. value / 2) i _ c.loop-value.blue low (omega (arith, low)) c.loop-value.invariant.blue;
    }

pub returns : goal.returns
returns c =
    let i : ℕ = c.loop-value.value in
    let end : i ≡ 256 = omega (arith, c.loop-value-test.false, c.loop-value.auto.value-end) in
    rw (
      all_done (λ value. 255 - value) i c.loop-value.red end c.loop-value.invariant.red,
      all_done (λ value. (value + 1) % 256) i c.loop-value.green end c.loop-value.invariant.green,
      all_done (λ value. value / 2) i c.loop-value.blue end c.loop-value.invariant.blue,
    ) refl

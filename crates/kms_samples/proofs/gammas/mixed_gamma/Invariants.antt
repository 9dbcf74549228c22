use Rattle.std.proofs.Common.{◌≡◌, ℕ, ◌+◌, ◌-◌, ◌/◌, ◌%◌, List, length, map, take}
use Rattle.std.specs.List.{range_with_len}
use Rattle.kms_samples.proofs.gammas.mixed_gamma.Given as goal

-- the values of a channel before the place are done
pub record IsDone (f : ℕ → ℕ) (place : ℕ) (values : List ℕ) : Type 0 where
  pub size : length values ≡ 256
  pub done : take place values ≡ map f (range_with_len 0 place)

abbrev pub invariant-loop-value : goal.invariant-loop-value
invariant-loop-value l = record {
  red : IsDone (λ value. 255 - value) l.value l.red;
  green : IsDone (λ value. (value + 1) % 256) l.value l.green;
  blue : IsDone (λ value. value / 2) l.value l.blue;
}

-- Sets of objects as masks: one object, and unions.
use Rattle.std.proofs.Common.{◌≡◌, ◌∙◌, ℕ, ◌*◌, ◌^◌, ◌%◌, ◌<◌, Bool, true, false, inl, inr, refl, sym, ap, max}
use Rattle.std.specs.Prelude.{◌||◌, ◌==◌, bit_or}
use Rattle.std.specs.Int.{bit_at}
use Rattle.std.proofs.lemmas.Bool.Decides.{eqb_tells}
use Rattle.std.proofs.lemmas.Nat.{one_shl}
use Rattle.std.proofs.lemmas.Nat.Bits.{bit_at-pow_same, bit_at-pow_other, bit_at_or, bit_at-zero}
use Rattle.kms_model.specs.Device.Masks.{has_bit}
use Rattle.kms_model.proofs.MaskLemmas.{bit, bit_from, has_bit-from}

pow_bit : (k i : ℕ) → bit_at (2 ^ k) i ≡ bit (k == i)
pow_bit k i = elim (eqb_tells k i) [
  | inl same ↦ rw (same.0, same.1) (bit_at-pow_same i)
  | inr other ↦ rw other.0 (bit_at-pow_other k i (λ e. other.1 (sym e)))
]

-- `1 << k`: the set of one object
pub has_bit-one : (k i : ℕ) → k < 32 → has_bit (1 * 2 ^ k % 2 ^ 32) i ≡ (k == i)
has_bit-one k i wide = has_bit-from (1 * 2 ^ k % 2 ^ 32) i (k == i) (ap (λ m. bit_at m i) (one_shl k 32 wide) ∙ pow_bit k i)

pub has_bit-zero : (i : ℕ) → has_bit 0 i ≡ false
has_bit-zero i = has_bit-from 0 i false (bit_at-zero i)

bit-or : (a b : Bool) → max (bit a) (bit b) ≡ bit (a || b)
bit-or true true = refl
bit-or true false = refl
bit-or false true = refl
bit-or false false = refl

-- `a | b`: the objects of both sets
pub has_bit-or : (a b i : ℕ) → has_bit (bit_or a b) i ≡ (has_bit a i || has_bit b i)
has_bit-or a b i = has_bit-from (bit_or a b) i (has_bit a i || has_bit b i)
    (bit_at_or a b i ∙ ap (λ x. max x (bit_at b i)) (bit_from a i) ∙ ap (λ x. max (bit (has_bit a i)) x) (bit_from b i) ∙ bit-or
    (has_bit a i) (has_bit b i))

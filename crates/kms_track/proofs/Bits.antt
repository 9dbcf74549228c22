-- One bit more of a mask, and one pair more of marks.
use Rattle.std.proofs.Common.{◌≡◌, ℕ, ◌+◌, ◌<◌, Bool, true, false, inl, inr, arith, refl, sym, ap, ◌∙◌}
use Rattle.std.specs.Prelude.{◌==◌, ◌&&◌, ◌||◌}
use Rattle.std.proofs.lemmas.Bool.{eq-eqb, ne_eqb}
use Rattle.std.proofs.lemmas.Bool.Decides.{eqb_tells}
use Rattle.kms_model.specs.Device.Masks.{has_bit}
use Rattle.kms_model.proofs.UnionLemmas.{has_bit-one, has_bit-or}
use Rattle.kms_track.specs.Tails.{with_bit}

or_swap : (a b : Bool) → (a || b) ≡ (b || a)
or_swap true true = refl
or_swap true false = refl
or_swap false true = refl
or_swap false false = refl

pub bit_more : (mask i j : ℕ) → i < 32 → has_bit (with_bit mask i) j ≡ ((i == j) || has_bit mask j)
bit_more mask i j wide = has_bit-or mask _ j ∙ ap (λ b. has_bit mask j || b) (has_bit-one i j wide) ∙ or_swap (has_bit mask j) (i == j)

-- objects of a kind are as equal as their indices
pub same_index : (first i j : ℕ) → (first + i == first + j) ≡ (i == j)
same_index first i j =
    elim (eqb_tells i j) [
      | inl same ↦ eq-eqb (first + i) (first + j) (omega (arith, same.1)) ∙ sym same.0
      | inr other ↦ ne_eqb (first + i) (first + j) (λ e. other.1 (omega (arith, e))) ∙ sym other.0
    ]

-- one bit more stands for one pair more
pub bit_marked : (mask n first i j : ℕ) (there : Bool) → i < 32 → has_bit mask j ≡ there
    → has_bit (with_bit mask i) j ≡ (((n == n) && (first + i == first + j)) || there)
bit_marked mask n first i j there wide is =
    bit_more mask i j wide ∙ ap (λ b. (i == j) || b) is
    ∙ sym (ap (λ b. (b && (first + i == first + j)) || there) (eq-eqb n n refl) ∙ ap (λ b. b || there) (same_index first i j))

-- a pair of another object changes nothing
pub other_marked : (n object other : ℕ) (there : Bool) → (object ≡ other → ⊥) → there ≡ (((n == n) && (object == other)) || there)
other_marked n object other there apart = sym
    (ap (λ b. (b && (object == other)) || there) (eq-eqb n n refl) ∙ ap (λ b. b || there) (ne_eqb object other apart))

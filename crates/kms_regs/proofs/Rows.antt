-- Tables with a row for each index.
use Rattle.std.proofs.Common.{◌≡◌, ◌≢◌, ℕ, zero, suc, ◌+◌, ◌<◌, Bool, true, false, List, [], ◌∷◌, length, get_or, arith, refl, sym, ap, ◌∙◌}
use Rattle.std.proofs.Common.{inl, inr, if◌then◌else◌}
use Rattle.std.specs.Prelude.{◌==◌, slice_set}
use Rattle.std.proofs.lemmas.Bool.{cases_eq}
use Rattle.std.proofs.lemmas.Bool.Decides.{eqb_tells}
use Rattle.std.proofs.lemmas.List.{get_or-set_same, get_or-set_other}
use Rattle.kms_model.specs.Machine.Registers.{read}
use Rattle.kms_model.specs.Request.Checks.{with_ids}

pub same_id : {a b : ℕ} → a ≡ b → (a == b) ≡ true
same_id {a} {b} same = elim (eqb_tells a b) [ inl is ↦ is.0 | inr other ↦ absurd (other.1 same) ]

pub other_id : (a b : ℕ) → a ≢ b → (a == b) ≡ false
other_id a b other = elim (eqb_tells a b) [ inl is ↦ absurd (other is.1) | inr not ↦ not.0 ]

-- the row in front
pub read_here : {A : Type 0} (d x : A) (rows : List (ℕ × A)) (id at : ℕ) → id ≡ at → read d ((id, x) ∷ rows) at ≡ x
unfolding read
read_here {A} d x rows id at same = ap (λ (b : Bool). if b then x else read d rows at) (same_id same)

pub read_past : {A : Type 0} (d x : A) (rows : List (ℕ × A)) (id at : ℕ) → id ≢ at → read d ((id, x) ∷ rows) at ≡ read d rows at
unfolding read
read_past {A} d x rows id at other = ap (λ (b : Bool). if b then x else read d rows at) (other_id id at other)

-- what stands at an index
pub read-with_ids : {A : Type 0} (d : A) (xs : List A) (from index at : ℕ) → from + index ≡ at
    → read d (with_ids from xs) at ≡ get_or xs index d
unfolding read
read-with_ids d [] from index at is = refl
read-with_ids d (x ∷ xs) from zero at is = read_here d x (with_ids (from + 1) xs) from at (omega (arith, is))
read-with_ids d (x ∷ xs) from (suc index) at is = read_past d x (with_ids (from + 1) xs) from at (λ same. absurd (omega (arith, is, same)))
    ∙ read-with_ids d xs (from + 1) index at (omega (arith, is))

-- a row in front is a value at an index
pub read-set : {A : Type 0} (d x : A) (xs : List A) (from place index : ℕ) → place < length xs
    → read d ((from + place, x) ∷ with_ids from xs) (from + index) ≡ read d (with_ids from (slice_set xs place x)) (from + index)
read-set d x xs from place index within =
    elim (cases_eq place index) [
      | inl same ↦
          read_here d x (with_ids from xs) (from + place) (from + index) (omega (arith, same))
          ∙ sym (read-with_ids d (slice_set xs place x) from index (from + index) refl ∙
          (ap (λ (i : ℕ). get_or (slice_set xs place x) i d) (sym same) ∙ get_or-set_same xs place x d within))
      | inr other ↦
          read_past d x (with_ids from xs) (from + place) (from + index) (λ same. absurd (other (omega (arith, same))))
          ∙ (read-with_ids d xs from index (from + index) refl
          ∙ sym (read-with_ids d (slice_set xs place x) from index (from + index) refl ∙ get_or-set_other xs place index x d
          (λ same. absurd (other (sym same)))))
    ]

-- what stands at each of four places, and is meant behind them
pub four_alike : {A : Type 0} (x : A) (i : ℕ) → get_or (x ∷ x ∷ x ∷ x ∷ []) i x ≡ x
four_alike x zero = refl
four_alike x (suc zero) = refl
four_alike x (suc (suc zero)) = refl
four_alike x (suc (suc (suc zero))) = refl
four_alike x (suc (suc (suc (suc i)))) = refl

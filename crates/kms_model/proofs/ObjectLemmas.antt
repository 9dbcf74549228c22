-- What holds of the objects of a kind, by their indices.
use Rattle.std.proofs.Common.{◌≡◌, ℕ, zero, suc, ◌+◌, ◌<◌, ◌≤◌, map, Bool, true, inl, inr, arith, sym}
use Rattle.std.specs.List.{list_all, list_any, range_with_len}
use Rattle.std.proofs.lemmas.Bool.{and_parts, or_cases, or_left, or_right, cases_eq, ltb-true, lt-ltb}
use Rattle.kms_model.specs.declared.objects.Kind.{Kind}
use Rattle.kms_model.specs.declared.objects.Topology.{Topology}
use Rattle.kms_model.specs.Device.Objects.{count_of, exists, ids_of, object_id}

all_from : (p : ℕ → Bool) (f : ℕ → ℕ) (a n i : ℕ) → list_all p (map f (range_with_len a n)) ≡ true → a ≤ i → i < a + n → p (f i) ≡ true
all_from p f a zero i all low high = absurd (omega arith)
all_from p f a (suc n) i all low high =
    let both = and_parts (p (f a)) (list_all p (map f (range_with_len (a + 1) n))) all in
    elim (cases_eq i a) [
      | inl same ↦ rw same both.0
      | inr other ↦ all_from p f (a + 1) n i both.1 (omega (arith, other)) (omega arith)
    ]

-- what all objects of a kind pass, one passes
pub all_objects : (t : Topology) (kind : Kind) (p : ℕ → Bool) (index : ℕ) → list_all p (ids_of t kind) ≡ true → exists t kind index ≡ true
    → p (object_id kind index) ≡ true
all_objects t kind p index all there = all_from p (object_id kind) 0 (count_of t kind) index all (omega arith)
    (omega (arith, ltb-true index (count_of t kind) there))

-- some number from a on, and below another, passes
pub record Some_from (p : ℕ → Bool) (f : ℕ → ℕ) (a end : ℕ) : Type 0 where
  pub index : ℕ
  pub low : a ≤ index
  pub high : index < end
  pub passes : p (f index) ≡ true

some_from : (p : ℕ → Bool) (f : ℕ → ℕ) (a n : ℕ) → list_any p (map f (range_with_len a n)) ≡ true → Some_from p f a (a + n)
some_from p f a zero any = absurd (cc)
some_from p f a (suc n) any =
    elim (or_cases (p (f a)) (list_any p (map f (range_with_len (a + 1) n))) any) [
      | inl here ↦ record { index = a; low = omega arith; high = omega arith; passes = here }
      | inr later ↦ (let found = some_from p f (a + 1) n later
          in record { index = found.index; low = omega (arith, found.low); high = omega (arith, found.high); passes = found.passes })
    ]

-- an object of a kind that passes
pub record SomeObject (t : Topology) (kind : Kind) (p : ℕ → Bool) : Type 0 where
  pub index : ℕ
  pub there : exists t kind index ≡ true
  pub passes : p (object_id kind index) ≡ true

pub some_object : (t : Topology) (kind : Kind) (p : ℕ → Bool) → list_any p (ids_of t kind) ≡ true → SomeObject t kind p
some_object t kind p any =
    let found = some_from p (object_id kind) 0 (count_of t kind) any in
    record { index = found.index; there = lt-ltb found.index (count_of t kind) (omega (arith, found.high)); passes = found.passes }

any_from : (p : ℕ → Bool) (f : ℕ → ℕ) (a n i : ℕ) → a ≤ i → i < a + n → p (f i) ≡ true → list_any p (map f (range_with_len a n)) ≡ true
any_from p f a zero i low high passes = absurd (omega arith)
any_from p f a (suc n) i low high passes =
    elim (cases_eq i a) [
      | inl same ↦ or_left (p (f a)) (list_any p (map f (range_with_len (a + 1) n))) (rw (sym same) passes)
      | inr other ↦ or_right (p (f a)) (list_any p (map f (range_with_len (a + 1) n)))
          (any_from p f (a + 1) n i (omega (arith, other)) (omega arith) passes)
    ]

-- one that passes is among the objects of its kind
pub object_passes : (t : Topology) (kind : Kind) (p : ℕ → Bool) (index : ℕ) → exists t kind index ≡ true → p (object_id kind index) ≡ true
    → list_any p (ids_of t kind) ≡ true
object_passes t kind p index there passes = any_from p (object_id kind) 0 (count_of t kind) index (omega arith)
    (omega (arith, ltb-true index (count_of t kind) there)) passes

-- What holds of all items of a list, and of one of them.
use Rattle.std.proofs.Common.{◌≡◌, ℕ, zero, suc, ◌+◌, ◌<◌, ◌≤◌, ◌⊎◌, Bool, true, false, List, [], ◌∷◌, length, map, Option, Some, None, inl}
use Rattle.std.proofs.Common.{inr, arith, refl, sym, ap, ◌∙◌, subst}
use Rattle.std.specs.Prelude.{slice_get, filter}
use Rattle.std.specs.List.{list_any, list_all, range_with_len}
use Rattle.std.proofs.lemmas.Bool.{and_parts, and_from, or_parts, or_from, or_cases, or_left, or_right, cases_eq}
use Rattle.kms_model.specs.declared.objects.Kind.{Kind}
use Rattle.kms_model.specs.declared.objects.Topology.{Topology}
use Rattle.kms_model.specs.Firsts.{or_else, first_some, number_if}
use Rattle.kms_model.specs.Device.Objects.{object_id, count_of, ids_of}
use Rattle.kms_model.specs.Request.Checks.{with_ids}

-- an item of a list
abbrev pub IsIn : {A : Type 0} → A → List A → Type 0
IsIn x [] = ⊥
IsIn x (y ∷ ys) = (y ≡ x) ⊎ IsIn x ys

pub list_all-at : {A : Type 0} (p : A → Bool) (xs : List A) (x : A) → list_all p xs ≡ true → IsIn x xs → p x ≡ true
list_all-at p [] x all is = absurd is
list_all-at p (y ∷ ys) x all (inl same) = ap p (sym same) ∙ (and_parts (p y) (list_all p ys) all).0
list_all-at p (y ∷ ys) x all (inr rest) = list_all-at p ys x (and_parts (p y) (list_all p ys) all).1 rest

pub list_all-from : {A : Type 0} (p : A → Bool) (xs : List A) → ((x : A) → IsIn x xs → p x ≡ true) → list_all p xs ≡ true
list_all-from p [] each = refl
list_all-from p (y ∷ ys) each = and_from (p y) (list_all p ys) (each y (inl refl)) (list_all-from p ys (λ x is. each x (inr is)))

pub list_any-none : {A : Type 0} (p : A → Bool) (xs : List A) → ((x : A) → IsIn x xs → p x ≡ false) → list_any p xs ≡ false
list_any-none p [] each = refl
list_any-none p (y ∷ ys) each = or_from (p y) (list_any p ys) (each y (inl refl)) (list_any-none p ys (λ x is. each x (inr is)))

pub list_any-at : {A : Type 0} (p : A → Bool) (xs : List A) (x : A) → list_any p xs ≡ false → IsIn x xs → p x ≡ false
list_any-at p [] x none is = absurd is
list_any-at p (y ∷ ys) x none (inl same) = ap p (sym same) ∙ (or_parts (p y) (list_any p ys) none).0
list_any-at p (y ∷ ys) x none (inr rest) = list_any-at p ys x (or_parts (p y) (list_any p ys) none).1 rest

pub list_any-has : {A : Type 0} (p : A → Bool) (xs : List A) (x : A) → IsIn x xs → p x ≡ true → list_any p xs ≡ true
list_any-has p [] x is holds = absurd is
list_any-has p (y ∷ ys) x (inl same) holds = or_left (p y) (list_any p ys) (ap p same ∙ holds)
list_any-has p (y ∷ ys) x (inr rest) holds = or_right (p y) (list_any p ys) (list_any-has p ys x rest holds)

-- an item that passes a test
pub record Passes {A : Type 0} (p : A → Bool) (xs : List A) : Type 0 where
  pub item : A
  pub is_in : IsIn item xs
  pub holds : p item ≡ true

passes_further : {A : Type 0} (p : A → Bool) (y : A) (ys : List A) → Passes p ys → Passes p (y ∷ ys)
passes_further p y ys found = record { item = found.item; is_in = inr found.is_in; holds = found.holds }

pub list_any-some : {A : Type 0} (p : A → Bool) (xs : List A) → list_any p xs ≡ true → Passes p xs
list_any-some p [] some = cc
list_any-some p (y ∷ ys) some =
    elim (or_cases (p y) (list_any p ys) some) [
      | inl here ↦ record { item = y; is_in = inl refl; holds = here }
      | inr rest ↦ passes_further
          p y ys (list_any-some p ys rest)
    ]

pub list_any-same : {A : Type 0} (p q : A → Bool) (xs : List A) → ((x : A) → IsIn x xs → p x ≡ q x) → list_any p xs ≡ list_any q xs
list_any-same p q [] same = refl
list_any-same p q (y ∷ ys) same = rw (same y (inl refl), list_any-same p q ys (λ x is. same x (inr is))) refl

pub filter-same : {A : Type 0} (p q : A → Bool) (xs : List A) → ((x : A) → IsIn x xs → p x ≡ q x) → filter p xs ≡ filter q xs
filter-same p q [] same = refl
filter-same p q (y ∷ ys) same = rw (same y (inl refl), filter-same p q ys (λ x is. same x (inr is))) refl

-- Firsts

pub record AreNone {A : Type 0} (first second : Option A) : Type 0 where
  pub first_none : first ≡ None
  pub second_none : second ≡ None

pub or_else-none : {A : Type 0} (first second : Option A) → or_else first second ≡ None → AreNone first second
or_else-none None second none = record { first_none = refl; second_none = none }
or_else-none (Some x) second none = absurd cc

pub or_else-nones : {A : Type 0} (first second : Option A) → first ≡ None → second ≡ None → or_else first second ≡ None
or_else-nones first second a b = rw a b

pub number_if-none : (n : ℕ) (b : Bool) → number_if n b ≡ None → b ≡ false
number_if-none n true none = absurd cc
number_if-none n false none = refl

pub none-number_if : (n : ℕ) (b : Bool) → b ≡ false → number_if n b ≡ None
none-number_if n b off = rw off refl

pub first_some-at : {A B : Type 0} (f : A → Option B) (xs : List A) (x : A) → first_some f xs ≡ None → IsIn x xs → f x ≡ None
first_some-at f [] x none is = absurd is
first_some-at f (y ∷ ys) x none (inl same) = ap f (sym same) ∙ (or_else-none (f y) (first_some f ys) none).first_none
first_some-at f (y ∷ ys) x none (inr rest) = first_some-at f ys x (or_else-none (f y) (first_some f ys) none).second_none rest

pub first_some-none : {A B : Type 0} (f : A → Option B) (xs : List A) → ((x : A) → IsIn x xs → f x ≡ None) → first_some f xs ≡ None
first_some-none f [] each = refl
first_some-none f (y ∷ ys) each = or_else-nones (f y) (first_some f ys) (each y (inl refl)) (first_some-none f ys (λ x is. each x (inr is)))

pub first_some-same : {A B : Type 0} (f g : A → Option B) (xs : List A) → ((x : A) → IsIn x xs → f x ≡ g x) → first_some f xs
    ≡ first_some g xs
first_some-same f g [] same = refl
first_some-same f g (y ∷ ys) same = rw (same y (inl refl), first_some-same f g ys (λ x is. same x (inr is))) refl

-- Objects by their indices

-- the object of a kind with an index
pub record IsObject (t : Topology) (kind : Kind) (object : ℕ) : Type 0 where
  pub index : ℕ
  pub within : index < count_of t kind
  pub same : object ≡ object_id kind index

numbers-has : (f : ℕ → ℕ) (from n i : ℕ) → from ≤ i → i < from + n → IsIn (f i) (map f (range_with_len from n))
numbers-has f from zero i low high = absurd (omega arith)
numbers-has f from (suc n) i low high =
    elim (cases_eq from i) [ inl same ↦ inl (ap f same) | inr other ↦ inr (numbers-has f (from + 1) n i (omega arith) (omega arith)) ]

pub ids-has : (t : Topology) (kind : Kind) (index : ℕ) → index < count_of t kind → IsIn (object_id kind index) (ids_of t kind)
ids-has t kind index within = numbers-has (object_id kind) 0 (count_of t kind) index (omega arith) (omega arith)

-- a number of a range, by a function of it
record IsNumber (f : ℕ → ℕ) (from n object : ℕ) : Type 0 where
  number : ℕ
  low : from ≤ number
  high : number < from + n
  same : object ≡ f number

further : (f : ℕ → ℕ) (from n object : ℕ) → IsNumber f (from + 1) n object → IsNumber f from (suc n) object
further f from n object is = record { number = is.number; low = omega (arith, is.low); high = omega (arith, is.high); same = is.same }

numbers-in : (f : ℕ → ℕ) (from n object : ℕ) → IsIn object (map f (range_with_len from n)) → IsNumber f from n object
numbers-in f from zero object is = absurd is
numbers-in f from (suc n) object (inl same) = record { number = from; low = omega arith; high = omega arith; same = sym same }
numbers-in f from (suc n) object (inr rest) = further f from n object (numbers-in f (from + 1) n object rest)

pub ids-in : (t : Topology) (kind : Kind) (object : ℕ) → IsIn object (ids_of t kind) → IsObject t kind object
ids-in t kind object is =
    let n : IsNumber (object_id kind) 0 (count_of t kind) object = numbers-in (object_id kind) 0 (count_of t kind) object is in
    record { index = n.number; within = omega (arith, n.high); same = n.same }

-- an item with its id
pub record IsWithId {A : Type 0} (from : ℕ) (xs : List A) (p : ℕ × A) : Type 0 where
  pub index : ℕ
  pub within : index < length xs
  pub same : p.0 ≡ from + index
  pub at : slice_get xs index ≡ Some p.1

with_id_further : {A : Type 0} (from : ℕ) (x : A) (xs : List A) (p : ℕ × A) → IsWithId (from + 1) xs p → IsWithId from (x ∷ xs) p
with_id_further from x xs p is = record {
  index = suc is.index;
  within = omega (arith, is.within);
  same = omega (arith, is.same);
  at = is.at;
}

pub with_ids-in : {A : Type 0} (from : ℕ) (xs : List A) (p : ℕ × A) → IsIn p (with_ids from xs) → IsWithId from xs p
with_ids-in from [] p is = absurd is
with_ids-in from (x ∷ xs) p (inl same) = record {
  index = 0;
  within = omega arith;
  same = ap (λ q. q.0) (sym same) ∙ omega arith;
  at = ap
      (λ q. Some q.1) same;
}
with_ids-in from (x ∷ xs) p (inr rest) = with_id_further from x xs p (with_ids-in (from + 1) xs p rest)

pub with_ids-has : {A : Type 0} (from : ℕ) (xs : List A) (i : ℕ) (x : A) → slice_get xs i ≡ Some x → IsIn (from + i, x) (with_ids from xs)
with_ids-has from [] i x is = absurd cc
with_ids-has {A} from (y ∷ ys) zero x is =
    let same : y ≡ x = cc in
    let n : from + 0 ≡ from = omega arith in
    subst (λ m. IsIn (m, x) (with_ids from (y ∷ ys))) (sym n) (inl (ap (λ z. (from, z)) same))
with_ids-has from (y ∷ ys) (suc i) x is =
    let n : from + suc i ≡ from + 1 + i = omega arith in
    subst (λ m. IsIn (m, x) (with_ids from (y ∷ ys))) (sym n) (inr (with_ids-has (from + 1) ys i x is))

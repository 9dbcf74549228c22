-- The last values of requests that are put together of parts, and values that no assignment sets.
use Rattle.std.proofs.Common.{◌≡◌, ◌≢◌, ℕ, zero, suc, ◌+◌, ◌<◌, ◌≤◌, Bool, true, false, cond, List, [], ◌∷◌, ◌++◌, ℤ, Option, None, inl}
use Rattle.std.proofs.Common.{inr, refl, sym, ap, ◌∙◌, arith}
use Rattle.std.specs.Prelude.{◌&&◌, ◌==◌, filter}
use Rattle.std.specs.List.{flat_map, range_with_len}
use Rattle.std.proofs.lemmas.Bool.{cases_Bool, false≢true}
use Rattle.std.proofs.lemmas.Bool.Decides.{eqb_tells}
use Rattle.kms_model.specs.declared.scripts.Assign.{Assign}
use Rattle.kms_model.specs.declared.scripts.Value.{Value}
use Rattle.kms_model.specs.declared.worlds.Setting.{Setting}
use Rattle.kms_model.specs.declared.worlds.Thing.{Thing}
use Rattle.kms_model.specs.Device.World.{put, value}
use Rattle.kms_model.specs.Firsts.{or_else}
use Rattle.kms_model.specs.Request.Apply.{apply, assign, is_kept, number_of, object_of, prop_of}
use Rattle.kms_model.specs.Request.Touched.{last_value, value_if}
use Rattle.kms_model.proofs.AppliedValues.{value-put}
use Rattle.kms_model.proofs.ApplyLemmas.{number_or, value-apply}
use Rattle.kms_model.proofs.Facts.{or_else-assoc, or_else-none}
use Rattle.kms_model.proofs.HeldValues.{filter-in}
use Rattle.kms_model.proofs.Items.{IsIn}

-- Last values

pub last_value-append : (xs ys : List Assign) (o p : ℕ) → last_value (xs ++ ys) o p ≡ or_else (last_value ys o p) (last_value xs o p)
last_value-append [] ys o p = sym (or_else-none (last_value ys o p))
last_value-append (a ∷ xs) ys o p =
    let here = value_if ((object_of a == o) && (prop_of a.prop == p)) a.value in
    ap (λ v. or_else v here) (last_value-append xs ys o p) ∙ or_else-assoc (last_value ys o p) (last_value xs o p) here

-- the objects from one on, as far as they go
pub in_range : (a n i : ℕ) → IsIn i (range_with_len a n) → (a ≤ i) × (i < a + n)
in_range a zero i is = absurd is
in_range a (suc n) i (inl same) = (omega (arith, same), omega (arith, same))
in_range a (suc n) i (inr later) = let rest = in_range (a + 1) n i later in (omega (arith, rest.0), omega (arith, rest.1))

module _ (f : ℕ → List Assign) (o p : ℕ) where
  -- none of some parts sets it
  pub last-other : (xs : List ℕ) → ((i : ℕ) → IsIn i xs → last_value (f i) o p ≡ None) → last_value (flat_map f xs) o p ≡ None
  last-other [] none = refl
  last-other (x ∷ xs) none =
      last_value-append (f x) (flat_map f xs) o p
      ∙ ap (λ v. or_else v (last_value (f x) o p)) (last-other xs (λ i is. none i (inr is)))
      ∙ none x (inl refl)

  one_more : (passes : Bool) (a : ℕ) (rest : List ℕ)
      → last_value (flat_map f (cond passes (a ∷ rest) rest)) o p ≡ or_else (last_value (flat_map f rest) o p)
      (cond passes (last_value (f a) o p) None)
  one_more true a rest = last_value-append (f a) (flat_map f rest) o p
  one_more false a rest = sym (or_else-none (last_value (flat_map f rest) o p))

  none_either : (passes : Bool) (v : Option Value) → v ≡ None → cond passes v None ≡ None
  none_either true v none = none
  none_either false v none = refl

  -- one of the parts of objects that pass a test sets it
  pub last-of : (test : ℕ → Bool) (j a n : ℕ) → ((i : ℕ) → i ≢ j → i < a + n → last_value (f i) o p ≡ None) → a ≤ j → j < a + n
      → last_value (flat_map f (filter test (range_with_len a n))) o p ≡ cond (test j) (last_value (f j) o p) None
  last-of test j a zero none low high = absurd (omega (arith, low, high))
  last-of test j a (suc n) none low high =
      let rest = filter test (range_with_len (a + 1) n) in
      elim (eqb_tells a j) [
        | inl here ↦ (
            let later : last_value (flat_map f rest) o p ≡ None = last-other rest (λ i is.
            let bounds = in_range (a + 1) n i (filter-in test (range_with_len (a + 1) n) i is).0 in
            none i (λ (same : i ≡ j). absurd (omega (arith, same, here.1, bounds.0))) (omega (arith, bounds.1))) in
            one_more (test a) a rest
            ∙ ap (λ v. or_else v (cond (test a) (last_value (f a) o p) None)) later
            ∙ ap (λ i. cond (test i) (last_value (f i) o p) None) here.1)
        | inr away ↦ (
            let first = none_either (test a) (last_value (f a) o p) (none a away.1 (omega arith)) in
            let further : a + 1 ≤ j = grind (arith, low, away.1) in
            one_more (test a) a rest
            ∙ ap (or_else (last_value (flat_map f rest) o p)) first
            ∙ or_else-none (last_value (flat_map f rest) o p)
            ∙ last-of test j (a + 1) n (λ i apart high. none i apart (omega (arith, high))) further (omega (arith, high)))
      ]

-- Values that no assignment sets

passed_by : (first second : Bool) (n z : ℤ) → second ≡ false → cond (first && second) n z ≡ z
passed_by true true n z off = absurd cc
passed_by true false n z off = refl
passed_by false second n z off = refl

other_prop : (q p : ℕ) → is_kept q ≡ true → is_kept p ≡ false → (q == p) ≡ false
other_prop q p keeps lost = elim (eqb_tells q p) [
  | inl same ↦ absurd (false≢true (sym lost ∙ ap is_kept (sym same.1) ∙ keeps))
  | inr apart ↦ apart.0
]

-- a property that belongs to a request alone has no value
unkept : (things : List Thing) (values : List Setting) (assigns : List Assign) (o p : ℕ) → is_kept p ≡ false
    → value (apply things values assigns) o p ≡ value values o p
unkept things values [] o p lost = refl
unkept things values (a ∷ assigns) o p lost = unkept things (assign things values a) assigns o p lost ∙ once (is_kept (prop_of a.prop)) refl
  where
    once : (keeps : Bool) → is_kept (prop_of a.prop) ≡ keeps
        → value (cond keeps (put values (object_of a) (prop_of a.prop) (number_of things a.value)) values) o p ≡ value values o p
    once false is = refl
    once true is =
        value-put values (object_of a) (prop_of a.prop) (number_of things a.value) o p
        ∙ passed_by (object_of a == o) (prop_of a.prop == p) (number_of things a.value) (value values o p)
        (other_prop (prop_of a.prop) p is lost)

-- a value that no assignment sets stays
pub value-unset : (things : List Thing) (values : List Setting) (assigns : List Assign) (o p : ℕ) → last_value assigns o p ≡ None
    → value (apply things values assigns) o p ≡ value values o p
value-unset things values assigns o p none = elim (cases_Bool (is_kept p)) [
  | inl keeps ↦ value-apply things values assigns o p keeps ∙ ap (λ v. number_or things v (value values o p)) none
  | inr lost ↦ unkept things values assigns o p lost
]

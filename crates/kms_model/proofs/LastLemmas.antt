-- The last assignments of a request, and what they leave.
use Rattle.std.proofs.Common.{◌≡◌, ◌∙◌, ◌⊎◌, ℕ, List, [], ◌∷◌, Bool, true, false, Option, Some, None, inl, inr, arith, refl, sym, ap}
use Rattle.std.specs.Prelude.{◌&&◌, ◌==◌}
use Rattle.std.specs.List.{list_any}
use Rattle.std.proofs.lemmas.Bool.{and_parts, and_from, or_cases, or_parts, cases_Bool, eqb-true, eq-eqb}
use Rattle.std.proofs.lemmas.Bool.Decides.{nat_tests}
use Rattle.kms_model.specs.declared.scripts.Assign.{Assign}
use Rattle.kms_model.specs.declared.scripts.Value.{Value}
use Rattle.kms_model.specs.declared.sets.Set.{Set}
use Rattle.kms_model.specs.declared.worlds.Look.{Look}
use Rattle.kms_model.specs.Request.Apply.{object_of, prop_of}
use Rattle.kms_model.specs.Firsts.{or_else}
use Rattle.kms_model.specs.Request.Sets.{has_target_of, last_sets, set_of}
use Rattle.kms_model.specs.Request.Touched.{last_value, value_if}
pub use Rattle.kms_model.proofs.Items.{IsIn}

pub record SomeIn {A : Type 0} (p : A → Bool) (xs : List A) : Type 0 where
  pub item : A
  pub member : IsIn item xs
  pub passes : p item ≡ true

-- an item that passes
pub some_in : {A : Type 0} (p : A → Bool) (xs : List A) → list_any p xs ≡ true → SomeIn p xs
some_in p [] any = absurd (cc)
some_in p (x ∷ xs) any = elim (or_cases (p x) (list_any p xs) any) [
  | inl here ↦ record { item = x; member = inl refl; passes = here }
  | inr later ↦ (let found = some_in p xs later in record { item = found.item; member = inr found.member; passes = found.passes })
]

-- two assignments set one property of one object
pub record SameTarget (a b : Assign) : Type 0 where
  pub object : object_of a ≡ object_of b
  pub prop : prop_of a.prop ≡ prop_of b.prop

same_target : (a b : Assign) → has_target_of a b ≡ true → SameTarget a b
same_target a b has =
    let both = and_parts (object_of a == object_of b) (prop_of a.prop == prop_of b.prop) has in
    record { object = eqb-true (object_of a) (object_of b) both.0; prop = eqb-true (prop_of a.prop) (prop_of b.prop) both.1 }

has_target-from : (a : Assign) (object prop : ℕ) → object ≡ object_of a → prop ≡ prop_of a.prop
    → ((object_of a == object) && (prop_of a.prop == prop)) ≡ true
has_target-from a object prop same_object same_prop = and_from _ _ (eq-eqb (object_of a) object (sym same_object))
    (eq-eqb (prop_of a.prop) prop (sym same_prop))

eqb_turned : (a b : ℕ) → (a == b) ≡ (b == a)
eqb_turned a b = grind (arith, nat_tests)

no_value : (object prop : ℕ) (b : Assign) → ((object == object_of b) && (prop == prop_of b.prop)) ≡ false
    → value_if ((object_of b == object) && (prop_of b.prop == prop)) b.value ≡ None
no_value object prop b none = rw (eqb_turned (object_of b) object, eqb_turned (prop_of b.prop) prop, none) refl

-- no later assignment sets what one sets
last_value-none : (object prop : ℕ) (assigns : List Assign) → list_any (λ b. (object == object_of b) && (prop == prop_of b.prop)) assigns
    ≡ false → last_value assigns object prop ≡ None
last_value-none object prop [] none = refl
last_value-none object prop (b ∷ assigns) none =
    let both = or_parts ((object == object_of b) && (prop == prop_of b.prop))
    (list_any (λ c. (object == object_of c) && (prop == prop_of c.prop)) assigns) none in
    rw (last_value-none object prop assigns both.1) (no_value object prop b both.0)

-- The last assignment with the target of one: it is what the property of the object is set to.
pub record IsLast (f : ℕ → Look) (assigns : List Assign) (b : Assign) : Type 0 where
  pub member : IsIn b assigns
  pub listed : IsIn (set_of f b) (last_sets f assigns)
  pub last : last_value assigns (object_of b) (prop_of b.prop) ≡ Some b.value

pub record HasLast (f : ℕ → Look) (assigns : List Assign) (a : Assign) : Type 0 where
  pub item : Assign
  pub same : SameTarget a item
  pub is : IsLast f assigns item

-- a set of those of later assignments is one of all
listed_later : (f : ℕ → Look) (a : Assign) (assigns : List Assign) (s : Set) → IsIn s (last_sets f assigns)
    → IsIn s (last_sets f (a ∷ assigns))
unfolding last_sets
listed_later f a assigns s member = elim (cases_Bool (list_any (has_target_of a) assigns))
    [ inl again ↦ rw again member | inr not_again ↦ rw not_again (inr member) ]

-- the last of later assignments is the last of all
last_later : (f : ℕ → Look) (a : Assign) (assigns : List Assign) (b : Assign) → IsLast f assigns b → IsLast f (a ∷ assigns) b
last_later f a assigns b is = record {
  member = inr is.member;
  listed = listed_later f a assigns (set_of f b) is.listed;
  last = rw is.last
      refl;
}

-- an assignment that no later one sets again is the last
last_here : (f : ℕ → Look) (a : Assign) (assigns : List Assign) → list_any (has_target_of a) assigns ≡ false → IsLast f (a ∷ assigns) a
unfolding last_sets
last_here f a assigns none = record {
  member = inl refl;
  listed = rw none (inl refl);
  last = rw (last_value-none (object_of a) (prop_of a.prop) assigns none, has_target-from a (object_of a) (prop_of a.prop) refl refl) refl;
}

-- each assignment has a last one with its target
pub has_last : (f : ℕ → Look) (assigns : List Assign) (a : Assign) → IsIn a assigns → HasLast f assigns a
has_last f [] a member = absurd member
has_last f (b ∷ assigns) a (inr later) =
    let last = has_last f assigns a later in
    record { item = last.item; same = last.same; is = last_later f b assigns last.item last.is }
has_last f (b ∷ assigns) a (inl same) = elim (cases_Bool (list_any (has_target_of b) assigns)) [
  | inl again ↦ (let found = some_in (has_target_of b) assigns again in
      let last = has_last f assigns found.item found.member in
      let target = same_target b found.item found.passes in
      record {
        item = last.item;
        same = record {
          object = ap object_of (sym same) ∙ target.object ∙ last.same.object;
          prop = ap (λ (x : Assign). prop_of x.prop)
              (sym same) ∙ target.prop ∙ last.same.prop;
        };
        is = last_later f b assigns last.item last.is;
      })
  | inr none ↦ record {
    item = b;
    same = record { object = ap object_of (sym same); prop = ap (λ (x : Assign). prop_of x.prop) (sym same) };
    is = last_here f b assigns none;
  }
]

-- each set comes from a last assignment
pub record FromLast (f : ℕ → Look) (assigns : List Assign) (s : Set) : Type 0 where
  pub item : Assign
  pub set : s ≡ set_of f item
  pub is : IsLast f assigns item

from_later : (f : ℕ → Look) (a : Assign) (assigns : List Assign) (s : Set) → FromLast f assigns s → FromLast f (a ∷ assigns) s
from_later f a assigns s from = record { item = from.item; set = from.set; is = last_later f a assigns from.item from.is }

from_here : (f : ℕ → Look) (a : Assign) (assigns : List Assign) (s : Set) → list_any (has_target_of a) assigns ≡ false
    → (IsIn s (last_sets f assigns) → FromLast f assigns s) → (set_of f a ≡ s) ⊎ IsIn s (last_sets f assigns) → FromLast f (a ∷ assigns) s
from_here f a assigns s none rest (inl same) = record { item = a; set = sym same; is = last_here f a assigns none }
from_here f a assigns s none rest (inr later) = from_later f a assigns s (rest later)

pub from_last : (f : ℕ → Look) (assigns : List Assign) (s : Set) → IsIn s (last_sets f assigns) → FromLast f assigns s
unfolding last_sets
from_last f [] s member = absurd member
from_last f (a ∷ assigns) s member = elim (cases_Bool (list_any (has_target_of a) assigns)) [
  | inl again ↦ from_later f a assigns s (from_last f assigns s (rw again at member))
  | inr none ↦ from_here f a assigns s none (from_last f assigns s) (rw none at member)
]

-- what is set last is among the assignments
pub record SetBy (assigns : List Assign) (object prop : ℕ) (v : Value) : Type 0 where
  pub item : Assign
  pub member : IsIn item assigns
  pub object_is : object_of item ≡ object
  pub prop_is : prop_of item.prop ≡ prop
  pub value_is : item.value ≡ v

set_here : (a : Assign) (assigns : List Assign) (object prop : ℕ) (v : Value) (b : Bool)
    → ((object_of a == object) && (prop_of a.prop == prop)) ≡ b → value_if b a.value ≡ Some v → SetBy (a ∷ assigns) object prop v
set_here a assigns object prop v false is given = absurd (cc)
set_here a assigns object prop v true is given =
    let both = and_parts (object_of a == object) (prop_of a.prop == prop) is in
    record {
      item = a;
      member = inl refl;
      object_is = eqb-true (object_of a) object both.0;
      prop_is = eqb-true (prop_of a.prop) prop both.1;
      value_is = cc;
    }

set_at : (a : Assign) (assigns : List Assign) (object prop : ℕ) (v : Value) (later : Option Value)
    → ((u : Value) → later ≡ Some u → SetBy assigns object prop u)
    → or_else later (value_if ((object_of a == object) && (prop_of a.prop == prop)) a.value) ≡ Some v → SetBy (a ∷ assigns) object prop v
set_at a assigns object prop v None rest given = set_here a assigns object prop v ((object_of a == object) && (prop_of a.prop == prop)) refl
    given
set_at a assigns object prop v (Some u) rest given =
    let by = rest v given in
    record { item = by.item; member = inr by.member; object_is = by.object_is; prop_is = by.prop_is; value_is = by.value_is }

pub set_by : (assigns : List Assign) (object prop : ℕ) (v : Value) → last_value assigns object prop ≡ Some v → SetBy assigns object prop v
set_by [] object prop v given = absurd (cc)
set_by (a ∷ assigns) object prop v given = set_at a assigns object prop v (last_value assigns object prop)
    (λ u is. set_by assigns object prop u is) given

-- What a line met that may stand where it stands.
use Rattle.std.proofs.Common.{◌≡◌, ℕ, zero, suc, ◌≤◌, ◌⊎◌, inl, inr, Bool, true, false, List, [], ◌∷◌, cond, Option, Some, None, Ok, Err}
use Rattle.std.proofs.Common.{refl, arith}
use Rattle.std.specs.Prelude.{Result, ◌||◌, ◌==◌, not}
use Rattle.kms_model.specs.declared.scripts.Why.{Why}
use Rattle.kms_model.specs.Script.CommandLines.{or_form, unless}
use Rattle.kms_model.specs.Script.WholeInput.{is_nil}

-- what was read of a line, and what followed
pub record Formed {A B : Type 0} (o : Option A) (f : A → Result B Why) (x : B) : Type 0 where
  pub value : A
  pub given : o ≡ Some value
  pub then : f value ≡ Ok x

-- a line that was accepted has the form that was asked for
pub form_ok : {A B : Type 0} (o : Option A) (f : A → Result B Why) (x : B) → or_form o f ≡ Ok x → Formed o f x
form_ok None f x e = absurd cc
form_ok (Some v) f x e = record { value = v; given = refl; then = e }

-- a test that tells a fault failed
pub unless_ok : {A : Type 0} (t : Bool) (why : Why) (r : Result A Why) (x : A) → unless t why r ≡ Ok x → (t ≡ false) × (r ≡ Ok x)
unless_ok true why r x e = absurd cc
unless_ok false why r x e = (refl, e)

-- a test that asks for a form passed
pub if_ok : {A : Type 0} (t : Bool) (why : Why) (r : Result A Why) (x : A) → cond t r (Err why) ≡ Ok x → (t ≡ true) × (r ≡ Ok x)
if_ok true why r x e = (refl, e)
if_ok false why r x e = absurd cc

-- one of two forms
pub either_ok : {A : Type 0} (t : Bool) (r s : A) (x : A) → cond t r s ≡ x → ((t ≡ true) × (r ≡ x)) ⊎ ((t ≡ false) × (s ≡ x))
either_ok true r s x e = inl (refl, e)
either_ok false r s x e = inr (refl, e)

-- a line without a fault
abbrev pub accepted : {A : Type 0} → A → Result A Why
accepted x = Ok x

-- what an accepted line gives is one value
pub ok_same : {A : Type 0} (x y : A) → accepted x ≡ accepted y → x ≡ y
ok_same x y e = cc

-- a list that is nil by the test is
pub nil_is : {A : Type 0} (xs : List A) → is_nil xs ≡ true → xs ≡ []
nil_is [] e = refl
nil_is (x ∷ xs) e = absurd cc

-- where neither of two tests holds, the second does not
pub second_off : (a b : Bool) → (a || b) ≡ false → b ≡ false
second_off true b e = absurd cc
second_off false b e = e

-- where it does not hold that a test fails, it holds
pub on_from : (t : Bool) → not t ≡ false → t ≡ true
on_from true e = refl
on_from false e = absurd cc

-- behind the first two lines
pub is_late : (n : ℕ) → (n == 0) ≡ false → (n == 1) ≡ false → 2 ≤ n
is_late zero a b = absurd cc
is_late (suc zero) a b = absurd cc
is_late (suc (suc n)) a b = omega arith

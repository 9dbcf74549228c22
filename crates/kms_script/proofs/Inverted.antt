-- What a reader that gave a value took: each step of it gave one.
use Rattle.std.proofs.Common.{◌≡◌, Bool, true, false, ◌⊎◌, inl, inr, cond, Option, Some, None, refl}
use Rattle.std.specs.Prelude.{option_map}
use Rattle.std.specs.Option.{option_map_or}
use Rattle.kms_model.specs.Script.Words.{◌>>=◌}

-- the value that a first step gave, and what the rest made of it
pub record Bound {A B : Type 0} (o : Option A) (f : A → Option B) (y : B) : Type 0 where
  pub value : A
  pub given : o ≡ Some value
  pub then : f value ≡ Some y

-- two steps that gave a value
pub bind_some : {A B : Type 0} (o : Option A) (f : A → Option B) (y : B) → (o >>= f) ≡ Some y → Bound o f y
bind_some None f y e = absurd cc
bind_some (Some x) f y e = record { value = x; given = refl; then = e }

-- the same, with what follows from it
pub from_bind : {A B P : Type 0} (o : Option A) (f : A → Option B) (y : B) → (o >>= f) ≡ Some y → ((x : A) → o ≡ Some x → f x ≡ Some y → P)
    → P
from_bind o f y e follows = let b = bind_some o f y e in follows b.value b.given b.then

-- a value behind a test passed the test
pub if_some : {A : Type 0} (t : Bool) (o : Option A) (y : A) → cond t o None ≡ Some y → (t ≡ true) × (o ≡ Some y)
if_some true o y e = (refl, e)
if_some false o y e = absurd cc

-- the value that a function was applied to
pub record Mapped {A B : Type 0} (f : A → B) (o : Option A) (y : B) : Type 0 where
  pub value : A
  pub given : o ≡ Some value
  pub makes : f value ≡ y

-- a value that a function made of another
pub map_some : {A B : Type 0} (f : A → B) (o : Option A) (y : B) → option_map f o ≡ Some y → Mapped f o y
map_some f None y e = absurd cc
map_some f (Some x) y e = record { value = x; given = refl; makes = cc }

-- what is there is one value
pub some_same : {A : Type 0} (x y : A) → Some x ≡ Some y → x ≡ y
some_same x y e = cc

-- one of two: the first where it is there
pub or_some : {A B : Type 0} (f : A → Option B) (o : Option A) (other : Option B) (y : B) → option_map_or f o other ≡ Some y
    → Bound o f y ⊎ (other ≡ Some y)
or_some f None other y e = inr e
or_some f (Some x) other y e = inl (record { value = x; given = refl; then = e })

-- one of two by a test
pub choice_some : {A : Type 0} (t : Bool) (one other : Option A) (y : A) → cond t one other ≡ Some y
    → ((t ≡ true) × (one ≡ Some y)) ⊎ (other ≡ Some y)
choice_some true one other y e = inl (refl, e)
choice_some false one other y e = inr e

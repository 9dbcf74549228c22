-- Facts of booleans, options, lists and integers that several crates use.
use Rattle.std.proofs.Common.{◌≡◌, ℕ, zero, suc, ◌+◌, List, [], ◌∷◌, map, Bool, true, false, not, ◌||◌, Option, Some, None, ◌⊎◌, inl, inr}
use Rattle.std.proofs.Common.{refl, sym, ap, subst, cond, replicate, ℤ, pos, negsuc, SFits, rules, arith}
use Rattle.std.specs.Prelude.{◌&&◌, ◌==◌, All, is_none, is_some, slice_get}
use Rattle.std.specs.Int.{w32, cast_signed, cast_unsigned}
use Rattle.std.specs.List.{AllByRecursion, list_all, range_with_len}
use Rattle.std.specs.Option.{option_map}
use Rattle.std.proofs.lemmas.Bool.{and_from, eqb-true, false≢true}
use Rattle.std.proofs.lemmas.Int.{ints, to_z-of_z}
use Rattle.kms_model.specs.declared.states.Both.{Both}
use Rattle.kms_model.specs.Device.Sound.{IsBetween}
use Rattle.kms_model.specs.Firsts.{or_else}
use Rattle.kms_model.specs.Machine.Commits.{has_number}
use Rattle.kms_model.specs.Machine.State.{has_value}
use Rattle.kms_model.proofs.Items.{IsIn, list_any-some}

-- Booleans

pub implied : (a b : Bool) → (not a || b) ≡ true → a ≡ true → b ≡ true
implied true b h e = h
implied false b h e = absurd (false≢true e)

pub implied_from : (a b : Bool) → (a ≡ true → b ≡ true) → (not a || b) ≡ true
implied_from true b h = h refl
implied_from false b h = refl

pub neither : (a b : Bool) → (a || b) ≡ false → (a ≡ false) × (b ≡ false)
neither true b e = absurd (false≢true (sym e))
neither false b e = (refl, e)

pub and_off : (a b : Bool) → a ≡ false → (a && b) ≡ false
and_off true b off = absurd (false≢true (sym off))
and_off false b off = refl

pub or-assoc : (a b c : Bool) → ((a || b) || c) ≡ (a || (b || c))
or-assoc true b c = refl
or-assoc false b c = refl

pub other_number : (n k : ℕ) (b : Bool) → (n == k) ≡ false → ((n == k) || b) ≡ b
other_number n k b apart = rw apart refl

-- Options

pub none-some : {A : Type 0} (o : Option A) → is_none o ≡ not (is_some o)
none-some None = refl
none-some (Some x) = refl

pub none-is : {A : Type 0} (o : Option A) → is_none o ≡ true → o ≡ None
none-is None h = refl
none-is (Some x) h = absurd (false≢true h)

pub value-is : (n : ℕ) (o : Option ℕ) → has_value n o ≡ true → o ≡ Some n
value-is n None h = absurd (false≢true h)
value-is n (Some k) h = ap Some (eqb-true k n h)

pub or_else-none : {A : Type 0} (first : Option A) → or_else first None ≡ first
or_else-none None = refl
or_else-none (Some x) = refl

pub or_else-assoc : {A : Type 0} (a b c : Option A) → or_else (or_else a b) c ≡ or_else a (or_else b c)
or_else-assoc None b c = refl
or_else-assoc (Some x) b c = refl

pub or_else-some : {A : Type 0} (a b : Option A) (x : A) → or_else a b ≡ Some x → (a ≡ Some x) ⊎ (b ≡ Some x)
or_else-some None b x is = inr is
or_else-some (Some y) b x is = inl is

pub cond_holds : {X : Type 0} (P : X → Type 0) (b : Bool) (x y : X) → P x → P y → P (cond b x y)
cond_holds P true x y first second = first
cond_holds P false x y first second = second

pub cond_mapped : {A B : Type 0} (f : A → B) (b : Bool) (x : A) (o : Option A) → cond b (Some (f x)) (option_map f o)
    ≡ option_map f (cond b (Some x) o)
cond_mapped f true x o = refl
cond_mapped f false x o = refl

-- Lists

pub only_item : {X : Type 0} {x y : X} → x ∷ [] ≡ y ∷ [] → x ≡ y
only_item e = cc

pub tail-of : (b c : ℕ) (bs cs : List ℕ) → b ∷ bs ≡ c ∷ cs → bs ≡ cs
tail-of b c bs cs e = cc

pub by_recursion-at : {A : Type 0} (P : A → Type 0) (xs : List A) (x : A) → AllByRecursion P xs → IsIn x xs → P x
by_recursion-at P [] x all is = absurd is
by_recursion-at P (y ∷ ys) x all (inl same) = subst P same all.0
by_recursion-at P (y ∷ ys) x all (inr rest) = by_recursion-at P ys x all.1 rest

pub all-from_recursion : {A : Type 0} (P : A → Type 0) (xs : List A) → AllByRecursion P xs → All P xs
all-from_recursion P [] h k d less = absurd (omega arith)
all-from_recursion P (x ∷ xs) h zero d less = h.0
all-from_recursion P (x ∷ xs) h (suc k) d less = all-from_recursion P xs h.1 k d (omega arith)

pub all_map : {A B : Type 0} (P : B → Type 0) (f : A → B) (xs : List A) → AllByRecursion (λ x. P (f x)) xs → AllByRecursion P (map f xs)
all_map P f [] all = tt
all_map P f (x ∷ xs) all = (all.0, all_map P f xs all.1)

pub list_all-from : (f : ℕ → Bool) (start n : ℕ) → ((i : ℕ) → f i ≡ true) → list_all f (range_with_len start n) ≡ true
list_all-from f start zero each = refl
list_all-from f start (suc n) each = and_from (f start) (list_all f (range_with_len (start + 1) n)) (each start)
    (list_all-from f (start + 1) n each)

pub number-in : (objects : List ℕ) (object : ℕ) → has_number objects object ≡ true → IsIn object objects
number-in objects object has = (let at = list_any-some (λ n. n == object) objects has
    in subst (λ o. IsIn o objects) (eqb-true at.item object at.holds) at.is_in)

pub nothing_there : {S : Type 0} (n i : ℕ) (both : Both S) → slice_get (replicate n None) i ≡ Some (Some both) → ⊥
nothing_there zero i both is = absurd cc
nothing_there (suc n) zero both is = absurd cc
nothing_there (suc n) (suc i) both is = nothing_there n i both is

-- Integers

pub signed_back : (z : ℤ) → IsBetween (negsuc 2147483647) (pos 2147483647) z → cast_signed w32 (cast_unsigned w32 z) ≡ z
signed_back z between = let fits : SFits w32 z = search (rules, arith, ints, between.low, between.high) in to_z-of_z w32 z fits

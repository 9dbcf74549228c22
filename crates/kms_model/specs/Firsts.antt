-- The first of several, and what there is where a test says so.
use Rattle.std.specs.Prelude.{ℕ, Bool, List, [], ◌∷◌, Option, Some, None, if◌then◌else◌}
use Rattle.kms_model.specs.declared.replies.Denied.{Denied}
use Rattle.kms_model.specs.declared.replies.Refusal.{Refusal}

-- the first value, or else the second
abbrev pub or_else : {A : Type 0} → Option A → Option A → Option A
or_else (Some x) other = Some x
or_else None other = other

-- the first value that a function gives of a list's items
abbrev pub first_some : {A B : Type 0} → (A → Option B) → List A → Option B
first_some f [] = None
first_some f (x ∷ xs) = or_else (f x) (first_some f xs)

-- a number where a test says so
abbrev pub number_if : ℕ → Bool → Option ℕ
number_if n b = if b then Some n else None

-- one where a test says so, and else zero
abbrev pub one_if : Bool → ℕ
one_if b = if b then 1 else 0

-- the number of a refusal of a request, or of another command, where a test says so
abbrev pub refused_if : Refusal → Bool → Option ℕ
refused_if refusal b = number_if refusal.0 b

abbrev pub denied_if : Denied → Bool → Option ℕ
denied_if denied b = number_if denied.0 b

-- the item, if there is one
abbrev pub listed : {A : Type 0} → Option A → List A
listed None = []
listed (Some x) = x ∷ []

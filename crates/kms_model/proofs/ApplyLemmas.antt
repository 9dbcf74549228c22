-- The values after a request's assignments, by their last values.
use Rattle.std.proofs.Common.{◌≡◌, ◌∙◌, List, [], ◌∷◌, Bool, true, false, Option, Some, None, ℕ, ℤ, refl}
use Rattle.std.specs.Prelude.{◌&&◌, ◌==◌, if◌then◌else◌}
use Rattle.kms_model.specs.declared.scripts.Assign.{Assign}
use Rattle.kms_model.specs.declared.scripts.Value.{Value}
use Rattle.kms_model.specs.declared.worlds.Setting.{Setting}
use Rattle.kms_model.specs.declared.worlds.Thing.{Thing}
use Rattle.kms_model.specs.Request.Apply.{apply, assign, is_kept, number_of, object_of, prop_of}
use Rattle.kms_model.specs.Firsts.{or_else}
use Rattle.kms_model.specs.Device.World.{value}
use Rattle.kms_model.specs.Request.Touched.{last_value, value_if}
use Rattle.kms_model.proofs.AppliedValues.{targets, value-assign}

-- the number that a value stands for, or else another
abbrev pub number_or : List Thing → Option Value → ℤ → ℤ
number_or things (Some v) number = number_of things v
number_or things None number = number

-- the number that a value stands for where a test holds, or else another
number_or-if : (things : List Thing) (b : Bool) (v : Value) (number : ℤ) → (if b then number_of things v else number)
    ≡ number_or things (value_if b v) number
number_or-if things true v number = refl
number_or-if things false v number = refl

number_or-later : (things : List Thing) (later here : Option Value) (before z : ℤ) → z ≡ number_or things here before
    → number_or things later z ≡ number_or things (or_else later here) before
number_or-later things None here before z is = is
number_or-later things (Some v) here before z is = refl

-- a value after a request is what the last assignment sets it to, or else what it was
pub value-apply : (things : List Thing) (values : List Setting) (assigns : List Assign) (object prop : ℕ) → is_kept prop ≡ true
    → value (apply things values assigns) object prop ≡ number_or things (last_value assigns object prop) (value values object prop)
value-apply things values [] object prop kept = refl
value-apply things values (a ∷ assigns) object prop kept =
    value-apply things (assign things values a) assigns object prop kept
    ∙ number_or-later things (last_value assigns object prop) (value_if ((object_of a == object) && (prop_of a.prop == prop)) a.value)
    (value values object prop) (value (assign things values a) object prop)
    (value-assign things values a object prop kept ∙ number_or-if things (targets a object prop) a.value (value values object prop))

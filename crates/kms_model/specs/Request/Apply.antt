-- The values after a request. From: "Atomic Mode Setting".
use Rattle.std.specs.Prelude.{ℕ, Bool, not, ◌||◌, ◌==◌, ℤ, pos, List, [], ◌∷◌, Option, Some, None, if◌then◌else◌}
use Rattle.kms_model.specs.declared.objects.Kind.TheVariants as kind
use Rattle.kms_model.specs.declared.properties.TheConstants.{IN_FENCE_FD, OUT_FENCE_PTR}
use Rattle.kms_model.specs.declared.scripts.Assign.{Assign}
use Rattle.kms_model.specs.declared.scripts.Request.{Request}
use Rattle.kms_model.specs.declared.scripts.PropRef.{PropRef}
use Rattle.kms_model.specs.declared.scripts.PropRef.TheVariants.{Known, Unknown}
use Rattle.kms_model.specs.declared.scripts.Value.{Value}
use Rattle.kms_model.specs.declared.scripts.Value.TheVariants.{Num, Named, New, Crtc}
use Rattle.kms_model.specs.declared.worlds.Setting.{Setting}
use Rattle.kms_model.specs.declared.worlds.Thing.{Thing}
use Rattle.kms_model.specs.declared.worlds.World.{World}
use Rattle.kms_model.specs.Device.Objects.{object_id}
use Rattle.kms_model.specs.Device.World.{put, thing_labelled}

abbrev pub id_in : Option Thing → ℤ
id_in (Some t) = pos t.id
id_in None = pos 0

-- the number that a value stands for: a label stands for its thing's id
abbrev pub number_of : List Thing → Value → ℤ
number_of things (Num n) = n
number_of things (Named label) = id_in (thing_labelled things label)
number_of things (New label) = pos 0
number_of things (Crtc index) = pos (object_id kind.Crtc index)

-- the property's id; no property has the id 0
abbrev pub prop_of : PropRef → ℕ
prop_of (Known id) = id
prop_of (Unknown name) = 0

-- IN_FENCE_FD and OUT_FENCE_PTR belong to their request alone.
abbrev pub is_kept : ℕ → Bool
is_kept prop = not ((prop == IN_FENCE_FD) || (prop == OUT_FENCE_PTR))

abbrev pub object_of : Assign → ℕ
object_of a = object_id a.kind a.index

-- the values after one assignment
abbrev pub assign : List Thing → List Setting → Assign → List Setting
assign things values a = if is_kept (prop_of a.prop) then put values (object_of a) (prop_of a.prop) (number_of things a.value) else values

-- the values after all assignments, of which later ones win
abbrev pub apply : List Thing → List Setting → List Assign → List Setting
apply things values [] = values
apply things values (a ∷ assigns) = apply things (assign things values a) assigns

-- the values of a world after a request
abbrev pub after : World → Request → List Setting
after w r = apply w.things w.values r.assigns

-- The properties of objects that assignments set, in place.
use Rattle.std.specs.Prelude.{◌≡◌, ℕ, ◌+◌, ◌*◌, Bool, false, List, slice_index_or}
use Rattle.std.specs.List.{list_any}
use Rattle.kms_model.specs.declared.objects.Kind.{Kind}
use Rattle.kms_model.specs.declared.objects.Kind.TheVariants.{Crtc, Plane, Conn, Enc}
use Rattle.kms_model.specs.declared.scripts.Assign.{Assign}
use Rattle.kms_model.specs.Request.Apply.{prop_of}
use Rattle.kms_model.specs.Request.Resolves.{IsSettable}
use Rattle.kms_model.specs.Request.Sets.{has_target_of}

-- the place of an object among 4 CRTCs, 16 planes and 8 connectors
abbrev pub target_place : Kind → ℕ → ℕ
target_place Crtc index = index
target_place Plane index = 4 + index
target_place Conn index = 20 + index
target_place Enc index = 28 + index

-- the place of a property of an object: each object has room for the ids up to 19
abbrev pub target_of : Assign → ℕ
target_of a = target_place a.kind a.index * 20 + prop_of a.prop

-- for each property of an object, whether one of the assignments sets it
abbrev pub TellTargets : List Assign → List Bool → Type 0
TellTargets assigns marks =
    (b : Assign) → IsSettable b
    → slice_index_or marks (target_of b) false ≡ list_any (has_target_of b) assigns

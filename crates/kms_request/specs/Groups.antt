-- What sets, assignments and states tell of the groups of objects that a request needs locked.
use Rattle.std.specs.Prelude.{ℕ, zero, suc, ◌==◌, bit_or, List, Option, Some, None, if◌then◌else◌}
use Rattle.std.specs.List.{list_any}
use Rattle.kms_model.specs.declared.objects.Kind.{Kind}
use Rattle.kms_model.specs.declared.objects.Kind.TheVariants.{Crtc, Plane, Conn}
use Rattle.kms_model.specs.declared.objects.ObjId.{ObjId}
use Rattle.kms_model.specs.declared.scripts.Assign.{Assign}
use Rattle.kms_model.specs.declared.sets.Set.{Set}
use Rattle.kms_model.specs.declared.states.Both.{Both}
use Rattle.kms_model.specs.declared.states.CrtcState.{CrtcState}
use Rattle.kms_model.specs.declared.states.Mask.{Mask}
use Rattle.kms_model.specs.Device.Masks.{mask_below}
use Rattle.kms_model.specs.Device.Objects.{most_of, object_id}
use Rattle.kms_model.specs.Request.Groups.{no_objects, union}
use Rattle.kms_model.specs.Request.Late.{duplicate_in, needs_modeset_between}
use Rattle.kms_model.specs.Request.Touched.{sets}

-- the set of one object by its id, where it is of a kind
abbrev pub only_of : Kind → ℕ → ℕ
only_of kind id = mask_below (λ index. id == object_id kind index) (most_of kind)

-- the objects of a kind that sets set
abbrev pub set_of_kind : List Set → Kind → ℕ
set_of_kind all kind =
    mask_below (λ index. list_any (λ s. s.object.0 == object_id kind index) all) (most_of kind)

abbrev pub objects_set : List Set → Mask
objects_set all = record {
  crtcs = set_of_kind all Crtc;
  planes = set_of_kind all Plane;
  conns = set_of_kind all Conn;
}

-- the objects of a kind that assignments set
abbrev pub assigned_of : List Assign → Kind → ℕ
assigned_of all kind = mask_below (λ index. sets all (object_id kind index)) (most_of kind)

abbrev pub objects_assigned : List Assign → Mask
objects_assigned all = record {
  crtcs = assigned_of all Crtc;
  planes = assigned_of all Plane;
  conns = assigned_of all Conn;
}

-- the planes and connectors that a CRTC has before or after, where it needs a modeset
abbrev pub affected_with : Option (Both CrtcState) → Mask
affected_with None = no_objects
affected_with (Some both) =
    if needs_modeset_between both
    then record {
      crtcs = 0;
      planes = bit_or both.old.planes both.new.planes;
      conns = bit_or both.old.conns both.new.conns;
    }
    else no_objects

-- those of the first n of some CRTCs
unfoldable pub affected_below : List (Option (Both CrtcState)) → ℕ → ℕ → Mask
affected_below crtcs named zero = no_objects
affected_below crtcs named (suc n) =
    union (affected_below crtcs named n) (affected_with (duplicate_in named crtcs n))

-- the CRTCs among objects with a number each
abbrev pub crtcs_fenced : List (ObjId × ℕ) → ℕ
crtcs_fenced fences =
    mask_below (λ index. list_any (λ f. f.0.0 == object_id Crtc index) fences) (most_of Crtc)

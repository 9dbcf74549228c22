-- The objects that a request touches. From: "Atomic Mode Setting"; `drm_atomic_helper.c`, drm_atomic_helper_check_modeset,
-- drm_atomic_add_affected_planes, drm_atomic_add_affected_connectors.
use Rattle.std.specs.Prelude.{ℕ, Bool, true, false, ◌&&◌, ◌||◌, ◌==◌, List, [], ◌∷◌, Option, Some, None, if◌then◌else◌}
use Rattle.std.specs.List.{list_any}
use Rattle.kms_model.specs.declared.objects.Kind.{Kind}
use Rattle.kms_model.specs.declared.objects.Kind.TheVariants.{Crtc, Plane, Conn, Enc}
use Rattle.kms_model.specs.declared.objects.Topology.{Topology}
use Rattle.kms_model.specs.declared.properties.TheConstants.{OUT_FENCE_PTR}
use Rattle.kms_model.specs.declared.scripts.Assign.{Assign}
use Rattle.kms_model.specs.declared.scripts.Request.{Request}
use Rattle.kms_model.specs.declared.scripts.Value.{Value}
use Rattle.kms_model.specs.declared.scripts.Value.TheVariants as value
use Rattle.kms_model.specs.declared.states.Mask.{Mask}
use Rattle.kms_model.specs.declared.worlds.Setting.{Setting}
use Rattle.kms_model.specs.declared.worlds.Thing.{Thing}
use Rattle.kms_model.specs.declared.worlds.World.{World}
use Rattle.kms_model.specs.Firsts.{or_else}
use Rattle.kms_model.specs.Request.Flags.{wants_event}
use Rattle.kms_model.specs.Device.Masks.{mask_below}
use Rattle.kms_model.specs.Device.Objects.{object_id, ids_of, count_of, kind_of}
use Rattle.kms_model.specs.Request.Apply.{object_of, prop_of, after}
use Rattle.kms_model.specs.Request.Named.{names, moves_on, needs_modeset}

-- a request sets an object, also by an assignment that a later one overrides
abbrev pub sets : List Assign → ℕ → Bool
sets assigns object = list_any (λ a. object_of a == object) assigns

-- a plane or a connector that is, before or after, on a CRTC that needs a modeset
abbrev pub is_affected : Topology → List Thing → List Setting → List Setting → ℕ → Bool
is_affected t things old new object = list_any (λ crtc. needs_modeset t things old new crtc && moves_on old new crtc object) (ids_of t Crtc)

-- A request that makes new values of old ones touches a CRTC that it sets or names.
abbrev pub touches_crtc : List Setting → List Setting → List Assign → ℕ → Bool
touches_crtc old new assigns crtc = sets assigns crtc || names old new assigns crtc

-- It touches a plane or a connector that it sets, and those on a CRTC that needs a modeset.
abbrev pub touches_routed : Topology → List Thing → List Setting → List Setting → List Assign → ℕ → Bool
touches_routed t things old new assigns object = sets assigns object || is_affected t things old new object

-- a request touches an object of a kind in a world
abbrev pub touches_of_kind : Kind → Topology → World → Request → ℕ → Bool
touches_of_kind Crtc t w r object = touches_crtc w.values (after w r) r.assigns object
touches_of_kind Plane t w r object = touches_routed t w.things w.values (after w r) r.assigns object
touches_of_kind Conn t w r object = touches_routed t w.things w.values (after w r) r.assigns object
touches_of_kind Enc t w r object = false

-- a request touches an object in a world, by the object's id
unfoldable pub touches : Topology → World → Request → ℕ → Bool
touches t w r object = touches_of_kind (kind_of object) t w r object

-- the objects of a kind that pass a test, as a set
abbrev pub set_where : Topology → Kind → (ℕ → Bool) → ℕ
set_where t kind test = mask_below (λ index. test (object_id kind index)) (count_of t kind)

-- the CRTCs that a request names, as a set
abbrev pub named_set : Topology → List Setting → List Setting → List Assign → ℕ
named_set t old new assigns = set_where t Crtc (names old new assigns)

-- the objects that a request touches, as a set
abbrev pub touched_set : Topology → List Thing → List Setting → List Setting → List Assign → Mask
touched_set t things old new assigns = record {
  crtcs = set_where t Crtc (touches_crtc old new assigns);
  planes = set_where t Plane (touches_routed t things old new assigns);
  conns = set_where t Conn (touches_routed t things old new assigns);
}

abbrev pub value_if : Bool → Value → Option Value
value_if b v = if b then Some v else None

-- the CRTCs that a request names in a world, and the objects that it touches there, as sets
abbrev pub named_by : Topology → World → Request → ℕ
named_by t w r = named_set t w.values (after w r) r.assigns

abbrev pub touched_by : Topology → World → Request → Mask
touched_by t w r = touched_set t w.things w.values (after w r) r.assigns

-- the last value that a request sets a property of an object to
abbrev pub last_value : List Assign → ℕ → ℕ → Option Value
last_value [] object prop = None
last_value (a ∷ assigns) object prop = or_else (last_value assigns object prop)
    (value_if ((object_of a == object) && (prop_of a.prop == prop)) a.value)

-- the label of the fence that is to be made, if any
abbrev pub new_label : Option Value → Option ℕ
new_label (Some (value.New label)) = Some label
new_label (Some (value.Num n)) = None
new_label (Some (value.Named label)) = None
new_label (Some (value.Crtc index)) = None
new_label None = None

-- the label of the out-fence that a request asks for a CRTC, by its last OUT_FENCE_PTR
abbrev pub out_fence_label : List Assign → ℕ → Option ℕ
out_fence_label assigns crtc = new_label (last_value assigns crtc OUT_FENCE_PTR)

abbrev pub is_asked : Option ℕ → Bool
is_asked (Some label) = true
is_asked None = false

-- a request names a CRTC and asks for an event or an out-fence there
abbrev pub asks_signal : List Setting → List Setting → Request → ℕ → Bool
asks_signal old new r crtc = names old new r.assigns crtc && (wants_event r.flags || is_asked (out_fence_label r.assigns crtc))

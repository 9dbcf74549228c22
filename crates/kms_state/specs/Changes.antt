-- What a set changes. From: "Atomic Mode Setting"; `drm_atomic_uapi.c`, drm_atomic_plane_set_property,
-- drm_atomic_crtc_set_property, drm_atomic_set_crtc_for_plane, drm_atomic_set_crtc_for_connector.
use Rattle.std.specs.Prelude.{◌≡◌, ℕ, ◌-◌, ◌^◌, ◌≤◌, set, option_map, Bool, true, false, not, ◌==◌, bit_and, bit_or, ℤ, pos, List, length}
use Rattle.std.specs.Prelude.{Option, Some, None, IsTrue, if◌then◌else◌}
use Rattle.std.specs.Ordering.{int_eq}
use Rattle.kms_model.specs.declared.objects.Kind.{Kind}
use Rattle.kms_model.specs.declared.objects.Kind.TheVariants.{Crtc, Plane, Conn, Enc}
use Rattle.kms_model.specs.declared.objects.Topology.{Topology}
use Rattle.kms_model.specs.declared.properties.TheConstants.{CRTC_X, CRTC_Y, CRTC_W, CRTC_H, SRC_X, SRC_Y, SRC_W, SRC_H, ALPHA, BLEND, ZPOS}
use Rattle.kms_model.specs.declared.sets.Set.{Set}
use Rattle.kms_model.specs.declared.sets.SetValue.{SetValue}
use Rattle.kms_model.specs.declared.sets.SetValue.TheVariants as to
use Rattle.kms_model.specs.declared.states.Both.{Both}
use Rattle.kms_model.specs.declared.states.CrtcState.{CrtcState}
use Rattle.kms_model.specs.declared.states.Duplicates.{Duplicates}
use Rattle.kms_model.specs.declared.states.PlaneState.{PlaneState}
use Rattle.kms_model.specs.declared.worlds.Setting.{Setting}
use Rattle.kms_model.specs.declared.worlds.Thing as worlds
use Rattle.kms_model.specs.Device.Objects.{first_id, exists, kind_of}
use Rattle.kms_model.specs.Device.States.{natural}
use Rattle.kms_model.specs.Request.Sets.{obj_id, set_in}
use Rattle.kms_model.specs.Request.Agreement.{AgreesNew, StandsFor}
use Rattle.kms_state.specs.Places.{state_of, old_states}

-- A set of objects with the object with an index, or without it. From: drm_plane_mask, drm_connector_mask.
abbrev pub with_member : ℕ → ℕ → Bool → ℕ
with_member mask index true = bit_or mask (2 ^ index)
with_member mask index false = bit_and mask (2 ^ 32 - 1 - 2 ^ index)

-- a CRTC's state with a plane or a connector of it, or without
abbrev pub with_routed : Kind → ℕ → Bool → CrtcState → CrtcState
with_routed Plane index is_there s = record s { planes = with_member s.planes index is_there }
with_routed Conn index is_there s = record s { conns = with_member s.conns index is_there }
with_routed Crtc index is_there s = s
with_routed Enc index is_there s = s

-- what is duplicated, with its new state changed
abbrev pub with_new : {S : Type 0} → (S → S) → Both S → Both S
with_new f both = record both { new = f both.new }

-- states of which the one at an index is another, where it is duplicated
abbrev pub put_at : {S : Type 0} → List (Option S) → ℕ → Option S → List (Option S)
put_at states index None = states
put_at states index (Some s) = set states index (Some s)

-- the new state of an object of a kind changed, by its id, where it is duplicated
abbrev pub changed : {S : Type 0} → Kind → List (Option (Both S)) → ℕ → (S → S)
    → List (Option (Both S))
changed kind states id f =
    put_at states (id - first_id kind) (option_map (with_new f) (state_of kind states id))

-- the CRTCs after a plane or a connector goes from one to another
abbrev pub rerouted : List (Option (Both CrtcState)) → Kind → ℕ → ℕ → ℕ
    → List (Option (Both CrtcState))
rerouted crtcs kind index from to = changed Crtc (changed Crtc crtcs from (with_routed kind index false)) to (with_routed kind index true)

-- an object that duplicates have room for is on a device
abbrev pub is_on_device : Topology → ℕ → Bool
is_on_device t id = exists t (kind_of id) (id - first_id (kind_of id))

-- a device has no more planes and connectors than duplicates have room for, and has an object
pub record HasObject (t : Topology) (id : ℕ) : Type 0 where
  pub planes : length t.planes ≤ 16
  pub conns : length t.conns ≤ 8
  pub there : IsTrue (is_on_device t id)

-- New states that agree with values before a set agree after it with the values after it.
abbrev pub Sets : Duplicates → Set → Duplicates → Type 0
Sets before s after =
    (t : Topology) (things : List worlds.Thing) (values : List Setting) (number : ℤ)
    → HasObject t s.object.0 → AgreesNew t things values before → StandsFor things s.value number
    → AgreesNew t things (set_in values s number) after

-- a plane's state after one of its numbers is set
abbrev pub plane_after_set : ℕ → ℤ → PlaneState → PlaneState
plane_after_set prop n s = record s {
  dst = record {
    x = if prop == CRTC_X then n else s.dst.x;
    y = if prop == CRTC_Y then n else s.dst.y;
    w = if prop == CRTC_W then n else s.dst.w;
    h = if prop == CRTC_H then n else s.dst.h;
  };
  src = record {
    x = if prop == SRC_X then n else s.src.x;
    y = if prop == SRC_Y then n else s.src.y;
    w = if prop == SRC_W then n else s.src.w;
    h = if prop == SRC_H then n else s.src.h;
  };
  alpha = if prop == ALPHA then natural n else s.alpha;
  blend = if prop == BLEND then natural n else s.blend;
  zpos = if prop == ZPOS then natural n else s.zpos;
}

-- A set as its parts.
abbrev pub set_to : ℕ → ℕ → SetValue → Set
set_to object prop value = record { object = obj_id object; prop = prop; value = value }

-- a number set: `ACTIVE` of a CRTC, or a number of a plane
abbrev pub after_number : Kind → Duplicates → ℕ → ℕ → ℤ → Duplicates
after_number Crtc d id prop n =
    record d { crtcs = changed Crtc d.crtcs id (λ s. record s { active = not (int_eq n (pos 0)) }) }
after_number Plane d id prop n = record d { planes = changed Plane d.planes id (plane_after_set prop n) }
after_number Conn d id prop n = d
after_number Enc d id prop n = d

-- the CRTC of a new state, 0 where nothing is duplicated
abbrev pub new_number : {S : Type 0} → (S → ℕ) → Option (Both S) → ℕ
new_number crtc_of (Some both) = crtc_of both.new
new_number crtc_of None = 0

-- `CRTC_ID` set: the plane or the connector leaves the set of the CRTC that it was on, and comes into that of the other
abbrev pub after_crtc : Kind → Duplicates → ℕ → ℕ → Duplicates
after_crtc Plane d id crtc = record d {
  planes = changed Plane d.planes id (λ s. record s { crtc = crtc });
  crtcs = rerouted d.crtcs Plane (id - first_id Plane) (new_number (λ s. s.crtc) (state_of Plane d.planes id)) crtc;
}
after_crtc Conn d id crtc = record d {
  conns = changed Conn d.conns id (λ s. record s { crtc = crtc });
  crtcs = rerouted d.crtcs Conn (id - first_id Conn) (new_number (λ s. s.crtc) (state_of Conn d.conns id)) crtc;
}
after_crtc Crtc d id crtc = d
after_crtc Enc d id crtc = d

-- The states after a property of an object is set to a value.
abbrev pub after_value : Duplicates → ℕ → ℕ → SetValue → Duplicates
after_value d id prop (to.Num n) = after_number (kind_of id) d id prop n
after_value d id prop (to.Fb fb) =
    record d { planes = changed Plane d.planes id (λ s. record s { fb = fb }) }
after_value d id prop (to.Mode mode) =
    record d { crtcs = changed Crtc d.crtcs id (λ s. record s { mode = mode }) }
after_value d id prop (to.Gamma gamma) =
    record d { crtcs = changed Crtc d.crtcs id (λ s. record s { gamma = gamma }) }
after_value d id prop (to.Crtc crtc) = after_crtc (kind_of id) d id crtc
after_value d id prop to.Fence = d

-- The states after a set: the new state of its object has the value, the sets of the CRTCs are in step, and all else
-- stays. From: drm_atomic_set_property.
abbrev pub after_set : Duplicates → Set → Duplicates
after_set d s = after_value d s.object.0 s.prop s.value

-- What a set does: the states are those after it, the new ones follow values, and no old state changes.
pub record IsSet (before : Duplicates) (s : Set) (after : Duplicates) : Type 0 where
  pub states : after ≡ after_set before s
  pub new : Sets before s after
  pub old : old_states after ≡ old_states before

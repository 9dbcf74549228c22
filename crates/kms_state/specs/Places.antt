-- Where duplicated states of objects are kept. From: "Atomic Mode Setting"; drm_atomic_get_existing_crtc_state and its
-- like.
use Rattle.std.specs.Prelude.{ℕ, ◌-◌, Bool, true, false, nat_le, List, map, replicate, set, slice_get, Option, Some, None, is_some}
use Rattle.std.specs.Prelude.{option_map, if◌then◌else◌}
use Rattle.kms_model.specs.Device.Places.{alike, state_at}
use Rattle.kms_model.specs.declared.objects.Kind.{Kind}
use Rattle.kms_model.specs.declared.objects.Kind.TheVariants.{Crtc, Plane, Conn, Enc}
use Rattle.kms_model.specs.declared.states.Both.{Both}
use Rattle.kms_model.specs.declared.states.ConnState.{ConnState}
use Rattle.kms_model.specs.declared.states.CrtcState.{CrtcState}
use Rattle.kms_model.specs.declared.states.Duplicates.{Duplicates}
use Rattle.kms_model.specs.declared.states.ObjState.{ObjState}
use Rattle.kms_model.specs.declared.states.ObjState.TheVariants as state
use Rattle.kms_model.specs.declared.states.PlaneState.{PlaneState}
use Rattle.kms_model.specs.Device.Objects.{first_id, kind_of}

-- what is duplicated of an object of a kind, by its id
abbrev pub state_of : {S : Type 0} → Kind → List (Option S) → ℕ → Option S
state_of kind states id =
    if nat_le (first_id kind) id then state_at states (id - first_id kind) else None

abbrev pub is_duplicated_of : Kind → Duplicates → ℕ → Bool
is_duplicated_of Crtc d id = is_some (state_of Crtc d.crtcs id)
is_duplicated_of Plane d id = is_some (state_of Plane d.planes id)
is_duplicated_of Conn d id = is_some (state_of Conn d.conns id)
is_duplicated_of Enc d id = false

-- the states of an object are duplicated
abbrev pub is_duplicated : Duplicates → ℕ → Bool
is_duplicated d id = is_duplicated_of (kind_of id) d id

-- no object is duplicated
abbrev pub none_duplicated : Duplicates
none_duplicated =
    record { crtcs = replicate 4 None; planes = replicate 16 None; conns = replicate 8 None }

abbrev pub is_free_place : {S : Type 0} → Option (Option S) → Bool
is_free_place None = false
is_free_place (Some None) = true
is_free_place (Some (Some s)) = false

-- there is a place for an object of a kind, and none_duplicated in it
abbrev pub is_free : {S : Type 0} → Kind → List (Option S) → ℕ → Bool
is_free kind states id = if nat_le (first_id kind) id then is_free_place (slice_get states (id - first_id kind)) else false

-- a state of an object can be duplicated: the id is that of an object of the state's kind, and it is absent
abbrev pub may_duplicate : Duplicates → ℕ → ObjState → Bool
may_duplicate d id (state.Crtc s) = is_free Crtc d.crtcs id
may_duplicate d id (state.Plane s) = is_free Plane d.planes id
may_duplicate d id (state.Conn s) = is_free Conn d.conns id

-- an object's state duplicated
abbrev pub duplicated : Duplicates → ℕ → ObjState → Duplicates
duplicated d id (state.Crtc s) =
    record d { crtcs = set d.crtcs (id - first_id Crtc) (Some (alike s)) }
duplicated d id (state.Plane s) =
    record d { planes = set d.planes (id - first_id Plane) (Some (alike s)) }
duplicated d id (state.Conn s) =
    record d { conns = set d.conns (id - first_id Conn) (Some (alike s)) }

-- the old states
pub record OldStates : Type 0 where
  pub crtcs : List (Option CrtcState)
  pub planes : List (Option PlaneState)
  pub conns : List (Option ConnState)

abbrev pub olds : {S : Type 0} → List (Option (Both S)) → List (Option S)
olds states = map (option_map (λ b. b.old)) states

abbrev pub old_states : Duplicates → OldStates
old_states d = record { crtcs = olds d.crtcs; planes = olds d.planes; conns = olds d.conns }

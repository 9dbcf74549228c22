-- The present states of objects.
use Rattle.std.specs.Prelude.{ℕ, Option, None}
use Rattle.std.specs.Option.{option_map}
use Rattle.kms_model.specs.Device.Places.{state_at}
use Rattle.kms_model.specs.declared.objects.Kind.{Kind}
use Rattle.kms_model.specs.declared.objects.Kind.TheVariants.{Crtc, Plane, Conn, Enc}
use Rattle.kms_model.specs.declared.objects.Topology.{Topology}
use Rattle.kms_model.specs.declared.states.Duplicates.{Duplicates}
use Rattle.kms_model.specs.declared.states.ObjState.{ObjState}
use Rattle.kms_model.specs.declared.states.ObjState.TheVariants as state
use Rattle.kms_model.specs.declared.worlds.World.{World}
use Rattle.kms_model.specs.Device.Objects.{index_of, kind_of}
use Rattle.kms_model.specs.Device.States.{plane_at}
use Rattle.kms_model.specs.Request.Agreement.{conn_state_at, crtc_state_at}

-- the state of an object of a kind in a world
abbrev pub state_of_kind : Topology → World → Kind → ℕ → ObjState
state_of_kind t w Crtc object = state.Crtc (crtc_state_at t w.things w.values object)
state_of_kind t w Plane object = state.Plane (plane_at w.things w.values object)
state_of_kind t w Conn object = state.Conn (conn_state_at w.values object)
state_of_kind t w Enc object = state.Conn (conn_state_at w.values object)

-- the new state of an object of a kind with an index, where it is duplicated
abbrev pub stored_of_kind : Duplicates → Kind → ℕ → Option ObjState
stored_of_kind d Crtc index = option_map (λ s. state.Crtc s) (option_map (λ b. b.new) (state_at d.crtcs index))
stored_of_kind d Plane index = option_map (λ s. state.Plane s) (option_map (λ b. b.new) (state_at d.planes index))
stored_of_kind d Conn index = option_map (λ s. state.Conn s) (option_map (λ b. b.new) (state_at d.conns index))
stored_of_kind d Enc index = None

abbrev pub stored_state : Duplicates → ℕ → Option ObjState
stored_state d object = stored_of_kind d (kind_of object) (index_of object)

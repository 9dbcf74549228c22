-- Typed states of the device's objects, and duplicates that stand for a world's values. From: "Atomic Mode Setting";
-- struct drm_crtc_state, drm_plane_state and drm_connector_state.
use Rattle.std.specs.Prelude.{◌≡◌, ℕ, ◌==◌, ℤ, pos, List, Option, Some, slice_get, ⊤}
use Rattle.kms_model.specs.declared.objects.Kind.{Kind}
use Rattle.kms_model.specs.declared.objects.Kind.TheVariants.{Crtc, Plane, Conn}
use Rattle.kms_model.specs.declared.objects.Topology.{Topology}
use Rattle.kms_model.specs.declared.sets.SetValue.{SetValue}
use Rattle.kms_model.specs.declared.sets.SetValue.TheVariants as to
use Rattle.kms_model.specs.declared.states.Both.{Both}
use Rattle.kms_model.specs.declared.states.ConnState.{ConnState}
use Rattle.kms_model.specs.declared.states.CrtcState.{CrtcState}
use Rattle.kms_model.specs.declared.states.Duplicates.{Duplicates}
use Rattle.kms_model.specs.declared.worlds.Setting.{Setting}
use Rattle.kms_model.specs.declared.worlds.Thing.{Thing}
use Rattle.kms_model.specs.Device.Objects.{object_id}
use Rattle.kms_model.specs.Device.World.{thing_numbered}
use Rattle.kms_model.specs.Device.States.{framebuffer_of, mode_of, mode_at, crtc_at, plane_at, gamma_at, gamma_of}
use Rattle.kms_model.specs.Request.Checks.{is_active}
use Rattle.kms_model.specs.Request.Touched.{set_where}

-- the objects of a kind whose CRTC it is, as a set
abbrev pub on_crtc : Topology → List Setting → ℕ → Kind → ℕ
on_crtc t values crtc kind = set_where t kind (λ object. crtc_at values object == crtc)

-- the state of a CRTC
abbrev pub crtc_state_at : Topology → List Thing → List Setting → ℕ → CrtcState
crtc_state_at t things values crtc = record {
  active = is_active values crtc;
  mode = mode_at things values crtc;
  gamma = gamma_at things values crtc;
  planes = on_crtc t values crtc Plane;
  conns = on_crtc t values crtc Conn;
}

-- the state of a connector
abbrev pub conn_state_at : List Setting → ℕ → ConnState
conn_state_at values conn = record { crtc = crtc_at values conn }

-- the old, or the new, state of each duplicated object is what a function of its index gives
abbrev pub AreOld : {S : Type 0} → (ℕ → S) → List (Option (Both S)) → Type 0
AreOld {S = S} f states = (index : ℕ) → (both : Both S) → slice_get states index ≡ Some (Some both) → both.old ≡ f index

abbrev pub AreNew : {S : Type 0} → (ℕ → S) → List (Option (Both S)) → Type 0
AreNew {S = S} f states = (index : ℕ) → (both : Both S) → slice_get states index ≡ Some (Some both) → both.new ≡ f index

-- The old states of the duplicated objects are those of a device's values: their numbers, the contents that the values
-- name, and for a CRTC the sets of planes and connectors whose CRTC_ID it is.
pub record AgreesOld (t : Topology) (things : List Thing) (values : List Setting) (d : Duplicates) : Type 0 where
  pub crtcs : AreOld (λ index. crtc_state_at t things values (object_id Crtc index)) d.crtcs
  pub planes : AreOld (λ index. plane_at things values (object_id Plane index)) d.planes
  pub conns : AreOld (λ index. conn_state_at values (object_id Conn index)) d.conns

-- the same of the new states
pub record AgreesNew (t : Topology) (things : List Thing) (values : List Setting) (d : Duplicates) : Type 0 where
  pub crtcs : AreNew (λ index. crtc_state_at t things values (object_id Crtc index)) d.crtcs
  pub planes : AreNew (λ index. plane_at things values (object_id Plane index)) d.planes
  pub conns : AreNew (λ index. conn_state_at values (object_id Conn index)) d.conns

-- What a property is set to stands for the number that its value then is: a framebuffer, a mode or a gamma table
-- for the id of a thing with it.
abbrev pub StandsFor : List Thing → SetValue → ℤ → Type 0
StandsFor things (to.Num n) number = number ≡ n
StandsFor things (to.Fb fb) number = framebuffer_of (thing_numbered things number) ≡ fb
StandsFor things (to.Mode mode) number = mode_of (thing_numbered things number) ≡ mode
StandsFor things (to.Gamma gamma) number = gamma_of (thing_numbered things number) ≡ gamma
StandsFor things (to.Crtc id) number = number ≡ pos id
StandsFor things to.Fence number = ⊤

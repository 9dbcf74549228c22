-- Properties that are set in duplicated states of a whole device. From: "Atomic Mode Setting"; `drm_atomic_uapi.c`,
-- drm_atomic_set_property.
use Rattle.std.specs.Prelude.{◌≡◌, ℕ, ◌<◌, true, ℤ, List, is_some}
use Rattle.kms_model.specs.Device.Objects.{count_of, exists, object_id}
use Rattle.kms_model.specs.Device.Places.{state_at}
use Rattle.kms_model.specs.declared.objects.Kind.{Kind}
use Rattle.kms_model.specs.declared.objects.Kind.TheVariants.{Crtc, Plane, Conn}
use Rattle.kms_model.specs.declared.objects.Topology.{Topology}
use Rattle.kms_model.specs.declared.sets.Set.{Set}
use Rattle.kms_model.specs.declared.states.Duplicates.{Duplicates}
use Rattle.kms_model.specs.declared.worlds.Setting.{Setting}
use Rattle.kms_model.specs.declared.worlds.Thing.{Thing}
use Rattle.kms_model.specs.Request.Agreement.{AgreesNew, AgreesOld, StandsFor}
use Rattle.kms_model.specs.Request.Resolves.{HasPlace}
use Rattle.kms_model.specs.Request.Sets.{set_in}

-- every object of a device is duplicated
pub record AreAllDuplicated (t : Topology) (d : Duplicates) : Type 0 where
  pub crtcs : (index : ℕ) → index < count_of t Crtc → is_some (state_at d.crtcs index) ≡ true
  pub planes : (index : ℕ) → index < count_of t Plane → is_some (state_at d.planes index) ≡ true
  pub conns : (index : ℕ) → index < count_of t Conn → is_some (state_at d.conns index) ≡ true

-- the same objects are duplicated
pub record AreSameDuplicated (before after : Duplicates) : Type 0 where
  pub crtcs : (index : ℕ) → is_some (state_at after.crtcs index) ≡ is_some (state_at before.crtcs index)
  pub planes : (index : ℕ) → is_some (state_at after.planes index) ≡ is_some (state_at before.planes index)
  pub conns : (index : ℕ) → is_some (state_at after.conns index) ≡ is_some (state_at before.conns index)

-- a CRTC, a plane or a connector of a device, by its id
pub record IsOnDevice (t : Topology) (id : ℕ) : Type 0 where
  pub kind : Kind
  pub index : ℕ
  pub is : id ≡ object_id kind index
  pub placed : HasPlace kind index
  pub there : exists t kind index ≡ true

-- A property was set: the same objects are duplicated, old states agree with the values with which they agreed, and new ones with
-- those after the set.
pub record IsSetIn (t : Topology) (before : Duplicates) (s : Set) (after : Duplicates) : Type 0 where
  pub same : AreSameDuplicated before after
  pub old : (things : List Thing) (values : List Setting) → AgreesOld t things values before → AgreesOld t things values after
  pub new : (things : List Thing) (values : List Setting) (number : ℤ) → AgreesNew t things values before
      → StandsFor things s.value number → AgreesNew t things (set_in values s number) after

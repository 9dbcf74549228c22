-- The CRTCs that a request names, by what it sets and by the old states of the objects that it sets.
use Rattle.std.specs.Prelude.{◌≡◌, ℕ, ◌<◌, ◌^◌, Bool, true, ◌||◌, ◌==◌, Option, Some, None, IsTrue, All, is_some, if◌then◌else◌}
use Rattle.kms_model.specs.Device.Places.{state_at}
use Rattle.kms_model.specs.declared.objects.Kind.TheVariants.{Crtc, Plane, Conn}
use Rattle.kms_model.specs.declared.objects.Topology.{Topology}
use Rattle.kms_model.specs.declared.scripts.Request.{Request}
use Rattle.kms_model.specs.declared.sets.Resolved.{Resolved}
use Rattle.kms_model.specs.declared.sets.Set.{Set}
use Rattle.kms_model.specs.declared.sets.SetValue.{SetValue}
use Rattle.kms_model.specs.declared.sets.SetValue.TheVariants as to
use Rattle.kms_model.specs.declared.states.Both.{Both}
use Rattle.kms_model.specs.declared.states.ConnState.{ConnState}
use Rattle.kms_model.specs.declared.states.Duplicates.{Duplicates}
use Rattle.kms_model.specs.declared.states.PlaneState.{PlaneState}
use Rattle.kms_model.specs.declared.worlds.Look.{Look}
use Rattle.kms_model.specs.declared.worlds.World.{World}
use Rattle.kms_model.specs.Device.Masks.{has_bit}
use Rattle.kms_model.specs.Device.Objects.{index_of, is_id_of, object_id}
use Rattle.kms_model.specs.Device.Properties.{keeps_limits}
use Rattle.kms_model.specs.Device.Sound.{IsSound}
use Rattle.kms_model.specs.Request.Resolves.{IsResolved}
use Rattle.kms_model.specs.Request.Agreement.{AgreesOld}

-- a set of CRTCs: each of the four is in it where a test says so
pub record AreCrtcs (test : ℕ → Bool) (mask : ℕ) : Type 0 where
  pub below : mask < 2 ^ 4
  pub bits : (index : ℕ) → index < 4 → has_bit mask index ≡ test (object_id Crtc index)

abbrev pub number_in : {S : Type 0} → (Both S → ℕ) → Option (Both S) → ℕ
number_in number (Some both) = number both
number_in number None = 0

-- a number of a plane or of a connector that is duplicated, 0 for every other object
abbrev pub routed_number : (Both PlaneState → ℕ) → (Both ConnState → ℕ) → Duplicates → ℕ → ℕ
routed_number plane conn d object =
    if is_id_of Plane object then number_in plane (state_at d.planes (index_of object))
    else (if is_id_of Conn object then number_in conn (state_at d.conns (index_of object))
    else 0)

-- the CRTC in the old state of a plane or a connector, 0 without one
abbrev pub old_crtc_id : Duplicates → ℕ → ℕ
old_crtc_id = routed_number (λ both. both.old.crtc) (λ both. both.old.crtc)

-- the CRTC in the new state
abbrev pub next_crtc : Duplicates → ℕ → ℕ
next_crtc = routed_number (λ both. both.new.crtc) (λ both. both.new.crtc)

-- the CRTC that a value is, 0 for every other value
abbrev pub new_crtc_id : SetValue → ℕ
new_crtc_id (to.Crtc id) = id
new_crtc_id (to.Num n) = 0
new_crtc_id (to.Fb fb) = 0
new_crtc_id (to.Mode mode) = 0
new_crtc_id (to.Gamma gamma) = 0
new_crtc_id to.Fence = 0

-- A set names a CRTC: it sets it, or a plane or a connector that was on it, or it puts one on it.
abbrev pub set_names : Duplicates → Set → ℕ → Bool
set_names d s crtc =
    ((s.object.0 == crtc) || (old_crtc_id d s.object.0 == crtc)) || (new_crtc_id s.value == crtc)

-- a plane or a connector is duplicated (of other objects nothing is asked)
abbrev pub is_routed_duplicated : Duplicates → ℕ → Bool
is_routed_duplicated d object =
    if is_id_of Plane object then is_some (state_at d.planes (index_of object))
    else (if is_id_of Conn object then is_some (state_at d.conns (index_of object))
    else true)

-- Duplicates with what a request sets: over some device, a sound world and what the request's labels name, `resolved` is
-- what the request asks for, the old states are those of the world, and the planes and connectors that are set are
-- duplicated.
pub record Covers (t : Topology) (w : World) (f : ℕ → Look) (r : Request) (resolved : Resolved) (d : Duplicates) : Type 0 where
  pub limits : IsTrue (keeps_limits t)
  pub sound : IsSound t w
  pub asks : IsResolved t f r resolved
  pub old : AgreesOld t w.things w.values d
  pub duplicated : All (λ s. IsTrue (is_routed_duplicated d s.object.0)) resolved.sets

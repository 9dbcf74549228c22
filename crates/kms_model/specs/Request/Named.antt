-- The CRTCs that a request is about. From: "Atomic Mode Setting"; drm_atomic_get_crtc_state,
-- drm_atomic_crtc_needs_modeset.
use Rattle.std.specs.Prelude.{ℕ, Bool, true, false, not, ◌&&◌, ◌||◌, ◌==◌, List, filter}
use Rattle.std.specs.List.{list_any}
use Rattle.std.specs.Ordering.{int_eq}
use Rattle.kms_model.specs.declared.objects.Kind.{Kind}
use Rattle.kms_model.specs.declared.objects.Kind.TheVariants.{Crtc, Plane, Conn, Enc}
use Rattle.kms_model.specs.declared.objects.Topology.{Topology}
use Rattle.kms_model.specs.declared.properties.TheConstants.{ACTIVE}
use Rattle.kms_model.specs.declared.scripts.Assign.{Assign}
use Rattle.kms_model.specs.declared.scripts.Request.{Request}
use Rattle.kms_model.specs.declared.worlds.Setting.{Setting}
use Rattle.kms_model.specs.declared.worlds.Thing.{Thing}
use Rattle.kms_model.specs.declared.worlds.World.{World}
use Rattle.kms_model.specs.Device.Modes.{same_mode}
use Rattle.kms_model.specs.Device.Objects.{ids_of}
use Rattle.kms_model.specs.Device.World.{value}
use Rattle.kms_model.specs.Device.States.{mode_at, crtc_at}
use Rattle.kms_model.specs.Request.Apply.{object_of, after}

-- objects with a CRTC_ID
abbrev pub is_routed : Kind → Bool
is_routed Crtc = false
is_routed Plane = true
is_routed Conn = true
is_routed Enc = false

-- a plane or a connector that is on the CRTC before or after
abbrev pub moves_on : List Setting → List Setting → ℕ → ℕ → Bool
moves_on old new crtc object = (crtc_at old object == crtc) || (crtc_at new object == crtc)

-- An assignment names a CRTC: it sets the CRTC, or a plane or a connector that is on it before or after.
abbrev pub is_named_by : List Setting → List Setting → ℕ → Assign → Bool
is_named_by old new crtc a = (object_of a == crtc) || (is_routed a.kind && moves_on old new crtc (object_of a))

-- a request that makes new values of old ones names a CRTC
abbrev pub names : List Setting → List Setting → List Assign → ℕ → Bool
names old new assigns crtc = list_any (is_named_by old new crtc) assigns

-- the CRTCs that a request names in a world, in order
abbrev pub named : Topology → World → Request → List ℕ
named t w r = filter (names w.values (after w r) r.assigns) (ids_of t Crtc)

abbrev pub differs : Bool → Bool → Bool
differs true b = not b
differs false b = b

-- a connector that is on the CRTC before and not after, or after and not before
abbrev pub is_rerouted : List Setting → List Setting → ℕ → ℕ → Bool
is_rerouted old new crtc conn = differs (crtc_at old conn == crtc) (crtc_at new conn == crtc)

-- A CRTC needs a modeset where its mode's content, its ACTIVE or its set of connectors differs.
abbrev pub needs_modeset : Topology → List Thing → List Setting → List Setting → ℕ → Bool
needs_modeset t things old new crtc =
    not (same_mode (mode_at things old crtc) (mode_at things new crtc))
    || (not (int_eq (value old crtc ACTIVE) (value new crtc ACTIVE))
    || list_any (is_rerouted old new crtc) (ids_of t Conn))

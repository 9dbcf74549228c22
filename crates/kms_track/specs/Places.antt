-- The objects that commits touch, each at its place in the order of their ids: 4 CRTCs, 16 planes and 8 connectors of the
-- largest device. From: "KMS Locking"; drm_crtc_mask, drm_plane_mask, drm_connector_mask.
use Rattle.std.specs.Prelude.{ℕ, zero, suc, ◌-◌, ◌==◌, ◌||◌, ◌&&◌, nat_lt, Bool, true, Option, Some, None, slice_index_or, if◌then◌else◌}
use Rattle.kms_model.specs.declared.objects.Kind.TheVariants.{Crtc, Plane, Conn}
use Rattle.kms_model.specs.declared.states.Both.{Both}
use Rattle.kms_model.specs.declared.states.ConnState.{ConnState}
use Rattle.kms_model.specs.declared.states.Duplicates.{Duplicates}
use Rattle.kms_model.specs.declared.states.Mask.{Mask}
use Rattle.kms_model.specs.declared.states.PlaneState.{PlaneState}
use Rattle.kms_model.specs.Device.Masks.{has_bit}
use Rattle.kms_model.specs.Device.Objects.{object_id}
use Rattle.kms_model.specs.Firsts.{or_else}
use Rattle.kms_track.specs.declared.places.Sides.{Sides}

-- the id of the object at a place
abbrev pub object_at_place : ℕ → ℕ
object_at_place p = if nat_lt p 4 then object_id Crtc p else (if nat_lt p 20 then object_id Plane (p - 4) else object_id Conn (p - 20))

-- the id of a CRTC of an index
abbrev pub crtc_id : ℕ → ℕ
crtc_id i = object_id Crtc i

-- it is in a set
abbrev pub mask_has : Mask → ℕ → Bool
mask_has mask p = if nat_lt p 4 then has_bit mask.crtcs p
    else (if nat_lt p 20 then has_bit mask.planes (p - 4) else has_bit mask.conns (p - 20))

abbrev pub no_sides : Sides
no_sides = record { old = 0; new = 0 }

abbrev pub plane_sides : Option (Both PlaneState) → Sides
plane_sides None = no_sides
plane_sides (Some both) = record { old = both.old.crtc; new = both.new.crtc }

abbrev pub connector_sides : Option (Both ConnState) → Sides
connector_sides None = no_sides
connector_sides (Some both) = record { old = both.old.crtc; new = both.new.crtc }

-- the CRTCs of the object at a place, of its states before and after a commit
abbrev pub sides_at : Duplicates → ℕ → Sides
sides_at states p =
    if nat_lt p 4 then record { old = object_id Crtc p; new = object_id Crtc p }
    else (if nat_lt p 20 then plane_sides (slice_index_or states.planes (p - 4) None)
    else connector_sides (slice_index_or states.conns (p - 20) None))

-- a CRTC is one of an object's
abbrev pub is_side : Sides → ℕ → Bool
is_side sides crtc = (sides.old == crtc) || (sides.new == crtc)

-- The first n places: a test of all of them, and the first value that a function gives

unfoldable pub all_below : (ℕ → Bool) → ℕ → Bool
all_below test zero = true
all_below test (suc n) = all_below test n && test n

unfoldable pub first_below : {A : Type 0} → (ℕ → Option A) → ℕ → Option A
first_below f zero = None
first_below f (suc n) = or_else (first_below f n) (f n)

-- When the picture of a CRTC can be told by duplicated states.
use Rattle.std.specs.Prelude.{◌≡◌, ℕ, ◌≤◌, Bool, false, not, ◌&&◌, ◌||◌, ℤ, pos, negsuc, int_le, List, length, Option, Some, None}
use Rattle.std.specs.List.{list_all, range_with_len}
use Rattle.kms_model.specs.Device.Places.{state_at}
use Rattle.kms_model.specs.declared.objects.Kind.TheVariants.{Crtc}
use Rattle.kms_model.specs.declared.objects.Topology.{Topology}
use Rattle.kms_model.specs.declared.pictures.Picture.{Picture}
use Rattle.kms_model.specs.declared.pictures.Rect.{Rect}
use Rattle.kms_model.specs.declared.states.Both.{Both}
use Rattle.kms_model.specs.declared.states.CrtcState.{CrtcState}
use Rattle.kms_model.specs.declared.states.Duplicates.{Duplicates}
use Rattle.kms_model.specs.declared.states.PlaneState.{PlaneState}
use Rattle.kms_model.specs.declared.worlds.Setting.{Setting}
use Rattle.kms_model.specs.declared.worlds.Thing.{Thing}
use Rattle.kms_model.specs.Device.Masks.{has_bit}
use Rattle.kms_model.specs.Device.Objects.{object_id}
use Rattle.kms_model.specs.Frames.Pictures.{picture}
use Rattle.kms_model.specs.Request.Agreement.{AgreesNew}

-- a place or a size that a destination can have
abbrev pub is_near : ℤ → Bool
is_near z = int_le (negsuc 2147483647) z && int_le z (pos 2147483647)

abbrev pub is_near_rect : Rect → Bool
is_near_rect r = is_near r.x && (is_near r.y && (is_near r.w && is_near r.h))

abbrev pub is_near_plane : Option (Both PlaneState) → Bool
is_near_plane None = false
is_near_plane (Some both) = is_near_rect both.new.dst

-- a plane, if it is in a set, is duplicated, and its destination has the numbers that a property can have
abbrev pub is_placeable : List (Option (Both PlaneState)) → ℕ → ℕ → Bool
is_placeable planes mask index = not (has_bit mask index) || is_near_plane (state_at planes index)

abbrev pub are_placeable : List (Option (Both PlaneState)) → Option (Both CrtcState) → Bool
are_placeable planes None = false
are_placeable planes (Some both) =
    list_all (is_placeable planes both.new.planes) (range_with_len 0 16)

-- the CRTC is duplicated, and all planes that are on it then
abbrev pub may_picture : Duplicates → ℕ → Bool
may_picture d crtc = are_placeable d.planes (state_at d.crtcs crtc)

-- a device has no more planes and connectors than duplicates have room for
pub record FitsDuplicates (t : Topology) : Type 0 where
  pub planes : length t.planes ≤ 16
  pub conns : length t.conns ≤ 8

-- A picture is what a CRTC shows in each device with whose values the new states agree.
abbrev pub IsPictureOf : Duplicates → ℕ → Picture → Type 0
IsPictureOf d crtc p =
    (t : Topology) (things : List Thing) (values : List Setting) → FitsDuplicates t
    → AgreesNew t things values d → p ≡ picture t things values (object_id Crtc crtc)

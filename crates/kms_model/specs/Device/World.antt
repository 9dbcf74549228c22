-- The state of the one-thread device: the settings of its objects, and the things that were made.
use Rattle.std.specs.Prelude.{ℕ, ◌+◌, Bool, ◌&&◌, ◌==◌, ℤ, pos, List, [], ◌∷◌, ◌++◌, map, find, Option, if◌then◌else◌}
use Rattle.std.specs.List.{flat_map}
use Rattle.std.specs.Ordering.{int_eq}
use Rattle.std.specs.List.{range_with_len}
use Rattle.kms_model.specs.declared.objects.Kind.TheVariants.{Crtc, Plane, Conn}
use Rattle.kms_model.specs.declared.objects.PlaneInfo.{PlaneInfo}
use Rattle.kms_model.specs.declared.objects.Topology.{Topology}
use Rattle.kms_model.specs.declared.properties.TheConstants.{TYPE, FB_ID, CRTC_ID, CRTC_X, CRTC_Y, CRTC_W, CRTC_H, SRC_X, SRC_Y, SRC_W}
use Rattle.kms_model.specs.declared.properties.TheConstants.{SRC_H, ALPHA, BLEND, ZPOS, ACTIVE, MODE_ID, GAMMA_LUT}
use Rattle.kms_model.specs.declared.worlds.Setting.{Setting}
use Rattle.kms_model.specs.declared.worlds.Thing.{Thing}
use Rattle.kms_model.specs.declared.worlds.World.{World}
use Rattle.kms_model.specs.Device.Objects.{object_id, count_of}

-- the setting of a property of an object
abbrev pub is_of : ℕ → ℕ → Setting → Bool
is_of object prop s = (s.object == object) && (s.prop == prop)

-- the value of a property of an object, 0 where there is none
abbrev pub value : List Setting → ℕ → ℕ → ℤ
value [] object prop = pos 0
value (s ∷ ss) object prop = if is_of object prop s then s.number else value ss object prop

abbrev pub setting : ℕ → ℕ → ℤ → Setting
setting object prop number = record { object = object; prop = prop; number = number }

-- The values after a property of an object is set. Each keeps its place, so that devices with equal values
-- have equal lists.
abbrev pub put : List Setting → ℕ → ℕ → ℤ → List Setting
put [] object prop number = setting object prop number ∷ []
put (s ∷ ss) object prop number = if is_of object prop s then setting object prop number ∷ ss else s ∷ put ss object prop number

-- the thing, open or closed, that was made under a label
abbrev pub thing_labelled : List Thing → ℕ → Option Thing
thing_labelled things label = find (λ t. t.label == label) things

-- the thing with an id
abbrev pub thing_with_id : List Thing → ℕ → Option Thing
thing_with_id things id = find (λ t. t.id == id) things

-- the thing whose id is the value of a property
abbrev pub thing_numbered : List Thing → ℤ → Option Thing
thing_numbered things number = find (λ t. int_eq (pos t.id) number) things

abbrev pub settings : ℕ → List (ℕ × ℤ) → List Setting
settings object all = map (λ p. setting object p.0 p.1) all

-- a CRTC at the start: off, with no mode and no gamma table
abbrev pub start_crtc : ℕ → List Setting
start_crtc index = settings (object_id Crtc index) ((ACTIVE, pos 0) ∷ (MODE_ID, pos 0) ∷ (GAMMA_LUT, pos 0) ∷ [])

-- A plane at the start: its type by topology, no framebuffer and no CRTC, opaque, pre-multiplied, and its zpos is
-- its index. (IN_FENCE_FD and OUT_FENCE_PTR belong to a request alone and have no setting.)
abbrev pub start_plane : ℕ → PlaneInfo → List Setting
start_plane index info = settings (object_id Plane index) ((TYPE, pos info.kind) ∷ (FB_ID, pos 0) ∷ (CRTC_ID, pos 0)
    ∷ (CRTC_X, pos 0) ∷ (CRTC_Y, pos 0) ∷ (CRTC_W, pos 0) ∷ (CRTC_H, pos 0) ∷ (SRC_X, pos 0) ∷ (SRC_Y, pos 0) ∷ (SRC_W, pos 0)
    ∷ (SRC_H, pos 0)
    ∷ (ALPHA, pos 65535) ∷ (BLEND, pos 0) ∷ (ZPOS, pos index) ∷ [])

-- the planes at the start, of which the first has an index
abbrev pub start_planes : ℕ → List PlaneInfo → List Setting
start_planes index [] = []
start_planes index (info ∷ infos) = start_plane index info ++ start_planes (index + 1) infos

-- a connector at the start: on no CRTC
abbrev pub start_conn : ℕ → List Setting
start_conn index = settings (object_id Conn index) ((CRTC_ID, pos 0) ∷ [])

-- the device before the first command
abbrev pub start : Topology → World
start t = record {
  values = flat_map start_crtc (range_with_len 0 (count_of t Crtc)) ++ start_planes 0 t.planes
      ++ flat_map start_conn (range_with_len 0 (count_of t Conn));
  things = [];
  next_id = 1000;
  commits = 0;
}

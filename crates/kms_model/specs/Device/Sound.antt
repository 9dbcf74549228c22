-- Sound worlds: those that hold what the device accepts. From: "Atomic Mode Setting": a state that was checked is one
-- that the hardware can show.
use Rattle.std.specs.Prelude.{◌≡◌, ◌<◌, ◌≤◌, ◌≤ℤ◌, ℕ, ◌+◌, Bool, false, ◌&&◌, ◌||◌, ◌==◌, ℤ, pos, negsuc, int_le, List, [], ◌∷◌, length}
use Rattle.std.specs.Prelude.{filter, is_some, Option, Some, None, IsTrue, All, ⊤, true}
use Rattle.std.specs.List.{list_any, list_all}
use Rattle.std.specs.Ordering.{int_eq}
use Rattle.kms_model.specs.declared.objects.Kind.{Kind}
use Rattle.kms_model.specs.declared.objects.Kind.TheVariants.{Crtc, Plane, Conn}
use Rattle.kms_model.specs.declared.objects.Mode.{Mode}
use Rattle.kms_model.specs.declared.objects.PlaneInfo.{PlaneInfo}
use Rattle.kms_model.specs.declared.objects.Topology.{Topology}
use Rattle.kms_model.specs.declared.properties.TheConstants.{FB_ID, MODE_ID, GAMMA_LUT}
use Rattle.kms_model.specs.declared.ranges.Range.{Range}
use Rattle.kms_model.specs.declared.ranges.Range.TheVariants.{Numbers, Thing, CrtcName}
use Rattle.kms_model.specs.declared.scripts.Request.{Request}
use Rattle.kms_model.specs.declared.worlds.Setting.{Setting}
use Rattle.kms_model.specs.declared.worlds.Thing as worlds
use Rattle.kms_model.specs.declared.worlds.World.{World}
use Rattle.kms_model.specs.declared.states.PlaneState.{PlaneState}
use Rattle.kms_model.specs.Device.Modes.{is_legal_mode}
use Rattle.kms_model.specs.Device.Objects.{object_id, count_of, ids_of}
use Rattle.kms_model.specs.Device.World.{value, thing_numbered}
use Rattle.kms_model.specs.Device.States.{framebuffer_of, mode_of, gamma_of}
use Rattle.kms_model.specs.Device.Properties.{Property, properties, is_legal_device}
use Rattle.kms_model.specs.Request.Apply.{is_kept}
use Rattle.kms_model.specs.Request.Refusals.{is_of_kind}
use Rattle.kms_model.specs.Request.Verdict.{verdict}
use Rattle.kms_model.specs.Script.Words.{between}

-- a plane is an overlay, a primary plane or a cursor
abbrev pub HasPlaneKind : PlaneInfo → Type 0
HasPlaneKind info = info.kind ≤ 2

-- a device that a script can have
pub record IsDevice (t : Topology) : Type 0 where
  pub profile : between 1 2 t.profile ≡ true
  pub legal : IsTrue (is_legal_device t)
  pub kinds : All HasPlaneKind t.planes

-- the things were made one after the other: their ids go up by one, from n on
abbrev pub AreNumbered : ℕ → List worlds.Thing → Type 0
AreNumbered n [] = ⊤
AreNumbered n (t ∷ ts) = (t.id ≡ n) × AreNumbered (n + 1) ts

-- there is a mode, and it is legal
abbrev pub has_legal_mode : Option Mode → Bool
has_legal_mode None = false
has_legal_mode (Some m) = is_legal_mode m

-- a property takes a thing, open or closed: a framebuffer, a blob that holds a legal mode, or a gamma table
abbrev pub is_taken : ℕ → Option worlds.Thing → Bool
is_taken prop t =
    ((prop == FB_ID) && is_some (framebuffer_of t))
    || (((prop == MODE_ID) && has_legal_mode (mode_of t))
    || ((prop == GAMMA_LUT) && is_some (gamma_of t)))

-- a value is the number of no thing, or that of a thing that the property takes
abbrev pub is_thing : List worlds.Thing → ℕ → ℤ → ℤ → Bool
is_thing things prop none number = int_eq number none || is_taken prop (thing_numbered things number)

abbrev pub is_crtc : Topology → ℤ → Bool
is_crtc t number = list_any (λ crtc. int_eq number (pos crtc)) (ids_of t Crtc)

-- a value that a property holds is among those of the property
abbrev pub is_held : Topology → List worlds.Thing → ℕ → Range → ℤ → Bool
is_held t things prop (Numbers low high) number = int_le low number && int_le number high
is_held t things prop (Thing none) number = is_thing things prop none number
is_held t things prop CrtcName number = int_eq number (pos 0) || is_crtc t number

-- (IN_FENCE_FD and OUT_FENCE_PTR belong to a request alone: no value is held under them.)
abbrev pub holds_value : Topology → List worlds.Thing → List Setting → ℕ → Property → Bool
holds_value t things values object p = is_held t things p.id p.range (value values object p.id)

-- the properties of a kind of object that keep a value
abbrev pub kept_properties : Kind → List Property
kept_properties kind = filter (λ p. is_of_kind kind (Some p) && is_kept p.id) properties

abbrev pub holds_values : Topology → List worlds.Thing → List Setting → Kind → Bool
holds_values t things values kind = list_all (λ object. list_all (holds_value t things values object) (kept_properties kind))
    (ids_of t kind)

-- each value of each object is among its property's values
abbrev pub are_held : Topology → List worlds.Thing → List Setting → Bool
are_held t things values = holds_values t things values Crtc && (holds_values t things values Plane && holds_values t things values Conn)

-- the request without flags and assignments
abbrev pub empty_request : Request
empty_request = record { flags = 0; user_data = 0; assigns = [] }

-- A world is sound where each value is among its property's values, and the request without flags and assignments is accepted.
pub record IsSound (t : Topology) (w : World) : Type 0 where
  pub held : IsTrue (are_held t w.things w.values)
  pub accepted : verdict t w empty_request ≡ None

-- The things of a world are numbered from 1000 on in the order of making, and so is the next one.
pub record IsNumbered (w : World) : Type 0 where
  pub things : AreNumbered 1000 w.things
  pub next : w.next_id ≡ 1000 + length w.things

-- what the start is and each command keeps
pub record IsLawful (t : Topology) (w : World) : Type 0 where
  pub sound : IsSound t w
  pub numbered : IsNumbered w

-- What the states of a sound world's objects have

-- a number between two, both of them among those that it may be
pub record IsBetween (least most z : ℤ) : Type 0 where
  pub low : least ≤ℤ z
  pub high : z ≤ℤ most

-- the id of a CRTC of the device, or 0
pub data IsCrtcOrNone (t : Topology) (id : ℕ) : Type 0 where
  IsNone : id ≡ 0 → IsCrtcOrNone t id
  IsCrtc : (index : ℕ) → index < count_of t Crtc → id ≡ object_id Crtc index → IsCrtcOrNone t id

-- the numbers of a plane's state are in the ranges of their properties
pub record IsPlaneInRange (s : PlaneState) : Type 0 where
  pub x : IsBetween (negsuc 2147483647) (pos 2147483647) s.dst.x
  pub y : IsBetween (negsuc 2147483647) (pos 2147483647) s.dst.y
  pub w : IsBetween (pos 0) (pos 2147483647) s.dst.w
  pub h : IsBetween (pos 0) (pos 2147483647) s.dst.h
  pub src_x : IsBetween (pos 0) (pos 4294967295) s.src.x
  pub src_y : IsBetween (pos 0) (pos 4294967295) s.src.y
  pub src_w : IsBetween (pos 0) (pos 4294967295) s.src.w
  pub src_h : IsBetween (pos 0) (pos 4294967295) s.src.h
  pub alpha : s.alpha ≤ 65535
  pub blend : s.blend ≤ 2
  pub zpos : s.zpos ≤ 255

-- The tables of properties, formats and flags, and which devices there are. From: "KMS Properties", `drm_mode.h` and
-- `drm_fourcc.h`; the ids of properties and the limits of a device are this project's own.
use Rattle.std.specs.Prelude.{ℕ, ◌+◌, ◌^◌, Bool, true, false, ◌&&◌, ◌==◌, bit_and, nat_lt, pos, negsuc, List, [], ◌∷◌, length, find, Option}
use Rattle.std.specs.Prelude.{is_some, option_map, codes, nat_le}
use Rattle.std.specs.List.{list_any, list_all}
use Rattle.std.specs.Str.{bytes_eq}
use Rattle.kms_model.specs.declared.flags.TheConstants.{PAGE_FLIP_EVENT, PAGE_FLIP_ASYNC, TEST_ONLY, NONBLOCK, ALLOW_MODESET}
use Rattle.kms_model.specs.declared.objects.Format.{Format}
use Rattle.kms_model.specs.declared.objects.Format.TheVariants.{Xr24, Ar24, Rg16}
use Rattle.kms_model.specs.declared.objects.Kind.{Kind}
use Rattle.kms_model.specs.declared.objects.Kind.TheVariants.{Crtc, Plane, Conn, Enc}
use Rattle.kms_model.specs.declared.objects.PlaneInfo.{PlaneInfo}
use Rattle.kms_model.specs.declared.objects.Topology.{Topology}
use Rattle.kms_model.specs.declared.objects.TheConstants.{MAX_CRTCS, MAX_PLANES, MAX_CONNECTORS}
use Rattle.kms_model.specs.declared.properties.TheConstants.{TYPE, FB_ID, CRTC_ID, CRTC_X, CRTC_Y, CRTC_W, CRTC_H, SRC_X, SRC_Y, SRC_W}
use Rattle.kms_model.specs.declared.properties.TheConstants.{SRC_H, IN_FENCE_FD, ALPHA, BLEND, ZPOS, ACTIVE, MODE_ID, OUT_FENCE_PTR}
use Rattle.kms_model.specs.declared.properties.TheConstants.{GAMMA_LUT}
use Rattle.kms_model.specs.declared.ranges.Range.{Range}
use Rattle.kms_model.specs.declared.ranges.Range.TheVariants.{Numbers, Thing, CrtcName}
use Rattle.kms_model.specs.Script.Words.{between}

-- Properties

-- a row of the table of properties
pub record Property : Type 0 where
  -- its name; a blank in it is written `_`
  pub name : List ℕ
  pub id : ℕ
  -- the kinds of object that have it
  pub kinds : List Kind
  -- whether no request may set it
  pub immutable : Bool
  -- what it may be set to
  pub range : Range
  -- the first profile of the device that has it
  pub since : ℕ

abbrev pub immutable_row : List ℕ → ℕ → List Kind → Range → Property
immutable_row name id kinds range = record { name = name; id = id; kinds = kinds; immutable = true; range = range; since = 1 }

abbrev pub mutable_row : List ℕ → ℕ → List Kind → Range → Property
mutable_row name id kinds range = record { name = name; id = id; kinds = kinds; immutable = false; range = range; since = 1 }

-- The properties. From: "Plane Composition Properties" and "Standard CRTC Properties", "Standard Connector
-- Properties", "Standard Plane Properties"; SRC_X to SRC_H are in 16.16 fixed point.
abbrev pub properties : List Property
properties =
    -- 0 Overlay, 1 Primary, 2 Cursor. From: `drm_plane.h`, enum drm_plane_type.
    immutable_row (codes "type") TYPE (Plane ∷ []) (Numbers (pos 0) (pos 2))
    ∷ mutable_row (codes "FB_ID") FB_ID (Plane ∷ []) (Thing (pos 0))
    ∷ mutable_row (codes "CRTC_ID") CRTC_ID (Plane ∷ Conn ∷ []) CrtcName
    ∷ mutable_row (codes "CRTC_X") CRTC_X (Plane ∷ []) (Numbers (negsuc 2147483647) (pos 2147483647))
    ∷ mutable_row (codes "CRTC_Y") CRTC_Y (Plane ∷ []) (Numbers (negsuc 2147483647) (pos 2147483647))
    ∷ mutable_row (codes "CRTC_W") CRTC_W (Plane ∷ []) (Numbers (pos 0) (pos 2147483647))
    ∷ mutable_row (codes "CRTC_H") CRTC_H (Plane ∷ []) (Numbers (pos 0) (pos 2147483647))
    ∷ mutable_row (codes "SRC_X") SRC_X (Plane ∷ []) (Numbers (pos 0) (pos 4294967295))
    ∷ mutable_row (codes "SRC_Y") SRC_Y (Plane ∷ []) (Numbers (pos 0) (pos 4294967295))
    ∷ mutable_row (codes "SRC_W") SRC_W (Plane ∷ []) (Numbers (pos 0) (pos 4294967295))
    ∷ mutable_row (codes "SRC_H") SRC_H (Plane ∷ []) (Numbers (pos 0) (pos 4294967295))
    -- a file descriptor, -1 without one
    ∷ mutable_row (codes "IN_FENCE_FD") IN_FENCE_FD (Plane ∷ []) (Thing (negsuc 0))
    ∷ mutable_row (codes "alpha") ALPHA (Plane ∷ []) (Numbers (pos 0) (pos 65535))
    -- 0 Pre-multiplied, 1 Coverage, 2 None. From: `drm_blend.h`.
    ∷ mutable_row (codes "pixel_blend_mode") BLEND (Plane ∷ []) (Numbers (pos 0) (pos 2))
    ∷ mutable_row (codes "zpos") ZPOS (Plane ∷ []) (Numbers (pos 0) (pos 255))
    ∷ mutable_row (codes "ACTIVE") ACTIVE (Crtc ∷ []) (Numbers (pos 0) (pos 1))
    ∷ mutable_row (codes "MODE_ID") MODE_ID (Crtc ∷ []) (Thing (pos 0))
    ∷ mutable_row (codes "OUT_FENCE_PTR") OUT_FENCE_PTR (Crtc ∷ []) (Thing (pos 0))
    -- From: "Color Management Properties".
    ∷ record { name = codes "GAMMA_LUT"; id = GAMMA_LUT; kinds = Crtc ∷ []; immutable = false; range = Thing (pos 0); since = 2 }
    ∷ []

abbrev pub same_kind : Kind → Kind → Bool
same_kind Crtc Crtc = true
same_kind Plane Plane = true
same_kind Conn Conn = true
same_kind Enc Enc = true
same_kind _ _ = false

-- a device of a profile has the property
abbrev pub is_in_profile : ℕ → Property → Bool
is_in_profile profile p = nat_le p.since profile

-- the row is of a kind of object, has this name, and is in a profile
abbrev pub is_named : ℕ → Kind → List ℕ → Property → Bool
is_named profile kind name p = list_any (same_kind kind) p.kinds && (bytes_eq p.name name && is_in_profile profile p)

abbrev pub has_id : ℕ → Property → Bool
has_id id p = p.id == id

-- the row of the property of this name that a kind of object has in a profile
abbrev pub property_named : ℕ → Kind → List ℕ → Option Property
property_named profile kind name = find (is_named profile kind name) properties

-- its id
abbrev pub property_id : ℕ → Kind → List ℕ → Option ℕ
property_id profile kind name = option_map (λ p. p.id) (property_named profile kind name)

-- the row of an id
abbrev pub property : ℕ → Option Property
property id = find (has_id id) properties

-- the row of an id that a device of a profile has
abbrev pub property_in : ℕ → ℕ → Option Property
property_in profile id = find (λ p. has_id id p && is_in_profile profile p) properties

-- the id is in the table
abbrev pub is_property : ℕ → Bool
is_property id = is_some (property id)

-- what the property of an id may be set to
abbrev pub range_of : ℕ → Option Range
range_of id = option_map (λ p. p.range) (property id)

-- whether no request may set the property of an id
abbrev pub immutable_of : ℕ → Option Bool
immutable_of id = option_map (λ p. p.immutable) (property id)

-- the name of the property of an id
abbrev pub name_of : ℕ → Option (List ℕ)
name_of id = option_map (λ p. p.name) (property id)

-- Formats

-- a row of the table of formats
pub record FormatRow : Type 0 where
  -- its four characters as a little-endian word. From: `drm_fourcc.h`, fourcc_code.
  pub code : ℕ
  pub format : Format

abbrev pub format_row : ℕ → Format → FormatRow
format_row code format = record { code = code; format = format }

-- XR24, AR24 and RG16. From: `drm_fourcc.h`, DRM_FORMAT_XRGB8888, DRM_FORMAT_ARGB8888 and DRM_FORMAT_RGB565.
abbrev pub formats : List FormatRow
formats = format_row 0x34325258 Xr24 ∷ format_row 0x34325241 Ar24 ∷ format_row 0x36314752 Rg16 ∷ []

abbrev pub has_code : ℕ → FormatRow → Bool
has_code code f = f.code == code

-- the format of a code
abbrev pub format_of : ℕ → Option Format
format_of code = option_map (λ f. f.format) (find (has_code code) formats)

-- Flags of a request

-- a flag's name and its bit. From: `drm_mode.h`.
abbrev pub flags : List (List ℕ × ℕ)
flags =
    (codes "PAGE_FLIP_EVENT", PAGE_FLIP_EVENT)
    ∷ (codes "PAGE_FLIP_ASYNC", PAGE_FLIP_ASYNC)
    ∷ (codes "TEST_ONLY", TEST_ONLY)
    ∷ (codes "NONBLOCK", NONBLOCK)
    ∷ (codes "ALLOW_MODESET", ALLOW_MODESET)
    ∷ []

-- the bits of all flags. From: `drm_mode.h`, DRM_MODE_ATOMIC_FLAGS.
abbrev pub all_flags : ℕ
all_flags = PAGE_FLIP_EVENT + PAGE_FLIP_ASYNC + TEST_ONLY + NONBLOCK + ALLOW_MODESET

-- no bit outside the flags is set
abbrev pub are_flags : ℕ → Bool
are_flags bits = bit_and bits all_flags == bits

-- Devices

-- no bit stands for an index that is not below a count
abbrev pub is_mask_below : ℕ → ℕ → Bool
is_mask_below count mask = nat_lt mask (2 ^ count)

-- a plane's masks name CRTCs of the device and the three formats alone
abbrev pub has_legal_masks : ℕ → PlaneInfo → Bool
has_legal_masks crtcs plane = is_mask_below crtcs plane.crtcs && is_mask_below (length formats) plane.formats

-- 1 to 4 CRTCs, 1 to 16 planes and 1 to 8 connectors
abbrev pub keeps_limits : Topology → Bool
keeps_limits t = between 1 MAX_CRTCS t.crtcs && (between 1 MAX_PLANES (length t.planes) && between 1 MAX_CONNECTORS (length t.conns))

-- A device keeps the limits, and no mask has a bit outside of it. (What a plane is, its kind, is neither a limit
-- nor a mask, and an empty mask has no bit outside.)
abbrev pub is_legal_device : Topology → Bool
is_legal_device t =
    keeps_limits t && (list_all (has_legal_masks t.crtcs) t.planes && list_all (is_mask_below t.crtcs) t.conns)

-- What an older call asks for: an atomic request, by the device's values as they are before the call. From: `drm_crtc.c`,
-- drm_mode_setcrtc; `drm_plane.c`, drm_mode_setplane, drm_mode_page_flip_ioctl, drm_mode_cursor_common,
-- drm_mode_cursor_universal; `drm_atomic_helper.c`, drm_atomic_helper_set_config, drm_atomic_helper_update_plane,
-- drm_atomic_helper_disable_plane, drm_atomic_helper_page_flip, by which drivers translate these calls too; `drm_atomic.c`,
-- __drm_atomic_helper_set_config, which sets the connectors in this order.
use Rattle.std.specs.Prelude.{ℕ, zero, suc, ◌+◌, ◌*◌, ◌==◌, ◌&&◌, Bool, false, not, ℤ, pos, List, [], ◌∷◌, ◌++◌, filter, find, map}
use Rattle.std.specs.Prelude.{option_and_then, Option, Some, None, Result, Ok, Err, slice_get, if◌then◌else◌}
use Rattle.std.specs.List.{cons_option}
use Rattle.std.specs.Option.{option_map_or}
use Rattle.kms_model.specs.declared.flags.TheConstants.{PAGE_FLIP_EVENT, NONBLOCK, ALLOW_MODESET}
use Rattle.kms_model.specs.declared.legacy.LegacyCall.{LegacyCall}
use Rattle.kms_model.specs.declared.legacy.LegacyCall.TheVariants as call
use Rattle.kms_model.specs.declared.legacy.TheConstants.LegacyRefusal.{NO_PLANE, NOT_SHOWN, FORMAT_CHANGES}
use Rattle.kms_model.specs.declared.objects.Kind.TheVariants.{Crtc, Plane, Conn}
use Rattle.kms_model.specs.declared.objects.Mode.{Mode}
use Rattle.kms_model.specs.declared.objects.Topology.{Topology}
use Rattle.kms_model.specs.declared.pictures.FbInfo.{FbInfo}
use Rattle.kms_model.specs.declared.pictures.Rect.{Rect}
use Rattle.kms_model.specs.declared.properties.TheConstants.{FB_ID, CRTC_ID, CRTC_X, CRTC_Y, CRTC_W, CRTC_H, SRC_X, SRC_Y, SRC_W, SRC_H}
use Rattle.kms_model.specs.declared.properties.TheConstants.{ACTIVE, MODE_ID}
use Rattle.kms_model.specs.declared.scripts.Assign.{Assign}
use Rattle.kms_model.specs.declared.scripts.Request.{Request}
use Rattle.kms_model.specs.declared.scripts.Value.TheVariants as value
use Rattle.kms_model.specs.declared.states.Duplicates.{Duplicates}
use Rattle.kms_model.specs.declared.worlds.World.{World}
use Rattle.kms_model.specs.Device.Masks.{has_bit}
use Rattle.kms_model.specs.Device.Objects.{indices_of, object_id}
use Rattle.kms_model.specs.Device.Places.{state_at}
use Rattle.kms_model.specs.Device.States.{crtc_at, plane_at}
use Rattle.kms_model.specs.Machine.Commits.{has_number}
use Rattle.kms_model.specs.Script.Assigning.{plane_off, conn_off, crtc_off}
use Rattle.kms_model.specs.Script.Generated.{assigns_to}
use Rattle.kms_model.specs.Script.Grammar.{format_bit}

-- What a call reads of the device

-- by the indices of objects
pub record Present : Type 0 where
  -- the id of a connector's CRTC, and of a plane's, 0 without one
  pub conn_crtc : ℕ → ℕ
  pub plane_crtc : ℕ → ℕ
  -- a plane's framebuffer
  pub plane_fb : ℕ → Option FbInfo

-- in a world
abbrev pub present_in : World → Present
present_in w = record {
  conn_crtc = λ conn. crtc_at w.values (object_id Conn conn);
  plane_crtc = λ plane. crtc_at w.values (object_id Plane plane);
  plane_fb = λ plane. (plane_at w.things w.values (object_id Plane plane)).fb;
}

-- in duplicated states, before what a request has set
abbrev pub present_of : Duplicates → Present
present_of d = record {
  conn_crtc = λ conn. option_map_or (λ both. both.old.crtc) (state_at d.conns conn) 0;
  plane_crtc = λ plane. option_map_or (λ both. both.old.crtc) (state_at d.planes plane) 0;
  plane_fb = λ plane. option_and_then (λ both. both.old.fb) (state_at d.planes plane);
}

-- the connectors that are on a CRTC, by index
abbrev pub conns_now : Topology → Present → ℕ → List ℕ
conns_now t now crtc = filter (λ conn. now.conn_crtc conn == object_id Crtc crtc) (indices_of t Conn)

-- all but one
abbrev pub others : ℕ → List ℕ → List ℕ
others one indices = filter (λ index. not (index == one)) indices

-- The plane of a CRTC

-- values of the property `type`. From: `drm_plane.h`, enum drm_plane_type.
abbrev pub primary : ℕ
primary = 1

abbrev pub cursor : ℕ
cursor = 2

-- a plane is of a type and may go on a CRTC
abbrev pub suits : Topology → ℕ → ℕ → ℕ → Bool
suits t type crtc plane = option_map_or (λ p. (p.kind == type) && has_bit p.crtcs crtc) (slice_get t.planes plane) false

-- the least plane of a type that may go on a CRTC and is none of these
abbrev pub least_plane : Topology → ℕ → List ℕ → ℕ → Option ℕ
least_plane t type taken crtc = find (λ plane. suits t type crtc plane && not (has_number taken plane)) (indices_of t Plane)

-- the planes of a type that the first CRTCs have
unfoldable pub special_planes : Topology → ℕ → ℕ → List ℕ
special_planes t type zero = []
special_planes t type (suc crtc) =
    let lower = special_planes t type crtc in
    cons_option (least_plane t type lower crtc) lower

-- The primary plane of a CRTC, or its cursor plane: the least of this type that may go on it and is not that of a lower
-- CRTC. From: `drm_crtc.h`, struct drm_crtc, `primary` and `cursor`; `drm_crtc.c`, drm_crtc_init_with_planes, which is given
-- both; which plane it is, is this project's own.
abbrev pub special_plane : Topology → ℕ → ℕ → Option ℕ
special_plane t type crtc = least_plane t type (special_planes t type crtc) crtc

-- Assignments

-- a plane shows a part of a framebuffer at a place of a CRTC
abbrev pub plane_on : ℕ → ℕ → ℕ → Rect → Rect → List Assign
plane_on plane crtc fb dst src =
    assigns_to Plane plane FB_ID (value.Named fb)
    ∷ assigns_to Plane plane CRTC_ID (value.Crtc crtc)
    ∷ assigns_to Plane plane CRTC_X (value.Num dst.x)
    ∷ assigns_to Plane plane CRTC_Y (value.Num dst.y)
    ∷ assigns_to Plane plane CRTC_W (value.Num dst.w)
    ∷ assigns_to Plane plane CRTC_H (value.Num dst.h)
    ∷ assigns_to Plane plane SRC_X (value.Num src.x)
    ∷ assigns_to Plane plane SRC_Y (value.Num src.y)
    ∷ assigns_to Plane plane SRC_W (value.Num src.w)
    ∷ assigns_to Plane plane SRC_H (value.Num src.h)
    ∷ []

-- a CRTC is on in a mode, with one connector: the others that are on it now go off it
abbrev pub crtc_on : ℕ → ℕ → ℕ → List ℕ → List Assign
crtc_on crtc mode conn on_it =
    assigns_to Crtc crtc ACTIVE (value.Num (pos 1))
    ∷ assigns_to Crtc crtc MODE_ID (value.Named mode)
    ∷ (map conn_off (others conn on_it) ++ assigns_to Conn conn CRTC_ID (value.Crtc crtc) ∷ [])

-- Sizes in pixels

-- a size, 0 by 0 of what is not there
abbrev pub mode_size : Option Mode → ℕ × ℕ
mode_size None = (0, 0)
mode_size (Some m) = (m.hdisplay, m.vdisplay)

abbrev pub fb_size : Option FbInfo → ℕ × ℕ
fb_size None = (0, 0)
fb_size (Some fb) = (fb.width, fb.height)

-- a destination at a place, of a size
abbrev pub sized_at : ℤ → ℤ → ℕ × ℕ → Rect
sized_at x y size = record { x = x; y = y; w = pos size.0; h = pos size.1 }

-- a source in 16.16 fixed point, from a pixel on and of a size
abbrev pub in_fixed : ℕ → ℕ → ℕ × ℕ → Rect
in_fixed x y size = record { x = pos (65536 * x); y = pos (65536 * y); w = pos (65536 * size.0); h = pos (65536 * size.1) }

-- Requests

abbrev pub asks : ℕ → ℕ → List Assign → Result Request ℕ
asks flags user assigns = Ok (record { flags = flags; user_data = user; assigns = assigns })

-- with the plane that a call needs
abbrev pub with_plane : Option ℕ → (ℕ → Result Request ℕ) → Result Request ℕ
with_plane None f = Err NO_PLANE.0
with_plane (Some plane) f = f plane

-- one framebuffer has another format than the other; where one is not there, nothing changes
abbrev pub changes_format : Option FbInfo → Option FbInfo → Bool
changes_format (Some a) (Some b) = not (format_bit a.format == format_bit b.format)
changes_format _ _ = false

-- a plane that a CRTC does not show is not flipped there, and no flip changes the format
abbrev pub flip_request : Present → ℕ → ℕ → Option FbInfo → ℕ → Bool → ℕ → Result Request ℕ
flip_request now plane crtc fb label event user =
    if not (now.plane_crtc plane == object_id Crtc crtc) then Err NOT_SHOWN.0
    else (if changes_format fb (now.plane_fb plane) then Err FORMAT_CHANGES.0
    else asks (if event then NONBLOCK + PAGE_FLIP_EVENT else NONBLOCK) user (assigns_to Plane plane FB_ID (value.Named label) ∷ []))

-- The request that a call asks for, or the number with which it is refused before that. The mode and the framebuffer are what
-- its labels name, an open legal mode and an open framebuffer; each is none where its label names anything else, or nothing
-- yet, and the request is then refused for its value.
unfoldable pub call_request : Topology → Present → Option Mode → Option FbInfo → LegacyCall → Result Request ℕ
call_request t now mode fb (call.SetCrtc crtc label x y mode_label conn) = with_plane (special_plane t primary crtc) (λ plane.
    let size = mode_size mode in
    asks ALLOW_MODESET 0
    (crtc_on crtc mode_label conn (conns_now t now crtc) ++ plane_on plane crtc label (sized_at (pos 0) (pos 0) size) (in_fixed x y size)))
call_request t now mode fb (call.CrtcOff crtc) = with_plane (special_plane t primary crtc) (λ plane.
    asks ALLOW_MODESET 0 (crtc_off crtc ++ (map conn_off (conns_now t now crtc) ++ plane_off plane)))
call_request t now mode fb (call.SetPlane plane crtc label dst src) = asks 0 0 (plane_on plane crtc label dst src)
call_request t now mode fb (call.PlaneOff plane) = asks 0 0 (plane_off plane)
call_request t now mode fb (call.PageFlip crtc label event user) = with_plane (special_plane t primary crtc) (λ plane.
    flip_request now plane crtc fb label event user)
call_request t now mode fb (call.Cursor crtc label x y) = with_plane (special_plane t cursor crtc) (λ plane.
    asks 0 0 (plane_on plane crtc label (sized_at x y (fb_size fb)) (in_fixed 0 0 (fb_size fb))))
call_request t now mode fb (call.CursorMove crtc x y) = with_plane (special_plane t cursor crtc) (λ plane.
    asks 0 0 (assigns_to Plane plane CRTC_X (value.Num x) ∷ assigns_to Plane plane CRTC_Y (value.Num y) ∷ []))
call_request t now mode fb (call.CursorOff crtc) = with_plane (special_plane t cursor crtc) (λ plane. asks 0 0 (plane_off plane))

-- The refusals of the state after a request. Their numbers and their order are this device's own. From:
-- `drm_atomic.c`, drm_atomic_plane_check, drm_atomic_crtc_check; `drm_atomic_helper.c`,
-- drm_atomic_helper_check_modeset, drm_atomic_helper_check_plane_state.
use Rattle.std.specs.Prelude.{ℕ, ◌+◌, ◌-◌, ◌*◌, ◌%◌, Bool, true, false, not, ◌&&◌, ◌||◌, ◌==◌, nat_lt, ℤ, pos, ◌+ℤ◌, int_lt, List, [], ◌∷◌}
use Rattle.std.specs.Prelude.{length, filter, is_none, is_some, Option, Some, None, if◌then◌else◌}
use Rattle.std.specs.List.{list_any}
use Rattle.std.specs.Ordering.{int_eq}
use Rattle.kms_model.specs.declared.objects.Kind.TheVariants.{Crtc, Plane, Conn}
use Rattle.kms_model.specs.declared.objects.Mode.{Mode}
use Rattle.kms_model.specs.declared.objects.PlaneInfo.{PlaneInfo}
use Rattle.kms_model.specs.declared.objects.Topology.{Topology}
use Rattle.kms_model.specs.declared.pictures.FbInfo.{FbInfo}
use Rattle.kms_model.specs.declared.pictures.Rect.{Rect}
use Rattle.kms_model.specs.declared.properties.TheConstants.{ACTIVE}
use Rattle.kms_model.specs.declared.scripts.Request.{Request}
use Rattle.kms_model.specs.declared.states.PlaneState.{PlaneState}
use Rattle.kms_model.specs.declared.worlds.Setting.{Setting}
use Rattle.kms_model.specs.declared.worlds.Thing.{Thing}
use Rattle.kms_model.specs.declared.replies.TheConstants.Refusal.{EVENT_WITHOUT_CRTC, FRAMEBUFFER_XOR_CRTC, CRTC_NOT_POSSIBLE}
use Rattle.kms_model.specs.declared.replies.TheConstants.Refusal.{FORMAT_NOT_SUPPORTED, DESTINATION_TOO_FAR, SOURCE_OUTSIDE_FRAMEBUFFER}
use Rattle.kms_model.specs.declared.replies.TheConstants.Refusal.{SWITCHES_CRTC, ACTIVE_WITHOUT_MODE, SIGNAL_WHILE_OFF}
use Rattle.kms_model.specs.declared.replies.TheConstants.Refusal.{CONNECTOR_NOT_POSSIBLE, CLONED_CONNECTORS, MODE_XOR_CONNECTOR}
use Rattle.kms_model.specs.declared.replies.TheConstants.Refusal.{CRTC_NOT_ENABLED, SCALED, FRACTIONAL_SOURCE, MODESET_NOT_ALLOWED}
use Rattle.kms_model.specs.Firsts.{or_else, first_some, refused_if}
use Rattle.kms_model.specs.Request.Flags.{wants_event, allows_modeset}
use Rattle.kms_model.specs.Script.Grammar.{format_bit}
use Rattle.kms_model.specs.Device.Masks.{has_bit}
use Rattle.kms_model.specs.Device.Objects.{first_id, ids_of}
use Rattle.kms_model.specs.Device.World.{value}
use Rattle.kms_model.specs.Device.States.{natural, mode_at, crtc_at, plane_at}
use Rattle.kms_model.specs.Request.Named.{names, needs_modeset, differs}
use Rattle.kms_model.specs.Frames.Rectangles.{fits_source, is_scaled_little}
use Rattle.kms_model.specs.Request.Touched.{asks_signal}

-- a set of CRTCs has the CRTC with an id (which is that of some CRTC)
abbrev pub has_crtc : ℕ → ℕ → Bool
has_crtc mask crtc = has_bit mask (crtc - first_id Crtc)

-- an edge of a destination is above 2147483647
abbrev pub is_beyond : Rect → Bool
is_beyond dst = int_lt (pos 2147483647) (dst.x +ℤ dst.w) || int_lt (pos 2147483647) (dst.y +ℤ dst.h)

-- a plane goes from one CRTC straight to another
abbrev pub switches_crtc : ℕ → ℕ → Bool
switches_crtc old new = not (old == 0) && (not (new == 0) && not (old == new))

-- What is wrong with a plane that has a framebuffer and a CRTC: the CRTC is not among its possible ones; the format is
-- not among its formats; the destination ends beyond 2147483647; the source ends outside the framebuffer; it goes from
-- one CRTC straight to another.
abbrev pub placed_refusal : PlaneInfo → FbInfo → PlaneState → PlaneState → Option ℕ
placed_refusal info fb old new =
    or_else (refused_if CRTC_NOT_POSSIBLE (not (has_crtc info.crtcs new.crtc)))
    (or_else (refused_if FORMAT_NOT_SUPPORTED (not (has_bit info.formats (format_bit fb.format))))
    (or_else (refused_if DESTINATION_TOO_FAR (is_beyond new.dst))
    (or_else (refused_if SOURCE_OUTSIDE_FRAMEBUFFER (not (fits_source new.src fb.width fb.height)))
    (refused_if SWITCHES_CRTC (switches_crtc old.crtc new.crtc)))))

-- 10: a framebuffer without a CRTC, or a CRTC without a framebuffer
abbrev pub plane_refusal_with : PlaneInfo → PlaneState → PlaneState → Option FbInfo → Bool → Option ℕ
plane_refusal_with info old new None true = None
plane_refusal_with info old new None false = Some FRAMEBUFFER_XOR_CRTC.0
plane_refusal_with info old new (Some fb) true = Some FRAMEBUFFER_XOR_CRTC.0
plane_refusal_with info old new (Some fb) false = placed_refusal info fb old new

-- what is wrong with a plane, from 10 to 15
unfoldable pub plane_refusal : PlaneInfo → PlaneState → PlaneState → Option ℕ
plane_refusal info old new = plane_refusal_with info old new new.fb (new.crtc == 0)

-- What is wrong with a CRTC: it is on without a mode; an event or an out-fence is asked for it, and it was off and stays
-- off.
abbrev pub crtc_refusal : Bool → Bool → Bool → Option Mode → Option ℕ
crtc_refusal asks was_on is_active mode =
    or_else (refused_if ACTIVE_WITHOUT_MODE (is_active && is_none mode))
    (refused_if SIGNAL_WHILE_OFF (asks && (not was_on && not is_active)))

-- What is wrong with a connector of possible CRTCs: its CRTC is not among them.
abbrev pub conn_refusal : ℕ → ℕ → Option ℕ
conn_refusal possible crtc = refused_if CONNECTOR_NOT_POSSIBLE (not (crtc == 0) && not (has_crtc possible crtc))

-- SRC_W is CRTC_W in 16.16 fixed point, and SRC_H is CRTC_H
abbrev pub is_unscaled : Rect → Rect → Bool
is_unscaled src dst = (natural src.w == 65536 * natural dst.w) && (natural src.h == 65536 * natural dst.h)

-- a number in 16.16 fixed point has no fraction
abbrev pub is_whole : ℤ → Bool
is_whole z = natural z % 65536 == 0

-- the source and the destination of a plane have sizes that a device of a profile shows: in profile 1 the same, in
-- profile 2 sizes of which neither is more than four times the other
abbrev pub has_sizes : ℕ → Rect → Rect → Bool
has_sizes profile src dst = if profile == 1 then is_unscaled src dst else is_scaled_little src.w dst.w && is_scaled_little src.h dst.h

-- the source of a plane begins where a device of a profile lets it: in profile 1 at a pixel, in profile 2 anywhere
abbrev pub has_start : ℕ → Rect → Bool
has_start profile src = not (profile == 1) || (is_whole src.x && is_whole src.y)

-- What is wrong with a plane on a CRTC of a mode, on a device of a profile: the CRTC is not enabled; the sizes of source
-- and destination; where the source begins.
unfoldable pub shown_refusal : ℕ → Option Mode → PlaneState → Option ℕ
shown_refusal profile mode s =
    if s.crtc == 0 then None
    else or_else (refused_if CRTC_NOT_ENABLED (is_none mode))
    (or_else (refused_if SCALED (not (has_sizes profile s.src s.dst)))
    (refused_if FRACTIONAL_SOURCE (not (has_start profile s.src))))

-- items with ids, of which the first has this one
abbrev pub with_ids : {A : Type 0} → ℕ → List A → List (ℕ × A)
with_ids id [] = []
with_ids id (x ∷ xs) = (id, x) ∷ with_ids (id + 1) xs

-- ACTIVE of a CRTC
abbrev pub is_active : List Setting → ℕ → Bool
is_active values crtc = not (int_eq (value values crtc ACTIVE) (pos 0))

-- the connectors of a CRTC
abbrev pub conns_on : Topology → List Setting → ℕ → List ℕ
conns_on t values crtc = filter (λ conn. crtc_at values conn == crtc) (ids_of t Conn)

abbrev pub plane_refusal_at : List Thing → List Setting → List Setting → ℕ × PlaneInfo → Option ℕ
plane_refusal_at things old new p = plane_refusal p.1 (plane_at things old p.0) (plane_at things new p.0)

abbrev pub crtc_refusal_at : List Thing → List Setting → List Setting → Request → ℕ → Option ℕ
crtc_refusal_at things old new r crtc = crtc_refusal (asks_signal old new r crtc) (is_active old crtc) (is_active new crtc)
    (mode_at things new crtc)

abbrev pub conn_refusal_at : List Setting → ℕ × ℕ → Option ℕ
conn_refusal_at new c = conn_refusal c.1 (crtc_at new c.0)

-- 19: two or more connectors have the CRTC
abbrev pub clone_refusal_at : Topology → List Setting → ℕ → Option ℕ
clone_refusal_at t new crtc = refused_if CLONED_CONNECTORS (nat_lt 1 (length (conns_on t new crtc)))

-- 20: the CRTC has a mode and no connector, or a connector and no mode
abbrev pub route_refusal_at : Topology → List Thing → List Setting → ℕ → Option ℕ
route_refusal_at t things new crtc = refused_if MODE_XOR_CONNECTOR
    (differs (is_some (mode_at things new crtc)) (nat_lt 0 (length (conns_on t new crtc))))

abbrev pub shown_refusal_at : ℕ → List Thing → List Setting → ℕ → Option ℕ
shown_refusal_at profile things new plane = let s = plane_at things new plane in shown_refusal profile (mode_at things new s.crtc) s

-- 9: an event is asked for, and no CRTC is named
abbrev pub event_refusal : Topology → List Setting → List Setting → Request → Option ℕ
event_refusal t old new r = refused_if EVENT_WITHOUT_CRTC (wants_event r.flags && not (list_any (names old new r.assigns) (ids_of t Crtc)))

-- 24: a CRTC needs a modeset and ALLOW_MODESET is not set
abbrev pub modeset_refusal : Topology → List Thing → List Setting → List Setting → ℕ → Option ℕ
modeset_refusal t things old new flags = refused_if MODESET_NOT_ALLOWED
    (not (allows_modeset flags) && list_any (needs_modeset t things old new) (ids_of t Crtc))

-- the first late refusal of a request that makes new values of old ones: all objects of the device are tried
unfoldable pub late_refusal : Topology → List Thing → List Setting → List Setting → Request → Option ℕ
late_refusal t things old new r =
    or_else (event_refusal t old new r)
    (or_else (first_some (plane_refusal_at things old new) (with_ids (first_id Plane) t.planes))
    (or_else (first_some (crtc_refusal_at things old new r) (ids_of t Crtc))
    (or_else (first_some (conn_refusal_at new) (with_ids (first_id Conn) t.conns))
    (or_else (first_some (clone_refusal_at t new) (ids_of t Crtc))
    (or_else (first_some (route_refusal_at t things new) (ids_of t Crtc))
    (or_else (first_some (shown_refusal_at t.profile things new) (ids_of t Plane))
    (modeset_refusal t things old new r.flags)))))))

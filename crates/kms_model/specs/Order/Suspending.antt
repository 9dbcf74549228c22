-- The two requests that turn a device off and bring it back. From: `drm_modeset_helper.c`, drm_mode_config_helper_suspend,
-- drm_mode_config_helper_resume; `drm_atomic_helper.c`, drm_atomic_helper_suspend, which duplicates the states before it turns all
-- off, drm_atomic_helper_disable_all, drm_atomic_helper_resume, drm_atomic_helper_commit_duplicated_state. That both are a client's
-- requests, which name framebuffers and modes by labels, and the order of their assignments are this device's own.
use Rattle.std.specs.Prelude.{ℕ, Bool, not, ◌&&◌, ◌==◌, List, [], ◌∷◌, ◌++◌, map, filter, find, is_some, is_none, unwrap_or, Option, Some}
use Rattle.std.specs.List.{flat_map}
use Rattle.std.specs.Option.{option_and_then}
use Rattle.kms_model.specs.declared.flags.TheConstants.{ALLOW_MODESET}
use Rattle.kms_model.specs.declared.objects.Kind.{Kind}
use Rattle.kms_model.specs.declared.objects.Kind.TheVariants as kind
use Rattle.kms_model.specs.declared.objects.Mode.{Mode}
use Rattle.kms_model.specs.declared.objects.Topology.{Topology}
use Rattle.kms_model.specs.declared.properties.TheConstants.{ACTIVE, MODE_ID, CRTC_ID, FB_ID}
use Rattle.kms_model.specs.declared.scripts.Assign.{Assign}
use Rattle.kms_model.specs.declared.scripts.Request.{Request}
use Rattle.kms_model.specs.declared.scripts.Value.{Value}
use Rattle.kms_model.specs.declared.scripts.Value.TheVariants.{Num, Named, Crtc}
use Rattle.kms_model.specs.declared.worlds.Thing.{Thing}
use Rattle.kms_model.specs.declared.worlds.World.{World}
use Rattle.kms_model.specs.Firsts.{or_else}
use Rattle.kms_model.specs.Device.Modes.{same_mode}
use Rattle.kms_model.specs.Device.Objects.{object_id, index_of, indices_of, ids_of}
use Rattle.kms_model.specs.Device.States.{mode_at, crtc_at, plane_at}
use Rattle.kms_model.specs.Device.World.{value}
use Rattle.kms_model.specs.Request.Lookups.{look_of}
use Rattle.kms_model.specs.Request.Sets.{mode_of_look}
use Rattle.kms_model.specs.Machine.Histories.{label_of_thing}
use Rattle.kms_model.specs.Script.Assigning.{plane_off, conn_off, crtc_off}
use Rattle.kms_model.specs.Script.Generated.{assigns_to}

-- What is turned off

-- a plane or a connector is on a CRTC
abbrev pub has_crtc_at : World → ℕ → Bool
has_crtc_at w object = not (crtc_at w.values object == 0)

-- a CRTC has a mode, whether it is on or not
abbrev pub has_mode_at : World → ℕ → Bool
has_mode_at w crtc = is_some (mode_at w.things w.values crtc)

-- the indices of the objects of a kind that pass a test, in order
abbrev pub indices_where : Topology → Kind → (ℕ → Bool) → List ℕ
indices_where t kind test = filter (λ index. test (object_id kind index)) (indices_of t kind)

-- assignments with leave for a modeset and no user data
abbrev pub modeset : List Assign → Request
modeset assigns = record { flags = ALLOW_MODESET; user_data = 0; assigns = assigns }

-- The request that turns a device off: planes and connectors leave their CRTCs, and CRTCs lose their modes. Sizes, alpha, zpos and
-- gamma tables stay.
unfoldable pub off_request : Topology → World → Request
off_request t w = modeset (
    flat_map plane_off (indices_where t kind.Plane (has_crtc_at w))
    ++ (map conn_off (indices_where t kind.Conn (has_crtc_at w))
    ++ flat_map crtc_off (indices_where t kind.Crtc (has_mode_at w))))

-- Labels of what is brought back

-- the label of the open thing with an id
unfoldable pub open_label : List Thing → ℕ → Option ℕ
open_label things id = label_of_thing (find (λ thing. (thing.id == id) && thing.is_open) things)

-- MODE_ID would take a thing's label, as this mode: the thing is an open blob, and its bytes, or a `mode` command, are this legal
-- mode with all contents, the bytes behind the name's end among them.
abbrev pub names_mode : Mode → Thing → Bool
names_mode m thing = same_mode (mode_of_look (look_of (Some thing))) (Some m)

-- the label of the open blob of least id that holds a mode: things are in order of id
unfoldable pub open_mode_label : List Thing → Mode → Option ℕ
open_mode_label things m = label_of_thing (find (names_mode m) things)

-- a label for a CRTC's mode, whichever blob MODE_ID names
abbrev pub mode_label : World → ℕ → Option ℕ
mode_label w crtc = option_and_then (open_mode_label w.things) (mode_at w.things w.values crtc)

-- the label of a plane's framebuffer
abbrev pub framebuffer_label : World → ℕ → Option ℕ
framebuffer_label w plane = option_and_then (λ fb. open_label w.things fb.id) (plane_at w.things w.values plane).fb

-- a CRTC with a mode that no label names, and a plane on a CRTC whose framebuffer none names
abbrev pub lacks_mode : World → ℕ → Bool
lacks_mode w crtc = has_mode_at w crtc && is_none (mode_label w crtc)

abbrev pub lacks_framebuffer : World → ℕ → Bool
lacks_framebuffer w plane = has_crtc_at w plane && is_none (framebuffer_label w plane)

-- the object of least id that cannot be brought back, if any: ids of CRTCs are below those of planes
unfoldable pub closed_object : Topology → World → Option ℕ
closed_object t w = or_else (find (lacks_mode w) (ids_of t kind.Crtc)) (find (lacks_framebuffer w) (ids_of t kind.Plane))

-- What is brought back

-- a label, as a value (where there is none, something is closed, and nothing is brought back)
abbrev pub labelled : Option ℕ → Value
labelled label = Named (unwrap_or label 0)

-- the CRTC that a plane or a connector is on
abbrev pub crtc_of : World → ℕ → Value
crtc_of w object = Crtc (index_of (crtc_at w.values object))

abbrev pub crtc_back : World → ℕ → List Assign
crtc_back w index =
    assigns_to kind.Crtc index MODE_ID (labelled (mode_label w (object_id kind.Crtc index)))
    ∷ assigns_to kind.Crtc index ACTIVE (Num (value w.values (object_id kind.Crtc index) ACTIVE))
    ∷ []

abbrev pub conn_back : World → ℕ → Assign
conn_back w index = assigns_to kind.Conn index CRTC_ID (crtc_of w (object_id kind.Conn index))

abbrev pub plane_back : World → ℕ → List Assign
plane_back w index =
    assigns_to kind.Plane index FB_ID (labelled (framebuffer_label w (object_id kind.Plane index)))
    ∷ assigns_to kind.Plane index CRTC_ID (crtc_of w (object_id kind.Plane index))
    ∷ []

-- The request that brings a device back as it is in a world, after it was turned off there: all that the other one sets.
unfoldable pub on_request : Topology → World → Request
on_request t w = modeset (
    flat_map (crtc_back w) (indices_where t kind.Crtc (has_mode_at w))
    ++ (map (conn_back w) (indices_where t kind.Conn (has_crtc_at w))
    ++ flat_map (plane_back w) (indices_where t kind.Plane (has_crtc_at w))))

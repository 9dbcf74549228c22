-- The rules that refuse a command: the number, the name, the error number, when it refuses and the kernel's function that
-- refuses so. The numbers and names are this device's own.
use Rattle.std.specs.Prelude.{ℕ, Bool, ◌==◌, find, List, [], ◌∷◌, codes, Option, Some, None}
use Rattle.std.specs.List.{list_any}
use Rattle.kms_model.specs.declared.replies.Denied.{Denied}
use Rattle.kms_model.specs.declared.replies.Refusal.{Refusal}
use Rattle.kms_model.specs.declared.replies.TheConstants.Denied as denied
use Rattle.kms_model.specs.declared.replies.TheConstants.Refusal as refusal

pub record RuleRow : Type 0 where
  pub number : ℕ
  pub name : List ℕ
  -- the name of its error number
  pub errno : List ℕ
  pub text : List ℕ
  pub source : List ℕ

-- The names of error numbers. From: `errno.h`; which rule has which is this device's own.

abbrev pub EINVAL : List ℕ
EINVAL = codes "EINVAL"

abbrev pub ENOENT : List ℕ
ENOENT = codes "ENOENT"

abbrev pub ERANGE : List ℕ
ERANGE = codes "ERANGE"

abbrev pub ENOSPC : List ℕ
ENOSPC = codes "ENOSPC"

abbrev pub ENOMEM : List ℕ
ENOMEM = codes "ENOMEM"

abbrev pub EBUSY : List ℕ
EBUSY = codes "EBUSY"

abbrev pub EPERM : List ℕ
EPERM = codes "EPERM"

-- a rule that refuses a request
abbrev refuses : Refusal → List ℕ → List ℕ → List ℕ → List ℕ → RuleRow
refuses r name errno text source = record { number = r.0; name = name; errno = errno; text = text; source = source }

-- a rule that refuses another command
abbrev denies : Denied → List ℕ → List ℕ → List ℕ → List ℕ → RuleRow
denies d name errno text source = record { number = d.0; name = name; errno = errno; text = text; source = source }

abbrev pub rule_rows : List RuleRow
rule_rows =
    refuses refusal.UNKNOWN_FLAG (codes "UNKNOWN_FLAG") EINVAL (codes "a flag outside of those that there are is set")
    (codes "drm_mode_atomic_ioctl")
    ∷ refuses refusal.ASYNC_FLIP (codes "ASYNC_FLIP") EINVAL (codes "PAGE_FLIP_ASYNC is set") (codes "drm_mode_atomic_ioctl")
    ∷ refuses refusal.TEST_WITH_EVENT (codes "TEST_WITH_EVENT") EINVAL (codes "TEST_ONLY and PAGE_FLIP_EVENT are set")
    (codes "drm_mode_atomic_ioctl")
    ∷ refuses refusal.NO_OBJECT (codes "NO_OBJECT") ENOENT (codes "the object does not exist") (codes "drm_mode_object_find")
    ∷ refuses refusal.NO_PROPERTY (codes "NO_PROPERTY") ENOENT (codes "the object does not have the property")
    (codes "drm_mode_obj_find_prop_id")
    ∷ refuses refusal.IMMUTABLE_PROPERTY (codes "IMMUTABLE_PROPERTY") EINVAL (codes "the property is immutable")
    (codes "drm_property_change_valid_get")
    ∷ refuses refusal.INVALID_VALUE (codes "INVALID_VALUE") EINVAL (codes "the value is not among those of the property")
    (codes "drm_property_change_valid_get")
    ∷ refuses refusal.SECOND_IN_FENCE (codes "SECOND_IN_FENCE") EINVAL (codes "an earlier assignment named a fence for this plane")
    (codes "drm_atomic_plane_set_property")
    ∷ refuses refusal.EVENT_WITHOUT_CRTC (codes "EVENT_WITHOUT_CRTC") EINVAL (codes "PAGE_FLIP_EVENT is set and no CRTC is named")
    (codes "prepare_signaling")
    ∷ refuses refusal.FRAMEBUFFER_XOR_CRTC (codes "FRAMEBUFFER_XOR_CRTC") EINVAL
    (codes "a plane has a framebuffer without a CRTC, or a CRTC without a framebuffer") (codes "drm_atomic_plane_check")
    ∷ refuses refusal.CRTC_NOT_POSSIBLE (codes "CRTC_NOT_POSSIBLE") EINVAL (codes "the CRTC of a plane is not among its possible CRTCs")
    (codes "drm_atomic_plane_check")
    ∷ refuses refusal.FORMAT_NOT_SUPPORTED (codes "FORMAT_NOT_SUPPORTED") EINVAL
    (codes "the format of the framebuffer is not among those of the plane") (codes "drm_plane_has_format")
    ∷ refuses refusal.DESTINATION_TOO_FAR (codes "DESTINATION_TOO_FAR") ERANGE (codes "the destination of a plane ends beyond 2147483647")
    (codes "drm_atomic_plane_check")
    ∷ refuses refusal.SOURCE_OUTSIDE_FRAMEBUFFER (codes "SOURCE_OUTSIDE_FRAMEBUFFER") ENOSPC
    (codes "the source of a plane ends outside of its framebuffer") (codes "drm_framebuffer_check_src_coords")
    ∷ refuses refusal.SWITCHES_CRTC (codes "SWITCHES_CRTC") EINVAL (codes "a plane goes from one CRTC straight to another")
    (codes "plane_switching_crtc")
    ∷ refuses refusal.ACTIVE_WITHOUT_MODE (codes "ACTIVE_WITHOUT_MODE") EINVAL (codes "a CRTC is active and has no mode")
    (codes "drm_atomic_crtc_check")
    ∷ refuses refusal.SIGNAL_WHILE_OFF (codes "SIGNAL_WHILE_OFF") EINVAL
    (codes "an event or an out-fence is asked of a CRTC that was off and stays off") (codes "drm_atomic_crtc_check")
    ∷ refuses refusal.CONNECTOR_NOT_POSSIBLE (codes "CONNECTOR_NOT_POSSIBLE") EINVAL
    (codes "the CRTC of a connector is not among its possible CRTCs") (codes "update_connector_routing")
    ∷ refuses refusal.CLONED_CONNECTORS (codes "CLONED_CONNECTORS") EINVAL (codes "two or more connectors have the same CRTC")
    (codes "drm_atomic_helper_check_modeset")
    ∷ refuses refusal.MODE_XOR_CONNECTOR (codes "MODE_XOR_CONNECTOR") EINVAL
    (codes "a CRTC has a mode and no connector, or a connector and no mode") (codes "drm_atomic_helper_check_modeset")
    ∷ refuses refusal.CRTC_NOT_ENABLED (codes "CRTC_NOT_ENABLED") EINVAL (codes "the CRTC of a plane is not enabled")
    (codes "drm_atomic_helper_check_plane_state")
    ∷ refuses refusal.SCALED (codes "SCALED") ERANGE
    (codes "source and destination of a plane differ in size, in profile 2 by more than four times")
    (codes "drm_atomic_helper_check_plane_state")
    ∷ refuses refusal.FRACTIONAL_SOURCE (codes "FRACTIONAL_SOURCE") EINVAL
    (codes "in profile 1, the source of a plane begins between pixels") (codes "own")
    ∷ refuses refusal.MODESET_NOT_ALLOWED (codes "MODESET_NOT_ALLOWED") EINVAL (codes "a CRTC needs a modeset and ALLOW_MODESET is not set")
    (codes "drm_atomic_check_only")
    ∷ refuses refusal.NO_EVENT_SPACE (codes "NO_EVENT_SPACE") ENOMEM (codes "there is no space for the events")
    (codes "drm_event_reserve_init")
    ∷ refuses refusal.BUSY (codes "BUSY") EBUSY (codes "NONBLOCK is set and the commit before has not flipped")
    (codes "drm_atomic_helper_setup_commit")
    ∷ denies denied.INVALID_SIZE (codes "INVALID_SIZE") EINVAL (codes "a side of the buffer is 0 or above 4096 pixels")
    (codes "drm_mode_create_dumb; the bound is own")
    ∷ denies denied.NO_BUFFER_SPACE (codes "NO_BUFFER_SPACE") ENOSPC (codes "all buffers would have more than 268435456 bytes")
    (codes "own")
    ∷ denies denied.NOT_FOUND (codes "NOT_FOUND") ENOENT (codes "the label is no open thing of this kind that the command may name")
    (codes "drm_mode_addfb2, drm_mode_closefb_ioctl, drm_mode_destroyblob_ioctl")
    ∷ denies denied.NOT_OWNER (codes "NOT_OWNER") EPERM (codes "the blob is the blob of another client")
    (codes "drm_mode_destroyblob_ioctl")
    ∷ denies denied.NOT_SIGNALLABLE (codes "NOT_SIGNALLABLE") EINVAL (codes "the label is no fence that a `fence` command made")
    (codes "own")
    ∷ []

abbrev pub has_number : ℕ → RuleRow → Bool
has_number n row = row.number == n

-- a rule has the number
abbrev pub is_rule : ℕ → Bool
is_rule n = list_any (has_number n) rule_rows

-- the row of a number; a rule without texts where no rule has it
abbrev row_or_none : ℕ → Option RuleRow → RuleRow
row_or_none n (Some row) = row
row_or_none n None = record { number = n; name = []; errno = EINVAL; text = []; source = [] }

-- the row of a number, where a rule has it
abbrev pub row_found : ℕ → Option RuleRow
row_found n = find (has_number n) rule_rows

abbrev pub rule_row : ℕ → RuleRow
rule_row n = row_or_none n (row_found n)

-- the name of a rule's error number; EINVAL where no rule has the number
abbrev pub errno_of : ℕ → List ℕ
errno_of n = (rule_row n).errno

-- the name of a rule
abbrev pub rule_name : ℕ → List ℕ
rule_name n = (rule_row n).name

-- when a rule refuses, in one line
abbrev pub rule_text : ℕ → List ℕ
rule_text n = (rule_row n).text

-- the kernel's function that refuses so, or `own`
abbrev pub rule_source : ℕ → List ℕ
rule_source n = (rule_row n).source

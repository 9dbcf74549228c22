-- Worked examples of what the device of one thread answers, computed: each reply of a script's commands.
use Rattle.std.proofs.Common.{◌≡◌, ℕ, ◌+◌, List, [], ◌∷◌, ◌++◌, refl, codes, pos}
use Rattle.std.specs.Prelude.{negsuc}
use Rattle.kms_model.specs.declared.flags.TheConstants.{PAGE_FLIP_EVENT, PAGE_FLIP_ASYNC, TEST_ONLY, ALLOW_MODESET}
use Rattle.kms_model.specs.declared.objects.Format.{Format}
use Rattle.kms_model.specs.declared.objects.Format.TheVariants.{Xr24, Rg16}
use Rattle.kms_model.specs.declared.objects.Kind.{Kind}
use Rattle.kms_model.specs.declared.objects.Kind.TheVariants as kind
use Rattle.kms_model.specs.declared.objects.Topology.{Topology}
use Rattle.kms_model.specs.declared.properties.TheConstants.{TYPE, FB_ID, CRTC_ID, CRTC_X, CRTC_W, CRTC_H, SRC_X, SRC_W, SRC_H, IN_FENCE_FD}
use Rattle.kms_model.specs.declared.properties.TheConstants.{ALPHA, ACTIVE, MODE_ID, OUT_FENCE_PTR}
use Rattle.kms_model.specs.declared.replies.Refusal.{Refusal}
use Rattle.kms_model.specs.declared.replies.Reply.{Reply}
use Rattle.kms_model.specs.declared.replies.Reply.TheVariants as reply
use Rattle.kms_model.specs.declared.replies.TheConstants.Denied as denied
use Rattle.kms_model.specs.declared.replies.TheConstants.Refusal as refusal
use Rattle.kms_model.specs.declared.scripts.Assign.{Assign}
use Rattle.kms_model.specs.declared.scripts.Command.{Command}
use Rattle.kms_model.specs.declared.scripts.Command.TheVariants as command
use Rattle.kms_model.specs.declared.scripts.Pattern.TheVariants.{Solid}
use Rattle.kms_model.specs.declared.scripts.PropRef.TheVariants.{Known}
use Rattle.kms_model.specs.declared.scripts.Value.{Value}
use Rattle.kms_model.specs.declared.scripts.Value.TheVariants as value
use Rattle.kms_model.specs.Device.ModeBytes.{mode_bytes}
use Rattle.kms_model.specs.Report.History.{Options}
use Rattle.kms_model.proofs.MachineInputs.{pixmaps, plain, report_of_script}
use Rattle.kms_model.proofs.OneThread.{replies}
use Rattle.kms_model.proofs.OnLiterals.{on_literals}
use Rattle.kms_model.proofs.OnMachines.{on_machines}
use Rattle.kms_model.proofs.Rows.{device, named_tiny}

abbrev pub refused : Refusal → Reply
refused r = reply.Refused r

abbrev pub sets : Kind → ℕ → ℕ → Value → Assign
sets kind index prop v = record { kind = kind; index = index; prop = Known prop; value = v }

abbrev pub request : ℕ → List Assign → Command
request flags assigns = command.Atomic (record { flags = flags; user_data = 0; assigns = assigns })

abbrev pub number : ℕ → Value
number n = value.Num (pos n)

-- a buffer, a framebuffer and a mode, under the labels 0, 1 and 2
abbrev made_with : ℕ → Format → List Command
made_with width format = command.Buffer 0 width 1 format (Solid 0) ∷ command.AddFb 1 0 ∷ command.Mode 2 named_tiny ∷ []

abbrev made : List Command
made = made_with 1 Xr24

abbrev pub three_made : List Reply
three_made = reply.Made 1000 ∷ reply.Made 1001 ∷ reply.Made 1002 ∷ []

abbrev pub crtc_sets : List Assign
crtc_sets =
    sets kind.Crtc 0 ACTIVE (number 1)
    ∷ sets kind.Crtc 0 MODE_ID (value.Named 2)
    ∷ sets kind.Conn 0 CRTC_ID (value.Crtc 0)
    ∷ []

abbrev plane_sets : List Assign
plane_sets =
    sets kind.Plane 0 FB_ID (value.Named 1)
    ∷ sets kind.Plane 0 CRTC_ID (value.Crtc 0)
    ∷ sets kind.Plane 0 CRTC_W (number 1)
    ∷ sets kind.Plane 0 CRTC_H (number 1)
    ∷ sets kind.Plane 0 SRC_W (number 65536)
    ∷ sets kind.Plane 0 SRC_H (number 65536)
    ∷ []

abbrev pub light : List Assign
light = crtc_sets ++ plane_sets

-- two CRTCs, a plane of both and two connectors of one CRTC each
abbrev two_crtcs : Topology
two_crtcs = record { profile = 1; crtcs = 2; planes = record { kind = 1; crtcs = 3; formats = 1 } ∷ []; conns = 1 ∷ 2 ∷ [] }

-- two CRTCs, a plane and a connector of the first alone
abbrev first_alone : Topology
first_alone = record { profile = 1; crtcs = 2; planes = record { kind = 1; crtcs = 1; formats = 1 } ∷ []; conns = 1 ∷ [] }

-- one CRTC with two connectors
abbrev two_conns : Topology
two_conns = record { profile = 1; crtcs = 1; planes = record { kind = 1; crtcs = 1; formats = 1 } ∷ []; conns = 1 ∷ 1 ∷ [] }

pub flags_and_assignments : replies device ((
    request PAGE_FLIP_EVENT (sets kind.Crtc 0 ACTIVE (number 0) ∷ [])
    ∷ request (PAGE_FLIP_EVENT + TEST_ONLY) (sets kind.Crtc 0 ACTIVE (number 0) ∷ [])
    ∷ request PAGE_FLIP_ASYNC [] ∷ request 0x4 [] ∷ request PAGE_FLIP_EVENT [] ∷ request 0x0 []
    ∷ request 0x0 (sets kind.Crtc 1 ACTIVE (number 0) ∷ [])
    ∷ request 0x0 (sets kind.Crtc 0 ALPHA (number 1) ∷ [])
    ∷ request 0x0 (sets kind.Plane 0 TYPE (number 1) ∷ [])
    ∷ request 0x0 (sets kind.Plane 0 ALPHA (number 65536) ∷ [])
    ∷ []) ∷ [])
    ≡ refused refusal.SIGNAL_WHILE_OFF ∷ refused refusal.TEST_WITH_EVENT ∷ refused refusal.ASYNC_FLIP ∷ refused refusal.UNKNOWN_FLAG
    ∷ refused refusal.EVENT_WITHOUT_CRTC ∷ reply.Commit 0 ∷ refused refusal.NO_OBJECT ∷ refused refusal.NO_PROPERTY
    ∷ refused refusal.IMMUTABLE_PROPERTY ∷ refused refusal.INVALID_VALUE ∷ []
unfolding on_literals
flags_and_assignments = refl

pub framebuffer_without_crtc : replies device ((made ++ request ALLOW_MODESET (sets kind.Plane 0 FB_ID (value.Named 1) ∷ []) ∷ []) ∷ [])
    ≡ three_made ++ refused refusal.FRAMEBUFFER_XOR_CRTC ∷ []
unfolding on_literals
framebuffer_without_crtc = refl

pub crtc_that_a_plane_cannot_have : replies first_alone
    ((made ++ request ALLOW_MODESET (sets kind.Plane 0 FB_ID (value.Named 1) ∷ sets kind.Plane 0 CRTC_ID (value.Crtc 1) ∷ []) ∷ []) ∷ [])
    ≡ three_made ++ refused refusal.CRTC_NOT_POSSIBLE ∷ []
unfolding on_literals
crtc_that_a_plane_cannot_have = refl

pub format_that_a_plane_cannot_have : replies device ((made_with 1 Rg16 ++ request ALLOW_MODESET light ∷ []) ∷ []) ≡ three_made
    ++ refused refusal.FORMAT_NOT_SUPPORTED ∷ []
unfolding on_literals
format_that_a_plane_cannot_have = refl

pub destination_ends_beyond : replies device ((made ++ request ALLOW_MODESET (light ++ sets kind.Plane 0 CRTC_X (number 2147483647) ∷ [])
    ∷ []) ∷ []) ≡ three_made ++ refused refusal.DESTINATION_TOO_FAR ∷ []
unfolding on_literals
destination_ends_beyond = refl

pub source_ends_outside : replies device ((made ++ request ALLOW_MODESET (light ++ sets kind.Plane 0 SRC_W (number 65537) ∷ []) ∷ []) ∷ [])
    ≡ three_made ++ refused refusal.SOURCE_OUTSIDE_FRAMEBUFFER ∷ []
unfolding on_literals
source_ends_outside = refl

pub plane_goes_straight_to_another_crtc : replies two_crtcs
    ((made ++ request ALLOW_MODESET light ∷ request ALLOW_MODESET (sets kind.Plane 0 CRTC_ID (value.Crtc 1) ∷ []) ∷ []) ∷ []) ≡ three_made
    ++ reply.Commit 0 ∷ refused refusal.SWITCHES_CRTC ∷ []
unfolding on_literals
plane_goes_straight_to_another_crtc = refl

pub on_without_a_mode : replies device ((request ALLOW_MODESET (sets kind.Crtc 0 ACTIVE (number 1) ∷ []) ∷ []) ∷ [])
    ≡ refused refusal.ACTIVE_WITHOUT_MODE ∷ []
unfolding on_literals
on_without_a_mode = refl

pub crtc_that_a_connector_cannot_have : replies first_alone
    ((request ALLOW_MODESET (sets kind.Conn 0 CRTC_ID (value.Crtc 1) ∷ []) ∷ []) ∷ []) ≡ refused refusal.CONNECTOR_NOT_POSSIBLE ∷ []
unfolding on_literals
crtc_that_a_connector_cannot_have = refl

pub two_connectors_of_a_crtc : replies two_conns
    ((made ++ request ALLOW_MODESET (light ++ sets kind.Conn 1 CRTC_ID (value.Crtc 0) ∷ []) ∷ []) ∷ []) ≡ three_made
    ++ refused refusal.CLONED_CONNECTORS ∷ []
unfolding on_literals
two_connectors_of_a_crtc = refl

pub mode_without_a_connector : replies device ((made ++ request ALLOW_MODESET (sets kind.Crtc 0 MODE_ID (value.Named 2) ∷ []) ∷ []) ∷ [])
    ≡ three_made ++ refused refusal.MODE_XOR_CONNECTOR ∷ []
unfolding on_literals
mode_without_a_connector = refl

pub plane_on_a_crtc_without_a_mode : replies device ((made ++ request ALLOW_MODESET plane_sets ∷ []) ∷ []) ≡ three_made
    ++ refused refusal.CRTC_NOT_ENABLED ∷ []
unfolding on_literals
plane_on_a_crtc_without_a_mode = refl

pub destination_of_another_size : replies device
    ((made ++ request ALLOW_MODESET (light ++ sets kind.Plane 0 CRTC_W (number 2) ∷ []) ∷ []) ∷ []) ≡ three_made ++ refused refusal.SCALED
    ∷ []
unfolding on_literals
destination_of_another_size = refl

pub source_begins_between_pixels : replies device
    ((made_with 2 Xr24 ++ request ALLOW_MODESET (light ++ sets kind.Plane 0 SRC_X (number 32768) ∷ []) ∷ []) ∷ []) ≡ three_made
    ++ refused refusal.FRACTIONAL_SOURCE ∷ []
unfolding on_literals
source_begins_between_pixels = refl

pub modeset_without_leave : replies device ((made ++ request 0x0 light ∷ []) ∷ []) ≡ three_made ++ refused refusal.MODESET_NOT_ALLOWED ∷ []
unfolding on_literals
modeset_without_leave = refl

-- an equal mode in another blob is no modeset
pub equal_mode_needs_no_leave : replies device
    ((made ++ request ALLOW_MODESET light ∷ command.Mode 3 named_tiny ∷ request 0x0 (sets kind.Crtc 0 MODE_ID (value.Named 3) ∷ []) ∷ [])
    ∷ []) ≡ three_made ++ reply.Commit 0 ∷ reply.Made 1003 ∷ reply.Commit 1 ∷ []
unfolding on_literals
equal_mode_needs_no_leave = refl

-- another client's blob, framebuffer and buffer, a blob that is no fence, and a buffer without width
pub things_of_another_client : replies device ((made ++ request ALLOW_MODESET light ∷ []) ∷ (
    command.Blob 3 (0 ∷ []) ∷ command.Blob 4 (0 ∷ []) ∷ command.Blob 5 (0 ∷ []) ∷ command.Blob 6 (0 ∷ [])
    ∷ command.Destroy 2 ∷ command.CloseFb 1 ∷ command.AddFb 7 0 ∷ command.Signal 2 ∷ command.Buffer 8 0 1 Xr24 (Solid 0) ∷ []) ∷ [])
    ≡ reply.Made 1000 ∷ reply.Made 1001 ∷ reply.Made 1002 ∷ reply.Made 1003 ∷ reply.Made 1004 ∷ reply.Made 1005 ∷ reply.Commit 0
    ∷ reply.Made 1006
    ∷ reply.Denied denied.NOT_OWNER.0 ∷ reply.Denied denied.NOT_FOUND.0 ∷ reply.Denied denied.NOT_FOUND.0
    ∷ reply.Denied denied.NOT_SIGNALLABLE.0 ∷ reply.Denied denied.INVALID_SIZE.0 ∷ []
unfolding on_literals
things_of_another_client = refl

-- the buffers of a device have at most 268435456 bytes
pub fifth_large_buffer : replies device ((
    command.Buffer 0 4096 4096 Xr24 (Solid 0) ∷ command.Buffer 1 4096 4096 Xr24 (Solid 0) ∷ command.Buffer 2 4096 4096 Xr24 (Solid 0)
    ∷ command.Buffer 3 4096 4096 Xr24 (Solid 0)
    ∷ command.Buffer 4 1 1 Xr24 (Solid 0) ∷ []) ∷ [])
    ≡ three_made ++ reply.Made 1003 ∷ reply.Denied denied.NO_BUFFER_SPACE.0 ∷ []
unfolding on_literals
fifth_large_buffer = refl

-- a destroyed mode is named no more
pub destroyed_mode_is_named_no_more : replies device
    ((made ++ request ALLOW_MODESET light ∷ command.Destroy 2 ∷ command.Destroy 2
    ∷ request ALLOW_MODESET (sets kind.Crtc 0 MODE_ID (value.Named 2) ∷ []) ∷ request 0x0 (sets kind.Plane 0 ALPHA (number 0) ∷ []) ∷ [])
    ∷ [])
    ≡ three_made ++ reply.Commit 0 ∷ reply.Done ∷ reply.Denied denied.NOT_FOUND.0 ∷ refused refusal.INVALID_VALUE ∷ reply.Commit 1 ∷ []
unfolding on_literals
destroyed_mode_is_named_no_more = refl

-- Reports

abbrev names : List (List ℕ)
names = codes "b" ∷ codes "f" ∷ codes "m" ∷ []

abbrev report : Options → List (List Command) → List ℕ
report options clients = report_of_script options (record { version = 1; topology = device; names = names; clients = clients })

-- a CRTC that goes off latches `off` and keeps its count; a framebuffer is freed once it is closed and no plane has it
abbrev pub put_off : List Assign
put_off =
    sets kind.Crtc 0 ACTIVE (number 0)
    ∷ sets kind.Crtc 0 MODE_ID (number 0)
    ∷ sets kind.Conn 0 CRTC_ID (number 0)
    ∷ sets kind.Plane 0 FB_ID (number 0)
    ∷ sets kind.Plane 0 CRTC_ID (number 0)
    ∷ []

pub closed_framebuffer_is_freed_when_its_plane_goes_off : report plain
    ((made ++ request ALLOW_MODESET light ∷ command.CloseFb 1 ∷ request ALLOW_MODESET put_off ∷ []) ∷ [])
    ≡ codes "J 1 1\nJ 1 2\nJ 1 3\nJ 1 4\nJ 1 5\nJ 1 6\nR 1 1 0 made 1000\nR 1 2 1 made 1001\nR 1 3 2 made 1002\nR 1 4 3 commit 0\nR 1 5 4 done\nR 1 6 5 commit 1\nL 0 0 1 709e80c88487a2411e1ee4dfb9f22a861492d20c4765150c0c794abd70f8147c\nL 0 1 1 off\nX f 1001\nD drained\n"
unfolding on_machines
closed_framebuffer_is_freed_when_its_plane_goes_off = refl

-- a framebuffer that no plane has is freed as it is closed, and a frame follows its line as text
pub frame_follows_its_line : report pixmaps ((made ++ request ALLOW_MODESET light ∷ []) ∷ (command.Buffer 0 1 1 Xr24 (Solid 0) ∷ []) ∷ [])
    ≡ codes "J 1 1\nJ 2 1\nJ 1 2\nJ 1 3\nJ 1 4\nR 1 1 0 made 1000\nR 1 2 2 made 1002\nR 1 3 3 made 1003\nR 1 4 4 commit 0\nR 2 1 1 made 1001\nL 0 0 1 709e80c88487a2411e1ee4dfb9f22a861492d20c4765150c0c794abd70f8147c\nP3\n1 1\n255\n0 0 0\nD drained\n"
unfolding on_machines
frame_follows_its_line = refl

pub unused_framebuffer_is_freed_as_it_is_closed : report plain
    ((command.Buffer 0 1 1 Xr24 (Solid 0) ∷ command.AddFb 1 0 ∷ command.CloseFb 1 ∷ command.CloseFb 1 ∷ []) ∷ [])
    ≡ codes "J 1 1\nJ 1 2\nJ 1 3\nR 1 1 0 made 1000\nR 1 2 1 made 1001\nR 1 3 2 done\nR 1 4 3 ENOENT 33\nX f 1001\nD drained\n"
unfolding on_machines
unused_framebuffer_is_freed_as_it_is_closed = refl

-- Fences

pub second_fence_of_a_plane : replies device ((command.Fence 0
    ∷ request 0x0 (sets kind.Plane 0 IN_FENCE_FD (value.Named 0) ∷ sets kind.Plane 0 IN_FENCE_FD (value.Num (negsuc 0)) ∷ [])
    ∷ request 0x0 (sets kind.Plane 0 IN_FENCE_FD (value.Num (negsuc 0)) ∷ sets kind.Plane 0 IN_FENCE_FD (value.Named 0) ∷ []) ∷ []) ∷ [])
    ≡ reply.Made 1000 ∷ refused refusal.SECOND_IN_FENCE ∷ reply.Commit 0 ∷ []
unfolding on_literals
second_fence_of_a_plane = refl

-- an out-fence is a fence that later requests name, and that no command signals
pub out_fence_is_made_by_its_commit : replies device
    ((made ++ request ALLOW_MODESET (light ++ sets kind.Crtc 0 OUT_FENCE_PTR (value.New 3) ∷ [])
    ∷ request 0x0 (sets kind.Plane 0 IN_FENCE_FD (value.Named 3) ∷ []) ∷ command.Signal 3 ∷ command.Fence 4 ∷ command.Signal 4 ∷ []) ∷ [])
    ≡ three_made ++ reply.Commit 0 ∷ reply.Commit 1 ∷ reply.Denied denied.NOT_SIGNALLABLE.0 ∷ reply.Made 1004 ∷ reply.Done ∷ []
unfolding on_literals
out_fence_is_made_by_its_commit = refl

-- the bytes of a legal mode are a mode, and other bytes are none
pub mode_by_its_bytes : replies device ((command.Blob 2 (mode_bytes named_tiny) ∷ command.Blob 3 (0 ∷ [])
    ∷ request ALLOW_MODESET (sets kind.Crtc 0 MODE_ID (value.Named 2) ∷ sets kind.Conn 0 CRTC_ID (value.Crtc 0) ∷ [])
    ∷ request ALLOW_MODESET (sets kind.Crtc 0 MODE_ID (value.Named 3) ∷ []) ∷ []) ∷ [])
    ≡ reply.Made 1000 ∷ reply.Made 1001 ∷ reply.Commit 0 ∷ refused refusal.INVALID_VALUE ∷ []
unfolding on_literals
mode_by_its_bytes = refl

-- Worked examples of profile 2, computed: scaled planes, sources that begin between pixels, and gamma tables.
use Rattle.std.proofs.Common.{◌≡◌, ℕ, ◌-◌, List, [], ◌∷◌, ◌++◌, drop, map, refl, codes, replicate, Some, None, Ok}
use Rattle.std.specs.Prelude.{neg_ℤ, pos, slice_index}
use Rattle.std.specs.List.{flat_map, range_with_len}
use Rattle.std.specs.Option.{option_map}
use Rattle.kms_model.specs.declared.flags.TheConstants.{ALLOW_MODESET}
use Rattle.kms_model.specs.declared.objects.Format.TheVariants.{Xr24}
use Rattle.kms_model.specs.declared.objects.Kind.TheVariants as kind
use Rattle.kms_model.specs.declared.objects.Mode.{Mode}
use Rattle.kms_model.specs.declared.objects.Topology.{Topology}
use Rattle.kms_model.specs.declared.properties.TheConstants.{FB_ID, CRTC_ID, CRTC_W, CRTC_H, SRC_W, SRC_H, ACTIVE, GAMMA_LUT, MODE_ID}
use Rattle.kms_model.specs.declared.replies.Reply.{Reply}
use Rattle.kms_model.specs.declared.replies.Reply.TheVariants as reply
use Rattle.kms_model.specs.declared.replies.TheConstants.Refusal as refusal
use Rattle.kms_model.specs.declared.scripts.Assign.{Assign}
use Rattle.kms_model.specs.declared.scripts.Command.{Command}
use Rattle.kms_model.specs.declared.scripts.Command.TheVariants as command
use Rattle.kms_model.specs.declared.scripts.Pattern.TheVariants.{Pixels, Solid}
use Rattle.kms_model.specs.declared.scripts.PropRef.TheVariants.{Unknown}
use Rattle.kms_model.specs.declared.scripts.Script.{Script}
use Rattle.kms_model.specs.declared.scripts.Value.TheVariants as value
use Rattle.kms_model.specs.Device.GammaBytes.{gamma_of_bytes}
use Rattle.kms_model.specs.Device.Modes.{plain_mode}
use Rattle.kms_model.specs.Device.Serial.{Entry, show}
use Rattle.kms_model.specs.Frames.FrameBytes.{source_at}
use Rattle.kms_model.specs.Script.CommandLines.{line_read}
use Rattle.kms_model.proofs.MachineInputs.{one, pixmaps, report_of_script}
use Rattle.kms_model.proofs.OneThread.{replies}
use Rattle.kms_model.proofs.OnLiterals.{on_literals}
use Rattle.kms_model.proofs.OnMachines.{on_machines}
use Rattle.kms_model.proofs.OnScripts.{on_scripts}
use Rattle.kms_model.proofs.Rows.{device, named_tiny}
use Rattle.kms_model.proofs.VerdictRows.{crtc_sets, light, number, refused, request, sets, three_made}

-- one CRTC, one primary plane and one connector, of a profile
abbrev device_of : ℕ → Topology
device_of profile = record device { profile = profile }

-- Scaled planes

abbrev four_wide : Mode
four_wide = plain_mode 1 4 1 (codes "wide" ++ replicate 28 0)

-- a framebuffer of some pixels in a row, and a mode of four, under the labels 1 and 2
abbrev made_wide : List ℕ → ℕ → List Command
made_wide pixels count = command.Buffer 0 count 1 Xr24 (Pixels pixels) ∷ command.AddFb 1 0 ∷ command.Mode 2 four_wide ∷ []

abbrev two_made : List Command
two_made = made_wide (0x00616263 ∷ 0x00666f6f ∷ []) 2

-- so much of the framebuffer from its left edge on, in so many pixels
abbrev wide : ℕ → ℕ → Command
wide size pixels = request ALLOW_MODESET (crtc_sets
    ++ sets kind.Plane 0 FB_ID (value.Named 1)
    ∷ sets kind.Plane 0 CRTC_ID (value.Crtc 0)
    ∷ sets kind.Plane 0 CRTC_W (number pixels)
    ∷ sets kind.Plane 0 CRTC_H (number 1)
    ∷ sets kind.Plane 0 SRC_W (number size)
    ∷ sets kind.Plane 0 SRC_H (number 65536)
    ∷ [])

-- the text of a script of a version that shows this framebuffer so
abbrev text_with : List ℕ → List ℕ → List ℕ
text_with version sets =
    codes "kms " ++ version ++ codes "\ncrtcs 1\nplane primary 0 XR24\nconn 0\nclient\nbuffer b 2 1 XR24 pixels 00616263 00666f6f\naddfb f b\nmode m 1 4 4 4 4 0 1 1 1 1 0 60 0 0 wide\n"
    ++ codes "atomic 0x400 0 crtc0.ACTIVE=1 crtc0.MODE_ID=@m conn0.CRTC_ID=crtc0 plane0.FB_ID=@f plane0.CRTC_ID=crtc0 plane0.CRTC_H=1 plane0.SRC_H=65536 " ++ sets ++ codes "\n"

abbrev twice_wide : List ℕ
twice_wide = codes "plane0.CRTC_W=4 plane0.SRC_W=131072"

abbrev half_way : List ℕ
half_way = codes "plane0.CRTC_W=1 plane0.SRC_X=32768 plane0.SRC_W=65536"

-- the report where its request is accepted, and where it is refused
abbrev shown_as : List ℕ → List ℕ
shown_as frame = codes "J 1 1\nJ 1 2\nJ 1 3\nJ 1 4\nR 1 1 0 made 1000\nR 1 2 1 made 1001\nR 1 3 2 made 1002\nR 1 4 3 commit 0\nL 0 0 1 "
    ++ frame ++ codes "\nD drained\n"

abbrev refused_as : List ℕ → List ℕ
refused_as why = codes "J 1 1\nJ 1 2\nJ 1 3\nR 1 1 0 made 1000\nR 1 2 1 made 1001\nR 1 3 2 made 1002\nR 1 4 3 " ++ why
    ++ codes "\nD drained\n"

-- four pixels show each of two pixels twice
pub two_pixels_are_shown_twice_each : one pixmaps (text_with (codes "2") twice_wide)
    ≡ shown_as
    (codes "de5a6fb237d38c1df9e3176502b0d071f240fcea9e0f7334b38016f536fe617f\nP3\n4 1\n255\n97 98 99 97 98 99 102 111 111 102 111 111")
unfolding on_machines
two_pixels_are_shown_twice_each = refl

-- in profile 1 the sizes differ
pub profile_1_does_not_scale : one pixmaps (text_with (codes "1") twice_wide) ≡ refused_as (codes "ERANGE 22")
unfolding on_machines
profile_1_does_not_scale = refl

-- eight pixels of two are four times as many, and nine are more
pub at_most_four_times_as_wide : replies (device_of 2) ((two_made ++ wide 131072 8 ∷ wide 131072 9 ∷ []) ∷ []) ≡ three_made
    ++ reply.Commit 0 ∷ refused refusal.SCALED ∷ []
unfolding on_literals
at_most_four_times_as_wide = refl

-- one pixel of four is a quarter, and one of a little more is less
pub at_least_a_quarter_as_wide : replies (device_of 2) ((made_wide (1 ∷ 2 ∷ 3 ∷ 4 ∷ 5 ∷ []) 5 ++ wide 262144 1 ∷ wide 262145 1 ∷ []) ∷ [])
    ≡ three_made ++ reply.Commit 0 ∷ refused refusal.SCALED ∷ []
unfolding on_literals
at_least_a_quarter_as_wide = refl

-- the last two pixels of the widest destination show the last pixel of the widest source
pub widest_source_is_shown_to_its_end : map (source_at (pos 0) (pos 4294967295) (neg_ℤ (pos 262140)) (pos 262142)) (0 ∷ 1 ∷ []) ≡ 65535
    ∷ 65535 ∷ []
widest_source_is_shown_to_its_end = refl

-- Sources that begin between pixels

-- the middle of a pixel that begins half way in the first is in the second
pub source_begins_half_way_in_a_pixel : one pixmaps (text_with (codes "2") half_way)
    ≡ shown_as (codes "2ec11b473ade87d0010ecf4803df3297414903b35fd6b01ad75189e0abd39ffc\nP3\n4 1\n255\n102 111 111 0 0 0 0 0 0 0 0 0")
unfolding on_machines
source_begins_half_way_in_a_pixel = refl

pub profile_1_begins_at_a_pixel : one pixmaps (text_with (codes "1") half_way) ≡ refused_as (codes "EINVAL 23")
unfolding on_machines
profile_1_begins_at_a_pixel = refl

-- Gamma tables

-- 256 entries that turn each channel's value over: both bytes of a number of 16 bits are the value turned over
abbrev inverting : List ℕ
inverting = flat_map (λ value. replicate 6 (255 - value) ++ 0 ∷ 0 ∷ []) (range_with_len 0 256)

pub inverting_table_turns_values_over : option_map
    (λ g. map (λ value. slice_index g.red value ∷ slice_index g.green value ∷ slice_index g.blue value ∷ []) (0 ∷ 97 ∷ 255 ∷ []))
    (gamma_of_bytes inverting)
    ≡ Some ((255 ∷ 255 ∷ 255 ∷ []) ∷ (158 ∷ 158 ∷ 158 ∷ []) ∷ (0 ∷ 0 ∷ 0 ∷ []) ∷ [])
inverting_table_turns_values_over = refl

-- a table has 2048 bytes
pub shorter_blob_is_no_table : gamma_of_bytes (drop 1 inverting) ≡ None
shorter_blob_is_no_table = refl

-- a framebuffer of one pixel, a mode and a blob, under the labels 1 to 3, and a request that shows them
abbrev made_with_table : List ℕ → List Command
made_with_table bytes = command.Buffer 0 1 1 Xr24 (Solid 0x00616263) ∷ command.AddFb 1 0 ∷ command.Mode 2 named_tiny ∷ command.Blob 3 bytes
    ∷ []

abbrev sets_table : Assign
sets_table = sets kind.Crtc 0 GAMMA_LUT (value.Named 3)

abbrev four_made : List Reply
four_made = three_made ++ reply.Made 1003 ∷ []

pub table_of_2048_bytes_is_accepted : replies (device_of 2)
    ((made_with_table inverting ++ request ALLOW_MODESET (light ++ sets_table ∷ []) ∷ []) ∷ []) ≡ four_made ++ reply.Commit 0 ∷ []
unfolding on_literals
table_of_2048_bytes_is_accepted = refl

pub table_of_2047_bytes_is_refused : replies (device_of 2)
    ((made_with_table (drop 1 inverting) ++ request ALLOW_MODESET (light ++ sets_table ∷ []) ∷ []) ∷ []) ≡ four_made
    ++ refused refusal.INVALID_VALUE ∷ []
unfolding on_literals
table_of_2047_bytes_is_refused = refl

pub profile_1_has_no_tables : replies (device_of 1)
    ((made_with_table inverting ++ request ALLOW_MODESET (light ++ sets_table ∷ []) ∷ []) ∷ []) ≡ four_made ++ refused refusal.NO_PROPERTY
    ∷ []
unfolding on_literals
profile_1_has_no_tables = refl

-- a table is no mode
pub table_is_no_mode : replies (device_of 2) ((made_with_table inverting
    ++ request ALLOW_MODESET (sets kind.Crtc 0 MODE_ID (value.Named 3) ∷ []) ∷ []) ∷ []) ≡ four_made ++ refused refusal.INVALID_VALUE ∷ []
unfolding on_literals
table_is_no_mode = refl

-- a table goes with a request without leave for a modeset
pub table_needs_no_leave : replies (device_of 2)
    ((made_with_table inverting ++ request ALLOW_MODESET light ∷ request 0x0 (sets_table ∷ []) ∷ []) ∷ []) ≡ four_made ++ reply.Commit 0
    ∷ reply.Commit 1 ∷ []
unfolding on_literals
table_needs_no_leave = refl

abbrev turned_over : List Command → Script
turned_over commands = record {
  version = 2;
  topology = device_of 2;
  names = codes "b" ∷ codes "f" ∷ codes "m" ∷ codes "g"
      ∷ [];
  clients = (made_with_table inverting ++ commands) ∷ [];
}

abbrev entries : ℕ → List Entry
entries count = map (λ place. record { client = 1; command = place }) (range_with_len 1 count)

abbrev frames : Script → ℕ → List (List ℕ)
frames s count = map (λ p. p.frame) (show s (entries count) 100)

-- the finished colour goes through the table, which stays while the CRTC is off
pub colours_go_through_the_table : frames (turned_over (
    request ALLOW_MODESET (light ++ sets_table ∷ [])
    ∷ request ALLOW_MODESET (sets kind.Crtc 0 ACTIVE (number 0) ∷ [])
    ∷ request ALLOW_MODESET (sets kind.Crtc 0 ACTIVE (number 1) ∷ [])
    ∷ request 0x0 (sets kind.Crtc 0 GAMMA_LUT (number 0) ∷ [])
    ∷ [])) 8
    ≡ (158 ∷ 157 ∷ 156 ∷ []) ∷ [] ∷ (158 ∷ 157 ∷ 156 ∷ []) ∷ (97 ∷ 98 ∷ 99 ∷ []) ∷ []
unfolding on_literals
colours_go_through_the_table = refl

-- the registers of the CRTC hand the table on
pub registers_hand_the_table_on : report_of_script pixmaps (turned_over (request ALLOW_MODESET (light ++ sets_table ∷ []) ∷ []))
    ≡ codes "J 1 1\nJ 1 2\nJ 1 3\nJ 1 4\nJ 1 5\nR 1 1 0 made 1000\nR 1 2 1 made 1001\nR 1 3 2 made 1002\nR 1 4 3 made 1003\nR 1 5 4 commit 0\nL 0 0 1 8d7a83ff31a8b084d7c69c1ae6366858716612eca969680c5e43618552d574df\nP3\n1 1\n255\n158 157 156\nD drained\n"
unfolding on_machines
registers_hand_the_table_on = refl

-- the name is a property's in profile 2 alone
pub name_of_a_table_is_read : line_read 2 [] (codes "atomic 0x0 0 crtc0.GAMMA_LUT=0")
    ≡ Ok (command.Atomic (record { flags = 0; user_data = 0; assigns = sets kind.Crtc 0 GAMMA_LUT (number 0) ∷ [] }), [])
unfolding on_scripts
name_of_a_table_is_read = refl

pub name_of_a_table_is_unknown_in_profile_1 : line_read 1 [] (codes "atomic 0x0 0 crtc0.GAMMA_LUT=0")
    ≡ Ok (
      command.Atomic (record {
        flags = 0;
        user_data = 0;
        assigns =
            record { kind = kind.Crtc; index = 0; prop = Unknown 0; value = number 0 } ∷ [];
      }),
      codes "GAMMA_LUT" ∷ [],
    )
unfolding on_scripts
name_of_a_table_is_unknown_in_profile_1 = refl

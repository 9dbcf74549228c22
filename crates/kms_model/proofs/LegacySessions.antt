-- Worked examples of whole scripts with older calls, computed: that requests say what they say, and that the device shows their
-- screen.
use Rattle.std.proofs.Common.{◌≡◌, ℕ, Bool, true, false, List, [], ◌∷◌, ◌++◌, length, map, refl, codes, pos, Option, Some, None, Result, Ok}
use Rattle.std.proofs.Common.{Err, drop}
use Rattle.std.specs.Prelude.{◌&&◌, ◌==◌, ℤ}
use Rattle.std.specs.Cmp.Lexicographic.{pointwise}
use Rattle.std.specs.List.{flat_map, list_all}
use Rattle.std.specs.Ordering.{int_eq}
use Rattle.std.specs.Str.{bytes_eq}
use Rattle.kms_model.specs.declared.flags.TheConstants.{ALLOW_MODESET}
use Rattle.kms_model.specs.declared.legacy.LegacyCall.TheVariants as call
use Rattle.kms_model.specs.declared.legacy.LegacyCommand.TheVariants.{Plain, Call}
use Rattle.kms_model.specs.declared.legacy.LegacyCommand.{LegacyCommand}
use Rattle.kms_model.specs.declared.legacy.LegacyScript.{LegacyScript}
use Rattle.kms_model.specs.declared.legacy.TheConstants.LegacyRefusal.{NO_PLANE, NOT_SHOWN, FORMAT_CHANGES}
use Rattle.kms_model.specs.declared.objects.Format.TheVariants.{Xr24}
use Rattle.kms_model.specs.declared.objects.Kind.TheVariants as kind
use Rattle.kms_model.specs.declared.objects.Topology.{Topology}
use Rattle.kms_model.specs.declared.pictures.FbInfo.{FbInfo}
use Rattle.kms_model.specs.declared.pictures.Layer.{Layer}
use Rattle.kms_model.specs.declared.pictures.Picture.TheVariants.{Off, On}
use Rattle.kms_model.specs.declared.pictures.Picture.{Picture}
use Rattle.kms_model.specs.declared.pictures.Rect.{Rect}
use Rattle.kms_model.specs.declared.properties.TheConstants.{FB_ID, MODE_ID}
use Rattle.kms_model.specs.declared.replies.Reply.TheVariants as reply
use Rattle.kms_model.specs.declared.replies.Reply.{Reply}
use Rattle.kms_model.specs.declared.replies.TheConstants.Refusal as refusal
use Rattle.kms_model.specs.declared.scripts.Command.TheVariants as command
use Rattle.kms_model.specs.declared.scripts.Command.{Command}
use Rattle.kms_model.specs.declared.scripts.Request.{Request}
use Rattle.kms_model.specs.declared.scripts.Script.{Script}
use Rattle.kms_model.specs.declared.scripts.Value.TheVariants as value
use Rattle.kms_model.specs.declared.worlds.World.{World}
use Rattle.kms_model.specs.Device.Execution.{execute}
use Rattle.kms_model.specs.Device.Objects.{indices_of, object_id}
use Rattle.kms_model.specs.Device.World.{start}
use Rattle.kms_model.specs.Firsts.{listed}
use Rattle.kms_model.specs.Frames.Pictures.{picture}
use Rattle.kms_model.specs.Legacy.LegacyLines.{legacy_input}
use Rattle.kms_model.specs.Legacy.Screen.{Screen, blank_screen, screen_after, screen_next, screen_picture}
use Rattle.kms_model.specs.Legacy.Translated.{AreTranslated, after_line, lone_commands, meant, translated}
use Rattle.kms_model.specs.Script.InputLines.{Fault}
use Rattle.kms_model.specs.Script.Spelling.{spelling}
use Rattle.kms_model.specs.Script.WholeInput.{input}
use Rattle.kms_model.proofs.OnLegacy.{on_legacy}
use Rattle.kms_model.proofs.Rows.{device, head, mode_made, named_tiny, pixel_made}
use Rattle.kms_model.proofs.TranslatedRows.{flips, lights, names, new_script, old_script}
use Rattle.kms_model.proofs.VerdictRows.{refused, sets}

-- Pictures by their numbers

abbrev rect_numbers : Rect → List ℤ
rect_numbers r = r.x ∷ r.y ∷ r.w ∷ r.h ∷ []

abbrev visible_numbers : Option Rect → List ℤ
visible_numbers None = []
visible_numbers (Some r) = rect_numbers r

abbrev layer_numbers : Layer → List ℤ
layer_numbers l =
    pos l.plane ∷ pos l.fb.id ∷ rect_numbers l.dst ++ rect_numbers l.src ++ visible_numbers l.visible ++ pos l.alpha ∷ pos l.blend ∷ []

abbrev numbers_in : Picture → List ℤ
numbers_in Off = []
numbers_in (On s) = pos s.mode.hdisplay ∷ pos s.mode.vdisplay ∷ pos s.conn ∷ flat_map layer_numbers s.layers

abbrev shows_at : Topology → World → Screen → ℕ → Bool
shows_at t w screen crtc =
    pointwise int_eq (numbers_in (picture t w.things w.values (object_id kind.Crtc crtc))) (numbers_in (screen_picture t screen crtc))

abbrev shows : Topology → World → Screen → Bool
shows t w screen = list_all (shows_at t w screen) (indices_of t kind.Crtc)

-- before and after each line of a script with older calls the device shows the screen, where the new script has the same names
abbrev shows_along : List (List ℕ) → Topology → World → Screen → List LegacyCommand → List Command → Bool
shows_along words t w screen [] lines = shows t w screen
shows_along words t w screen (c ∷ cs) lines =
    let next = after_line t w (meant words words t w c) lines in
    shows t w screen && shows_along words t next.world (screen_next words words t w next.accepted c screen) cs next.lines

pub its_screen_is_kept : shows_along names device (start device) blank_screen old_script.commands (lone_commands new_script.clients) ≡ true
unfolding on_legacy
its_screen_is_kept = refl

abbrev made_fb : FbInfo
made_fb = record { id = 1001; width = 1; height = 1; format = Xr24 }

-- the screen at its end
abbrev last_screen : Screen
last_screen = screen_after device None (Some made_fb) flips (screen_after device (Some named_tiny) (Some made_fb) lights blank_screen)

pub its_screen_is_one_pixel : numbers_in (screen_picture device last_screen 0)
    ≡ map pos (1 ∷ 1 ∷ 300 ∷ 200 ∷ 1001 ∷ 0 ∷ 0 ∷ 1 ∷ 1 ∷ 0 ∷ 0 ∷ 65536 ∷ 65536 ∷ 0 ∷ 0 ∷ 1 ∷ 1 ∷ 65535 ∷ 0 ∷ [])
unfolding on_legacy
its_screen_is_one_pixel = refl

-- Names: a call says its framebuffer first, and its request the mode. A label of a call that leaves no line is no name.

abbrev old_lines_in : Result LegacyScript Fault → List LegacyCommand
old_lines_in (Ok s) = s.commands
old_lines_in (Err fault) = []

abbrev old_names_in : Result LegacyScript Fault → List (List ℕ)
old_names_in (Ok s) = s.base.names
old_names_in (Err fault) = []

abbrev lines_in : Result Script Fault → List Command
lines_in (Ok s) = lone_commands s.clients
lines_in (Err fault) = []

abbrev names_in : Result Script Fault → List (List ℕ)
names_in (Ok s) = s.names
names_in (Err fault) = []

-- a flip that leaves no line, and what lights the CRTC, before its labels are made and behind that
abbrev says_before_it_makes : Result LegacyScript Fault
says_before_it_makes = legacy_input (head ++ codes "client\npageflip 0 @x 0x0 0\nsetcrtc 0 @f 0 0 @m 0\n" ++ pixel_made ++ mode_made
    ++ codes "setcrtc 0 @f 0 0 @m 0\n")

abbrev says_anew : Result Script Fault
says_anew = input (head ++ codes "client\natomic 0x400 0 crtc0.ACTIVE=1 crtc0.MODE_ID=@m conn0.CRTC_ID=crtc0 plane0.FB_ID=@f plane0.CRTC_ID=crtc0 plane0.CRTC_X=0 plane0.CRTC_Y=0 plane0.CRTC_W=0 plane0.CRTC_H=0 plane0.SRC_X=0 plane0.SRC_Y=0 plane0.SRC_W=0 plane0.SRC_H=0\n" ++ pixel_made ++ mode_made ++ codes "atomic 0x400 0 crtc0.ACTIVE=1 crtc0.MODE_ID=@m conn0.CRTC_ID=crtc0 plane0.FB_ID=@f plane0.CRTC_ID=crtc0 plane0.CRTC_X=0 plane0.CRTC_Y=0 plane0.CRTC_W=1 plane0.CRTC_H=1 plane0.SRC_X=0 plane0.SRC_Y=0 plane0.SRC_W=65536 plane0.SRC_H=65536\n")

pub names_of_both_are_those_of_their_lines : old_names_in says_before_it_makes ∷ names_in says_anew ∷ []
    ≡ (codes "x" ∷ codes "f" ∷ codes "m" ∷ codes "b" ∷ []) ∷ (codes "m" ∷ codes "f" ∷ codes "b" ∷ []) ∷ []
unfolding on_legacy
names_of_both_are_those_of_their_lines = refl

-- a size of what is not made yet is 0
pub labels_are_numbered_anew : AreTranslated (old_names_in says_before_it_makes) (names_in says_anew) device (start device)
    (old_lines_in says_before_it_makes) (lines_in says_anew)
unfolding on_legacy
labels_are_numbered_anew = (tt, (refl, (refl, (refl, (refl, (refl, refl))))))

-- A session on two CRTCs

-- two primary planes, a cursor plane, an overlay and two connectors, each of both CRTCs; framebuffers of one pixel, two of three by two
-- over one buffer, and one of one pixel in another format; a mode of one pixel, and one of two by one
abbrev session_head : List ℕ
session_head =
    codes "kms 1\ncrtcs 2\nplane primary 0,1 XR24\nplane primary 0,1 XR24,RG16\nplane cursor 0,1 XR24\nplane overlay 0,1 XR24\n"
    ++ codes "conn 0,1\nconn 0,1\nclient\nbuffer a 1 1 XR24 ramp\naddfb f a\nbuffer b 3 2 XR24 ramp\naddfb g b\naddfb k b\n"
    ++ codes "buffer c 1 1 RG16 ramp\naddfb h c\nmode m 1 1 1 1 1 0 1 1 1 1 0 60 0 0 one\nmode n 1 2 2 2 2 0 1 1 1 1 0 60 0 0 two\n"

-- The connector of the first CRTC is not given to the second, a shown plane does not go straight to another CRTC, and a CRTC
-- with a plane does not go off. A flip shows another framebuffer, and the same part of it. What is shown has its format also where
-- it was closed; a closed framebuffer has none, and its flip leaves a line.
abbrev both_lit : List ℕ
both_lit =
    codes "pageflip 0 @g 0x0 1\nsetcrtc 0 @g 1 1 @n 0\nsetcrtc 1 @g 1 0 @m 0\nsetcrtc 1 @g 1 0 @m 1\ncursor 0 @g 1 0\ncursor 1 @f 0 0\n"
    ++ codes "cursor 0 move -1 1\nsetplane 3 1 @f 0 0 1 1 0 0 65536 65536\nsetplane 3 0 @f 0 0 1 1 0 0 65536 65536\n"
    ++ codes "pageflip 1 @h 0x0 1\npageflip 1 @f 0x0 1\npageflip 0 @k 0x1 3\nclosefb k\npageflip 0 @h 0x0 0\nclosefb h\n"
    ++ codes "pageflip 0 @h 0x0 0\nsetcrtc 1 off\n"

-- The second CRTC goes off, and its primary plane is shown on the first, from where `setcrtc 1 off` takes it.
abbrev one_after_the_other_off : List ℕ
one_after_the_other_off =
    codes "setplane 3 off\nsetcrtc 1 off\ncursor 0 off\ncursor 0 move 1 1\nsetcrtc 0 @k 0 0 @n 1\nsetcrtc 0 @f 0 0 @m 1\n"
    ++ codes "setplane 1 0 @f 0 0 1 1 0 0 65536 65536\nsetcrtc 1 off\nsetplane 0 off\npageflip 0 @f 0x0 0\nsetcrtc 0 off\n"

abbrev session : Result LegacyScript Fault
session = legacy_input (session_head ++ both_lit ++ one_after_the_other_off)

abbrev device_in : Result LegacyScript Fault → Topology
device_in (Ok s) = s.base.topology
device_in (Err fault) = device

-- the command that a line leaves, as the only line to come
abbrev left_by : List (List ℕ) → Topology → World → LegacyCommand → List Command
left_by words t w c = listed (meant words words t w c)

abbrev world_behind : List (List ℕ) → Topology → World → LegacyCommand → World
world_behind words t w c = (after_line t w (meant words words t w c) (left_by words t w c)).world

-- the lines that a script leaves, where the new script has the same names
abbrev left_along : List (List ℕ) → Topology → World → List LegacyCommand → List Command
left_along words t w [] = []
left_along words t w (c ∷ cs) = left_by words t w c ++ left_along words t (world_behind words t w c) cs

abbrev answer_to : Topology → World → Result Request ℕ → Result Reply ℕ
answer_to t w (Ok r) = Ok (execute t w 1 (command.Atomic r)).reply
answer_to t w (Err n) = Err n

-- what is answered to what a line leaves, or why it leaves none
abbrev told : List (List ℕ) → Topology → World → LegacyCommand → Result Reply ℕ
told words t w (Plain c) = Ok (execute t w 1 c).reply
told words t w (Call c) = answer_to t w (translated words words t w c)

abbrev told_along : List (List ℕ) → Topology → World → List LegacyCommand → List (Result Reply ℕ)
told_along words t w [] = []
told_along words t w (c ∷ cs) = told words t w c ∷ told_along words t (world_behind words t w c) cs

abbrev session_names : List (List ℕ)
session_names = old_names_in session

abbrev session_start : World
session_start = start (device_in session)

abbrev session_left : List Command
session_left = left_along session_names (device_in session) session_start (old_lines_in session)

-- behind the nine things that are made first
pub session_is_answered : drop 9 (told_along session_names (device_in session) session_start (old_lines_in session))
    ≡ Err NOT_SHOWN.0
    ∷ Ok (reply.Commit 0)
    ∷ Ok (refused refusal.MODE_XOR_CONNECTOR)
    ∷ Ok (reply.Commit 1)
    ∷ Ok (reply.Commit 2)
    ∷ Err NO_PLANE.0
    ∷ Ok (reply.Commit 3)
    ∷ Ok (reply.Commit 4)
    ∷ Ok (refused refusal.SWITCHES_CRTC)
    ∷ Err FORMAT_CHANGES.0
    ∷ Ok (refused refusal.SOURCE_OUTSIDE_FRAMEBUFFER)
    ∷ Ok (reply.Commit 5)
    ∷ Ok reply.Done
    ∷ Err FORMAT_CHANGES.0
    ∷ Ok reply.Done
    ∷ Ok (refused refusal.INVALID_VALUE)
    ∷ Ok (refused refusal.CRTC_NOT_ENABLED)
    ∷ Ok (reply.Commit 6)
    ∷ Ok (reply.Commit 7)
    ∷ Ok (reply.Commit 8)
    ∷ Ok (reply.Commit 9)
    ∷ Ok (refused refusal.INVALID_VALUE)
    ∷ Ok (reply.Commit 10)
    ∷ Ok (reply.Commit 11)
    ∷ Ok (reply.Commit 12)
    ∷ Ok (reply.Commit 13)
    ∷ Err NOT_SHOWN.0
    ∷ Ok (reply.Commit 14)
    ∷ []
unfolding on_legacy
session_is_answered = refl

-- both CRTCs show the screen before and after each of its lines
pub session_keeps_the_screen : shows_along session_names (device_in session) session_start blank_screen (old_lines_in session) session_left
    ≡ true
unfolding on_legacy
session_keeps_the_screen = refl

-- False neighbours

-- A translation whose names are those of the call, its framebuffer first, is spelled by no text: what its own text spells has
-- the mode first, as the request says it.
abbrev in_order_of_the_call : Script
in_order_of_the_call = record {
  version = 1;
  topology = device;
  names = codes "f" ∷ codes "m" ∷ [];
  clients =
      (command.Atomic (record {
        flags = ALLOW_MODESET;
        user_data = 0;
        assigns = sets kind.Crtc 0 MODE_ID (value.Named 1) ∷ sets kind.Plane 0 FB_ID (value.Named 0) ∷ [];
      })
      ∷ [])
      ∷ [];
}

abbrev its_own_text : Result Script Fault
its_own_text = input (spelling in_order_of_the_call)

pub names_of_the_call_are_not_the_names : pointwise bytes_eq (names_in its_own_text) in_order_of_the_call.names ≡ false
unfolding on_legacy
names_of_the_call_are_not_the_names = refl

-- a cursor plane above the primary one
abbrev with_cursor : Topology
with_cursor = record device { planes = record { kind = 1; crtcs = 1; formats = 1 } ∷ record { kind = 2; crtcs = 1; formats = 1 } ∷ [] }

abbrev lit_screen : Screen
lit_screen = screen_after with_cursor (Some named_tiny) (Some made_fb) lights blank_screen

abbrev layers_in : Picture → ℕ
layers_in Off = 0
layers_in (On s) = length s.layers

abbrev layers_of : Screen → ℕ
layers_of screen = layers_in (screen_picture with_cursor screen 0)

abbrev moved : Screen
moved = screen_after with_cursor None None (call.CursorMove 0 (pos 0) (pos 0)) lit_screen

abbrev put : Screen
put = screen_after with_cursor None (Some made_fb) (call.Cursor 0 1 (pos 0) (pos 0)) lit_screen

-- A cursor plane that is not there is not moved: a screen on which the move had put it would show a layer more.
pub moving_places_no_plane : layers_of moved ∷ layers_of put ∷ [] ≡ 1 ∷ 2 ∷ []
unfolding on_legacy
moving_places_no_plane = refl

pub moving_is_not_placing : (layers_of moved == layers_of put) ≡ false
unfolding on_legacy
moving_is_not_placing = refl

-- Worked examples of older calls, computed: what texts spell, and what calls ask for.
use Rattle.std.proofs.Common.{◌≡◌, ℕ, true, false, List, [], ◌∷◌, ◌++◌, map, refl, codes, pos, Option, Some, None, Result, Ok, Err}
use Rattle.std.specs.Prelude.{negsuc}
use Rattle.kms_model.specs.declared.flags.TheConstants.{NONBLOCK, ALLOW_MODESET}
use Rattle.kms_model.specs.declared.legacy.LegacyCall.TheVariants as call
use Rattle.kms_model.specs.declared.legacy.LegacyCommand.TheVariants.{Call}
use Rattle.kms_model.specs.declared.legacy.LegacyScript.{LegacyScript}
use Rattle.kms_model.specs.declared.legacy.TheConstants.LegacyRefusal.{NO_PLANE, NOT_SHOWN, FORMAT_CHANGES}
use Rattle.kms_model.specs.declared.objects.Format.TheVariants.{Xr24, Rg16}
use Rattle.kms_model.specs.declared.objects.Kind.TheVariants as kind
use Rattle.kms_model.specs.declared.objects.Topology.{Topology}
use Rattle.kms_model.specs.declared.pictures.FbInfo.{FbInfo}
use Rattle.kms_model.specs.declared.pictures.Rect.{Rect}
use Rattle.kms_model.specs.declared.properties.TheConstants.{FB_ID, CRTC_ID, CRTC_X, CRTC_Y, CRTC_W, CRTC_H, SRC_X, SRC_Y, SRC_W, SRC_H}
use Rattle.kms_model.specs.declared.properties.TheConstants.{ACTIVE, MODE_ID}
use Rattle.kms_model.specs.declared.scripts.Assign.{Assign}
use Rattle.kms_model.specs.declared.scripts.Request.{Request}
use Rattle.kms_model.specs.declared.scripts.Script.{Script}
use Rattle.kms_model.specs.declared.scripts.Value.TheVariants as value
use Rattle.kms_model.specs.declared.scripts.Why.TheVariants.{Bytes, Cut, Form, Label}
use Rattle.kms_model.specs.declared.scripts.Why.{Why}
use Rattle.kms_model.specs.declared.states.Duplicates.{Duplicates}
use Rattle.kms_model.specs.declared.states.PlaneState.{PlaneState}
use Rattle.kms_model.specs.Device.World.{start}
use Rattle.kms_model.specs.Legacy.LegacyLines.{legacy_input}
use Rattle.kms_model.specs.Legacy.Translated.{translated}
use Rattle.kms_model.specs.Legacy.Translation.{Present, call_request, cursor, present_of, primary, special_plane}
use Rattle.kms_model.specs.Script.InputLines.{Fault}
use Rattle.kms_model.proofs.OnLegacy.{on_legacy}
use Rattle.kms_model.proofs.Rows.{device, head}
use Rattle.kms_model.proofs.VerdictRows.{number, sets}

-- the device of the first script, with no client
abbrev pub base_with : List (List ℕ) → Script
base_with words = record { version = 1; topology = device; names = words; clients = [] }

-- Planes of a type

-- two CRTCs; planes that may go on both, the first, or the second alone
abbrev planes_of_two : Topology
planes_of_two = record {
  profile = 1;
  crtcs = 2;
  planes =
      record { kind = 0; crtcs = 3; formats = 1 }
      ∷ record { kind = 1; crtcs = 3; formats = 1 }
      ∷ record { kind = 2; crtcs = 2; formats = 1 }
      ∷ record { kind = 1; crtcs = 3; formats = 1 }
      ∷ record { kind = 2; crtcs = 3; formats = 1 }
      ∷ [];
  conns = 3 ∷ 3 ∷ [];
}

-- each CRTC has the least that no lower one has
pub each_crtc_has_its_own_planes : map (λ type. special_plane planes_of_two type 0 ∷ special_plane planes_of_two type 1 ∷ [])
    (primary ∷ cursor ∷ [])
    ≡ (Some 1 ∷ Some 3 ∷ []) ∷ (Some 4 ∷ Some 2 ∷ []) ∷ []
unfolding on_legacy
each_crtc_has_its_own_planes = refl

-- one primary plane that may go on both is that of the first
abbrev one_plane_of_two : Topology
one_plane_of_two = record planes_of_two { planes = record { kind = 1; crtcs = 3; formats = 1 } ∷ [] }

pub second_crtc_has_no_plane : special_plane one_plane_of_two primary 1 ≡ None
unfolding on_legacy
second_crtc_has_no_plane = refl

-- The second of three CRTCs has no primary plane, and the third has the one that none of the lower ones has.
abbrev planes_of_three : Topology
planes_of_three = record {
  profile = 1;
  crtcs = 3;
  planes =
      record { kind = 1; crtcs = 7; formats = 1 }
      ∷ record { kind = 2; crtcs = 7; formats = 1 }
      ∷ record { kind = 1; crtcs = 5; formats = 1 }
      ∷ [];
  conns = 1 ∷ [];
}

pub third_crtc_has_none_of_the_lower_ones :
    map (λ type. map (special_plane planes_of_three type) (0 ∷ 1 ∷ 2 ∷ [])) (primary ∷ cursor ∷ [])
    ≡ (Some 0 ∷ None ∷ Some 2 ∷ []) ∷ (Some 1 ∷ None ∷ None ∷ []) ∷ []
unfolding on_legacy
third_crtc_has_none_of_the_lower_ones = refl

pub no_cursor_plane_is_refused : translated [] [] device (start device) (call.CursorMove 0 (pos 1) (pos 1)) ≡ Err NO_PLANE.0
unfolding on_legacy
no_cursor_plane_is_refused = refl

-- What calls ask for

-- both connectors are on the first CRTC, and so is its primary plane with a framebuffer of RG16
abbrev shown_fb : FbInfo
shown_fb = record { id = 1000; width = 3; height = 2; format = Rg16 }

abbrev now : Present
now = record { conn_crtc = λ conn. 100; plane_crtc = λ plane. 100; plane_fb = λ plane. Some shown_fb }

-- The other connector goes off, and the one that is set is set once. A size of a mode that is not there is 0.
pub other_connectors_go_off : call_request planes_of_two now None (Some shown_fb) (call.SetCrtc 0 8 2 65535 9 0)
    ≡ Ok (record {
      flags = ALLOW_MODESET;
      user_data = 0;
      assigns =
          sets kind.Crtc 0 ACTIVE (number 1)
          ∷ sets kind.Crtc 0 MODE_ID (value.Named 9)
          ∷ sets kind.Conn 1 CRTC_ID (number 0)
          ∷ sets kind.Conn 0 CRTC_ID (value.Crtc 0)
          ∷ sets kind.Plane 1 FB_ID (value.Named 8)
          ∷ sets kind.Plane 1 CRTC_ID (value.Crtc 0)
          ∷ sets kind.Plane 1 CRTC_X (number 0)
          ∷ sets kind.Plane 1 CRTC_Y (number 0)
          ∷ sets kind.Plane 1 CRTC_W (number 0)
          ∷ sets kind.Plane 1 CRTC_H (number 0)
          ∷ sets kind.Plane 1 SRC_X (number 131072)
          ∷ sets kind.Plane 1 SRC_Y (number 4294901760)
          ∷ sets kind.Plane 1 SRC_W (number 0)
          ∷ sets kind.Plane 1 SRC_H (number 0)
          ∷ [];
    })
unfolding on_legacy
other_connectors_go_off = refl

pub crtc_goes_off : call_request planes_of_two now None None (call.CrtcOff 0)
    ≡ Ok (record {
      flags = ALLOW_MODESET;
      user_data = 0;
      assigns =
          sets kind.Crtc 0 ACTIVE (number 0)
          ∷ sets kind.Crtc 0 MODE_ID (number 0)
          ∷ sets kind.Conn 0 CRTC_ID (number 0)
          ∷ sets kind.Conn 1 CRTC_ID (number 0)
          ∷ sets kind.Plane 1 FB_ID (number 0)
          ∷ sets kind.Plane 1 CRTC_ID (number 0)
          ∷ [];
    })
unfolding on_legacy
crtc_goes_off = refl

-- on its cursor plane, and in the framebuffer's size
pub whole_framebuffer_is_the_cursor : call_request planes_of_two now None (Some shown_fb) (call.Cursor 1 8 (negsuc 4) (pos 6))
    ≡ Ok (record {
      flags = 0;
      user_data = 0;
      assigns =
          sets kind.Plane 2 FB_ID (value.Named 8)
          ∷ sets kind.Plane 2 CRTC_ID (value.Crtc 1)
          ∷ sets kind.Plane 2 CRTC_X (value.Num (negsuc 4))
          ∷ sets kind.Plane 2 CRTC_Y (number 6)
          ∷ sets kind.Plane 2 CRTC_W (number 3)
          ∷ sets kind.Plane 2 CRTC_H (number 2)
          ∷ sets kind.Plane 2 SRC_X (number 0)
          ∷ sets kind.Plane 2 SRC_Y (number 0)
          ∷ sets kind.Plane 2 SRC_W (number 196608)
          ∷ sets kind.Plane 2 SRC_H (number 131072)
          ∷ [];
    })
unfolding on_legacy
whole_framebuffer_is_the_cursor = refl

-- with no leave for a modeset and no user data
abbrev asks_for : List Assign → Result Request ℕ
asks_for assigns = Ok (record { flags = 0; user_data = 0; assigns = assigns })

pub planes_are_put_moved_and_taken_away : map (call_request planes_of_two now None (Some shown_fb)) (
    call.SetPlane 0 1 8 (record { x = negsuc 0; y = pos 2; w = pos 3; h = pos 4 }) (record { x = pos 5; y = pos 6; w = pos 7; h = pos 9 })
    ∷ call.PlaneOff 0
    ∷ call.CursorMove 1 (negsuc 4) (pos 6)
    ∷ call.CursorOff 1
    ∷ [])
    ≡ asks_for (
    sets kind.Plane 0 FB_ID (value.Named 8)
    ∷ sets kind.Plane 0 CRTC_ID (value.Crtc 1)
    ∷ sets kind.Plane 0 CRTC_X (value.Num (negsuc 0))
    ∷ sets kind.Plane 0 CRTC_Y (number 2)
    ∷ sets kind.Plane 0 CRTC_W (number 3)
    ∷ sets kind.Plane 0 CRTC_H (number 4)
    ∷ sets kind.Plane 0 SRC_X (number 5)
    ∷ sets kind.Plane 0 SRC_Y (number 6)
    ∷ sets kind.Plane 0 SRC_W (number 7)
    ∷ sets kind.Plane 0 SRC_H (number 9)
    ∷ [])
    ∷ asks_for (sets kind.Plane 0 FB_ID (number 0) ∷ sets kind.Plane 0 CRTC_ID (number 0) ∷ [])
    ∷ asks_for (sets kind.Plane 2 CRTC_X (value.Num (negsuc 4)) ∷ sets kind.Plane 2 CRTC_Y (number 6) ∷ [])
    ∷ asks_for (sets kind.Plane 2 FB_ID (number 0) ∷ sets kind.Plane 2 CRTC_ID (number 0) ∷ [])
    ∷ []
unfolding on_legacy
planes_are_put_moved_and_taken_away = refl

-- duplicated states of which a request has taken everything off its CRTC
abbrev nowhere : Rect
nowhere = record { x = pos 0; y = pos 0; w = pos 0; h = pos 0 }

abbrev plane_on_second : PlaneState
plane_on_second = record { fb = Some shown_fb; crtc = 101; dst = nowhere; src = nowhere; alpha = 65535; blend = 0; zpos = 0 }

abbrev taken_off : Duplicates
taken_off = record {
  crtcs = [];
  planes = Some (record { old = plane_on_second; new = record plane_on_second { fb = None; crtc = 0 } }) ∷ [];
  conns = Some (record { old = record { crtc = 100 }; new = record { crtc = 0 } }) ∷ [];
}

abbrev numbers_at : Present → ℕ → ℕ × (ℕ × Option FbInfo)
numbers_at p index = (p.conn_crtc index, (p.plane_crtc index, p.plane_fb index))

pub states_are_read_as_they_were : map (numbers_at (present_of taken_off)) (0 ∷ 1 ∷ [])
    ≡ (100, (101, Some shown_fb)) ∷ (0, (0, None)) ∷ []
unfolding on_legacy
states_are_read_as_they_were = refl

-- A plane that the first CRTC shows is not shown on the second, which is told before the format. A framebuffer that is not
-- there changes no format.
abbrev flip_to : Option FbInfo → ℕ → Result Request ℕ
flip_to fb crtc = call_request planes_of_two now None fb (call.PageFlip crtc 8 false 0)

abbrev other_fb : Option FbInfo
other_fb = Some (record shown_fb { format = Xr24 })

pub flips_are_refused : flip_to other_fb 1 ∷ flip_to None 1 ∷ flip_to other_fb 0 ∷ flip_to None 0 ∷ []
    ≡ Err NOT_SHOWN.0
    ∷ Err NOT_SHOWN.0
    ∷ Err FORMAT_CHANGES.0
    ∷ Ok (record { flags = NONBLOCK; user_data = 0; assigns = sets kind.Plane 1 FB_ID (value.Named 8) ∷ [] })
    ∷ []
unfolding on_legacy
flips_are_refused = refl

-- Faults

abbrev behind_client : List ℕ → List ℕ
behind_client line = head ++ codes "client\n" ++ line ++ 10 ∷ []

-- a sixth line that is none
abbrev formless : List (List ℕ)
formless =
    codes "client"
    ∷ codes "atomic 0x0 0"
    ∷ codes "conn 0"
    ∷ codes "schedule"
    -- neither a CRTC, a plane nor a connector of the device
    ∷ codes "setcrtc 1 off"
    ∷ codes "setplane 1 off"
    ∷ codes "setcrtc 0 @f 0 0 @m 1"
    -- numbers out of their ranges
    ∷ codes "setcrtc 0 @f 65536 0 @m 0"
    ∷ codes "setplane 0 0 @f 2147483648 0 1 1 0 0 65536 65536"
    ∷ codes "setplane 0 0 @f 0 0 -1 1 0 0 65536 65536"
    ∷ codes "setplane 0 0 @f 0 0 1 1 0 0 65536 4294967296"
    ∷ codes "cursor 0 move -2147483649 0"
    ∷ codes "pageflip 0 @f 0x0 18446744073709551616"
    -- other flags, and another spelling
    ∷ codes "pageflip 0 @f 0x2 7"
    ∷ codes "pageflip 0 @f 0x00 7"
    ∷ codes "pageflip 0 @f 1 7"
    -- labels are named by `@`
    ∷ codes "pageflip 0 f 0x1 7"
    ∷ codes "setcrtc 0 @f 0 0 m 0"
    -- words too few and too many
    ∷ codes "setcrtc 0"
    ∷ codes "setplane 0 off 0"
    ∷ codes "cursor 0 move 1"
    ∷ codes "cursor 0 move 1 1 1"
    ∷ codes "cursor 0  off"
    ∷ []

abbrev fault_at : ℕ → Why → Result LegacyScript Fault
fault_at line why = Err (record { line = line; why = why })

pub formless_lines_are_faults : map (λ line. legacy_input (behind_client line)) formless ≡ map (λ line. fault_at 6 Form) formless
unfolding on_legacy
formless_lines_are_faults = refl

-- a call before the client, the device without a connector, and a label that is made twice; a line without its end, and a tab,
-- also in such a line
pub other_faults_are_those_of_scripts : map legacy_input (
    (head ++ codes "setcrtc 0 off\nclient\n")
    ∷ codes "kms 1\ncrtcs 1\nplane primary 0 XR24\n"
    ∷ (head ++ codes "client\nfence f\npageflip 0 @f 0x0 0\nfence f\n")
    ∷ (head ++ codes "client\nsetcrtc 0 off")
    ∷ (head ++ codes "client\nsetcrtc 0 off" ++ 9 ∷ 10 ∷ [])
    ∷ (head ++ codes "client\nsetcrtc" ++ 9 ∷ codes "0 off")
    ∷ [])
    ≡ fault_at 5 Form ∷ fault_at 4 Form ∷ fault_at 8 Label ∷ fault_at 6 Cut ∷ fault_at 6 Bytes ∷ fault_at 6 Bytes ∷ []
unfolding on_legacy
other_faults_are_those_of_scripts = refl

-- no client and no command
pub device_alone_is_read : legacy_input head ≡ Ok (record { base = base_with []; client = false; commands = [] })
unfolding on_legacy
device_alone_is_read = refl

-- numbers at the ends of their ranges, and labels that no line makes, which a call says in the order of its words
pub other_calls_are_read : legacy_input (head ++ codes "client\nsetcrtc 0 @f 65535 0 @m 0\nsetplane 0 0 @g -2147483648 2147483647 0 2147483647 0 4294967295 1 2\nsetplane 0 off\nsetcrtc 0 off\npageflip 0 @m 0x0 18446744073709551615\ncursor 0 @f -1 0\ncursor 0 move 0 -1\ncursor 0 off\n")
    ≡ Ok (record {
      base = base_with (codes "f" ∷ codes "m" ∷ codes "g" ∷ []);
      client = true;
      commands =
          Call (call.SetCrtc 0 0 65535 0 1 0)
          ∷ Call (call.SetPlane 0 0 2
          (record { x = negsuc 2147483647; y = pos 2147483647; w = pos 0; h = pos 2147483647 })
          (record { x = pos 0; y = pos 4294967295; w = pos 1; h = pos 2 }))
          ∷ Call (call.PlaneOff 0)
          ∷ Call (call.CrtcOff 0)
          ∷ Call (call.PageFlip 0 1 false 18446744073709551615)
          ∷ Call (call.Cursor 0 0 (negsuc 0) (pos 0))
          ∷ Call (call.CursorMove 0 (pos 0) (negsuc 0))
          ∷ Call (call.CursorOff 0)
          ∷ [];
    })
unfolding on_legacy
other_calls_are_read = refl

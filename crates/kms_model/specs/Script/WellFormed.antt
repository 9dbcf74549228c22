-- What holds of every script that some bytes spell, within the limits.
use Rattle.std.specs.Prelude.{◌≡◌, ◌≤◌, ℕ, ◌-◌, ◌*◌, ◌^◌, ◌==◌, ◌&&◌, Bool, true, not, nat_le, nat_lt, List, ◌++◌, length, replicate}
use Rattle.std.specs.Prelude.{is_some, ℤ, pos, negsuc, int_le, ⊤}
use Rattle.std.specs.List.{AllByRecursion, IsDistinct, list_all}
use Rattle.std.specs.Str.{bytes_eq}
use Rattle.kms_model.specs.declared.objects.Format.{Format}
use Rattle.kms_model.specs.declared.objects.Mode.{Mode}
use Rattle.kms_model.specs.declared.objects.PlaneInfo.{PlaneInfo}
use Rattle.kms_model.specs.declared.scripts.Assign.{Assign}
use Rattle.kms_model.specs.declared.scripts.Command.{Command}
use Rattle.kms_model.specs.declared.scripts.Command.TheVariants as command
use Rattle.kms_model.specs.declared.scripts.Pattern.{Pattern}
use Rattle.kms_model.specs.declared.scripts.Pattern.TheVariants.{Solid, Checker, Ramp, Pixels}
use Rattle.kms_model.specs.declared.scripts.PropRef.{PropRef}
use Rattle.kms_model.specs.declared.scripts.PropRef.TheVariants.{Known, Unknown}
use Rattle.kms_model.specs.declared.scripts.Script.{Script}
use Rattle.kms_model.specs.declared.scripts.Value.{Value}
use Rattle.kms_model.specs.declared.scripts.Value.TheVariants as value
use Rattle.kms_model.specs.Device.Properties.{property_in}
use Rattle.kms_model.specs.Device.Sound.{IsDevice}
use Rattle.kms_model.specs.Script.Grammar.{digits_of, is_property_word, known_property}
use Rattle.kms_model.specs.Script.Spelling.{Spells, name_word}
use Rattle.kms_model.specs.Script.Words.{between, is_label, is_name_byte, until}
use Rattle.kms_model.specs.Things.Kept.{Fills}

-- a pattern fills its buffer, and a request has at most 256 assignments
abbrev pub IsFitCommand : Command → Type 0
IsFitCommand (command.Buffer label width height format pattern) = Fills pattern width height
IsFitCommand (command.Atomic r) = length r.assigns ≤ 256
IsFitCommand _ = ⊤

-- at most 4096 commands of a client
pub record IsFitClient (commands : List Command) : Type 0 where
  pub few : length commands ≤ 4096
  pub fit : AllByRecursion IsFitCommand commands

-- Names

-- the number is that of a label among the names
abbrev pub is_label_in : List (List ℕ) → ℕ → Bool
is_label_in names n = is_label (name_word names n)

-- the property of an id that a profile has, or a name among the names that no property of it has
abbrev pub is_property_in : ℕ → List (List ℕ) → PropRef → Bool
is_property_in profile names (Known id) = is_some (property_in profile id)
is_property_in profile names (Unknown n) = is_property_word (name_word names n)
    && not (is_some (known_property profile (name_word names n)))

-- Values

-- a number below 2^32
abbrev pub is_word32 : ℕ → Bool
is_word32 n = nat_lt n (2 ^ 32)

-- a word of a pixel in a format
abbrev pub is_pixel_of : Format → ℕ → Bool
is_pixel_of format p = nat_lt p (16 ^ digits_of format)

-- a pattern of a buffer of a width, a height and a format: a checker has squares of 1 to 4096 pixels, and from 1 to 256
-- pixels may stand one by one
abbrev pub is_pattern_of : Format → ℕ → ℕ → Pattern → Bool
is_pattern_of format width height (Solid p) = is_pixel_of format p
is_pattern_of format width height (Checker p q n) = is_pixel_of format p && (is_pixel_of format q && between 1 4096 n)
is_pattern_of format width height Ramp = true
is_pattern_of format width height (Pixels words) = between 1 256 (width * height)
    && ((length words == width * height) && list_all (is_pixel_of format) words)

-- a name of 1 to 31 bytes, filled with zeros up to 32
abbrev pub is_mode_name : List ℕ → Bool
is_mode_name name =
    between 1 31 (length (until 0 name)) && (list_all is_name_byte (until 0 name)
    && bytes_eq name (until 0 name ++ replicate (32 - length (until 0 name)) 0))

-- numbers below 2^16
abbrev pub is_word16 : ℕ → Bool
is_word16 n = nat_lt n (2 ^ 16)

abbrev pub are_words16 : ℕ → ℕ → ℕ → ℕ → ℕ → Bool
are_words16 a b c d e = is_word16 a && (is_word16 b && (is_word16 c && (is_word16 d && is_word16 e)))

-- the numbers of a mode are within their widths. From: `drm_mode.h`, struct drm_mode_modeinfo.
abbrev pub has_widths : Mode → Bool
has_widths m =
    is_word32 m.clock
    && (are_words16 m.hdisplay m.hsync_start m.hsync_end m.htotal m.hskew
    && (are_words16 m.vdisplay m.vsync_start m.vsync_end m.vtotal m.vscan
    && (is_word32 m.vrefresh && (is_word32 m.flags && is_word32 m.kind))))

-- from -9223372036854775808 to 18446744073709551615
abbrev pub is_integer : ℤ → Bool
is_integer z = int_le (negsuc 9223372036854775807) z && int_le z (pos 18446744073709551615)

abbrev pub is_value_in : List (List ℕ) → Value → Bool
is_value_in names (value.Num z) = is_integer z
is_value_in names (value.Named label) = is_label_in names label
is_value_in names (value.New label) = is_label_in names label
is_value_in names (value.Crtc index) = nat_le index 255

abbrev pub is_assign_in : ℕ → List (List ℕ) → Assign → Bool
is_assign_in profile names a = nat_le a.index 255 && (is_property_in profile names a.prop && is_value_in names a.value)

-- a command that some words spell, of a script with a profile
abbrev pub is_command_in : ℕ → List (List ℕ) → Command → Bool
is_command_in profile names (command.Buffer label width height format pattern) = is_label_in names label
    && (is_word32 width && (is_word32 height && is_pattern_of format width height pattern))
is_command_in profile names (command.AddFb label buffer) = is_label_in names label && is_label_in names buffer
is_command_in profile names (command.Mode label m) = is_label_in names label && (has_widths m && is_mode_name m.name)
is_command_in profile names (command.Blob label bytes) = is_label_in names label
    && (between 1 2048 (length bytes) && list_all (λ b. nat_lt b 256) bytes)
is_command_in profile names (command.Destroy label) = is_label_in names label
is_command_in profile names (command.CloseFb label) = is_label_in names label
is_command_in profile names (command.Fence label) = is_label_in names label
is_command_in profile names (command.Signal label) = is_label_in names label
is_command_in profile names (command.Atomic r) = is_word32 r.flags
    && (nat_lt r.user_data (2 ^ 64) && list_all (is_assign_in profile names) r.assigns)
is_command_in profile names command.Wait = true

-- a plane that can be shown on a CRTC and takes a format
abbrev pub has_choice : PlaneInfo → Bool
has_choice p = not (p.crtcs == 0) && not (p.formats == 0)

-- What every script that bytes spell is: a device whose planes and connectors have a CRTC and whose planes have a
-- format, at most 16 clients, and commands that words spell with the script's names, which differ. The bytes themselves
-- are a part of it, so that the names stand in the order in which they are first said, and each label is made once.
pub record IsWellFormed (s : Script) : Type 0 where
  pub device : IsDevice s.topology
  pub few : length s.clients ≤ 16
  pub clients : AllByRecursion IsFitClient s.clients
  pub version : s.version ≡ s.topology.profile
  pub planes : list_all has_choice s.topology.planes ≡ true
  pub conns : list_all (λ mask. not (mask == 0)) s.topology.conns ≡ true
  pub differ : IsDistinct bytes_eq s.names
  pub commands : list_all (list_all (is_command_in s.topology.profile s.names)) s.clients ≡ true
  pub bytes : List ℕ
  pub spells : Spells bytes s

-- The text that spells a script: each value has one spelling.
use Rattle.std.specs.Prelude.{◌≡◌, ℕ, zero, suc, ◌/◌, ◌%◌, ◌&&◌, false, List, [], ◌∷◌, ◌++◌, filter, map, get_or, Option, Some, None}
use Rattle.std.specs.Prelude.{option_map, Ok, Err, if◌then◌else◌, codes}
use Rattle.std.specs.Fmt.{decimal, signed_decimal, digits, digit_glyph}
use Rattle.std.specs.List.{flat_map, join_with_byte, list_all, range_with_len}
use Rattle.std.specs.Option.{option_map_or}
use Rattle.kms_model.specs.declared.objects.Format.{Format}
use Rattle.kms_model.specs.declared.objects.Format.TheVariants.{Xr24, Ar24, Rg16}
use Rattle.kms_model.specs.declared.objects.Mode.{Mode}
use Rattle.kms_model.specs.declared.objects.PlaneInfo.{PlaneInfo}
use Rattle.kms_model.specs.declared.objects.Topology.{Topology}
use Rattle.kms_model.specs.declared.scripts.Assign.{Assign}
use Rattle.kms_model.specs.declared.scripts.Command.{Command}
use Rattle.kms_model.specs.declared.scripts.Command.TheVariants as command
use Rattle.kms_model.specs.declared.scripts.Pattern.{Pattern}
use Rattle.kms_model.specs.declared.scripts.Pattern.TheVariants.{Solid, Checker, Ramp, Pixels}
use Rattle.kms_model.specs.declared.scripts.PropRef.{PropRef}
use Rattle.kms_model.specs.declared.scripts.PropRef.TheVariants.{Known, Unknown}
use Rattle.kms_model.specs.declared.scripts.Script.{Script}
use Rattle.kms_model.specs.declared.scripts.Value.{Value}
use Rattle.kms_model.specs.declared.scripts.Value.TheVariants as value
use Rattle.kms_model.specs.Script.Grammar.{digits_of, is_printable}
use Rattle.kms_model.specs.Script.InputLines.{Row, rows_of}
use Rattle.kms_model.specs.Device.Masks.{has_bit}
use Rattle.kms_model.specs.Device.Properties.{name_of}
use Rattle.kms_model.specs.Report.Replies.{kind_name}
use Rattle.kms_model.specs.Report.TextLines.{line}
use Rattle.kms_model.specs.Script.WholeInput.{Draft, Lined, blank_draft, is_nil, script_in, script_line}
use Rattle.kms_model.specs.Script.Words.{◌>>=◌, until}

-- Words

-- the word of a name, by its number
abbrev pub name_word : List (List ℕ) → ℕ → List ℕ
name_word names n = get_or names n []

-- `0x` and hexadecimal digits
abbrev pub hex_word : ℕ → List ℕ
hex_word n = codes "0x" ++ digits 16 false n

-- so many hexadecimal digits
abbrev pub hex_digits : ℕ → ℕ → List ℕ
hex_digits zero n = []
hex_digits (suc count) n = hex_digits count (n / 16) ++ digit_glyph false (n % 16) ∷ []

-- the word of a pixel in a format
abbrev pub pixel_word : Format → ℕ → List ℕ
pixel_word format n = hex_digits (digits_of format) n

-- two digits for each byte
abbrev pub blob_word : List ℕ → List ℕ
blob_word bytes = flat_map (hex_digits 2) bytes

abbrev pub format_word : Format → List ℕ
format_word Xr24 = codes "XR24"
format_word Ar24 = codes "AR24"
format_word Rg16 = codes "RG16"

-- a value of the property `type`
abbrev pub type_word : ℕ → List ℕ
type_word zero = codes "overlay"
type_word (suc zero) = codes "primary"
type_word (suc (suc n)) = codes "cursor"

-- the words of those of the first n objects that are in a set, parted by commas
abbrev pub list_word : (ℕ → List ℕ) → ℕ → ℕ → List ℕ
list_word word_of n mask = join_with_byte 44 (map word_of (filter (has_bit mask) (range_with_len 0 n)))

-- CRTC indices, of at most four
abbrev pub crtcs_word : ℕ → List ℕ
crtcs_word mask = list_word decimal 4 mask

-- the format of a bit in a plane's mask
abbrev pub format_at_bit : ℕ → Format
format_at_bit zero = Xr24
format_at_bit (suc zero) = Ar24
format_at_bit (suc (suc n)) = Rg16

abbrev pub formats_word : ℕ → List ℕ
formats_word mask = list_word (λ bit. format_word (format_at_bit bit)) 3 mask

-- Assignments

abbrev pub property_word : List (List ℕ) → PropRef → List ℕ
property_word names (Known id) = option_map_or (λ w. w) (name_of id) []
property_word names (Unknown n) = name_word names n

abbrev pub value_word : List (List ℕ) → Value → List ℕ
value_word names (value.Num z) = signed_decimal z
value_word names (value.Named label) = codes "@" ++ name_word names label
value_word names (value.New label) = codes "+" ++ name_word names label
value_word names (value.Crtc index) = codes "crtc" ++ decimal index

-- `OBJ.PROP=VALUE`
abbrev pub assign_word : List (List ℕ) → Assign → List ℕ
assign_word names a = kind_name a.kind ++ decimal a.index ++ codes "." ++ property_word names a.prop ++ codes "="
    ++ value_word names a.value

-- Commands: the words of a line

abbrev pub pattern_words : Format → Pattern → List (List ℕ)
pattern_words format (Solid p) = codes "solid" ∷ pixel_word format p ∷ []
pattern_words format (Checker p q n) = codes "checker" ∷ pixel_word format p ∷ pixel_word format q ∷ decimal n ∷ []
pattern_words format Ramp = codes "ramp" ∷ []
pattern_words format (Pixels words) = codes "pixels" ∷ map (pixel_word format) words

-- a mode's name ends before its first zero
abbrev pub spelt_mode : Mode → List (List ℕ)
spelt_mode m =
    decimal m.clock ∷ decimal m.hdisplay ∷ decimal m.hsync_start ∷ decimal m.hsync_end ∷ decimal m.htotal ∷ decimal m.hskew
    ∷ decimal m.vdisplay ∷ decimal m.vsync_start ∷ decimal m.vsync_end ∷ decimal m.vtotal ∷ decimal m.vscan
    ∷ decimal m.vrefresh ∷ decimal m.flags ∷ decimal m.kind ∷ until 0 m.name ∷ []

abbrev pub command_words : List (List ℕ) → Command → List (List ℕ)
command_words names (command.Buffer label width height format pattern) =
    codes "buffer" ∷ name_word names label ∷ decimal width ∷ decimal height ∷ format_word format ∷ pattern_words format pattern
command_words names (command.AddFb label buffer) = codes "addfb" ∷ name_word names label ∷ name_word names buffer ∷ []
command_words names (command.Mode label m) = codes "mode" ∷ name_word names label ∷ spelt_mode m
command_words names (command.Blob label bytes) = codes "blob" ∷ name_word names label ∷ blob_word bytes ∷ []
command_words names (command.Destroy label) = codes "destroy" ∷ name_word names label ∷ []
command_words names (command.CloseFb label) = codes "closefb" ∷ name_word names label ∷ []
command_words names (command.Fence label) = codes "fence" ∷ name_word names label ∷ []
command_words names (command.Signal label) = codes "signal" ∷ name_word names label ∷ []
command_words names (command.Atomic r) = codes "atomic" ∷ hex_word r.flags ∷ decimal r.user_data ∷ map (assign_word names) r.assigns
command_words names command.Wait = codes "wait" ∷ []

-- Scripts

-- lines of words, one after the other
abbrev pub text_of : List (List (List ℕ)) → List ℕ
text_of lines = flat_map line lines

abbrev pub spelt_plane : PlaneInfo → List (List ℕ)
spelt_plane p = codes "plane" ∷ type_word p.kind ∷ crtcs_word p.crtcs ∷ formats_word p.formats ∷ []

abbrev pub conn_words : ℕ → List (List ℕ)
conn_words mask = codes "conn" ∷ crtcs_word mask ∷ []

-- the device's lines
abbrev pub device_lines : Topology → List (List (List ℕ))
device_lines t = (codes "crtcs" ∷ decimal t.crtcs ∷ []) ∷ map spelt_plane t.planes ++ map conn_words t.conns

abbrev pub client_lines : List (List ℕ) → List Command → List (List (List ℕ))
client_lines names commands = (codes "client" ∷ []) ∷ map (command_words names) commands

-- the text of a script
abbrev pub spelling : Script → List ℕ
spelling s = text_of ((codes "kms" ∷ decimal s.version ∷ []) ∷ device_lines s.topology ++ flat_map (client_lines s.names) s.clients)

-- Which bytes spell a script: lines of forms that may stand there, within the limits, whatever their bytes in all

abbrev pub lined : Lined → Option Draft
lined (Ok d) = Some d
lined (Err why) = None

abbrev pub spelt_line : Draft → Row → Option Draft
spelt_line d row = if row.is_ended && list_all is_printable row.text then lined (script_line d row.text) else None

abbrev pub spelt_lines : Draft → List Row → Option Draft
spelt_lines d [] = if is_nil d.conns then None else Some d
spelt_lines d (row ∷ rows) = spelt_line d row >>= (λ next. spelt_lines next rows)

-- the script that bytes spell
abbrev pub spelt : List ℕ → Option Script
spelt bytes = option_map script_in (spelt_lines blank_draft (rows_of bytes))

-- bytes spell a script
abbrev pub Spells : List ℕ → Script → Type 0
Spells bytes s = spelt bytes ≡ Some s

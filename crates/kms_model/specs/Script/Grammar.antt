-- The words of the whole grammar of scripts: numbers, colours, objects, lists parted by commas, and hexadecimal bytes.
-- Each value has one spelling.
use Rattle.std.specs.Prelude.{ℕ, ◌+◌, ◌-◌, ◌*◌, ◌^◌, Bool, false, ◌&&◌, ◌||◌, ◌==◌, nat_le, List, [], ◌∷◌, length, Option, Some, None}
use Rattle.std.specs.Prelude.{option_map, ℤ, pos, neg_ℤ, if◌then◌else◌, codes}
use Rattle.std.specs.List.{list_all, slice_split}
use Rattle.std.specs.Option.{option_map_or}
use Rattle.std.specs.Str.{bytes_eq}
use Rattle.kms_model.specs.declared.objects.Kind.{Kind}
use Rattle.kms_model.specs.declared.objects.Kind.TheVariants.{Crtc, Plane, Conn, Enc}
use Rattle.kms_model.specs.declared.objects.Format.{Format}
use Rattle.kms_model.specs.declared.objects.Format.TheVariants.{Xr24, Ar24, Rg16}
use Rattle.kms_model.specs.Firsts.{or_else}
use Rattle.kms_model.specs.Device.Properties.{property_id}
use Rattle.kms_model.specs.Script.Words.{◌>>=◌, between, dec, is_hex, hex_value, hex_from, is_digit, is_letter, read_at, strip}

-- the parts of a word or a line that a byte parts
abbrev pub parted : ℕ → List ℕ → List (List ℕ)
parted separator bytes = slice_split (λ b. b == separator) bytes

-- the words of fields: each has a blank before it
abbrev pub field_words : List ℕ → Option (List (List ℕ))
field_words [] = Some []
field_words (b ∷ bs) = if b == 32 then Some (parted 32 bs) else None

-- a byte that a line may have: 0x20 to 0x7e
abbrev pub is_printable : ℕ → Bool
is_printable b = between 32 126 b

-- `-` and a number that is not 0
abbrev pub negative : List ℕ → Option ℤ
negative digits = do
  n ← dec 9223372036854775808 digits
  if n == 0 then None else Some (neg_ℤ (pos n))

-- a number from -9223372036854775808 to 18446744073709551615
unfoldable pub int : List ℕ → Option ℤ
int word = option_map_or negative (strip (codes "-") word) (option_map pos (dec 18446744073709551615 word))

-- `0`, or hexadecimal digits of which the first is not 0
abbrev pub is_hex_number : List ℕ → Bool
is_hex_number [] = false
is_hex_number (d ∷ ds) = if d == 48 then length ds == 0 else list_all is_hex (d ∷ ds)

-- the number of `0x` and at most eight hexadecimal digits
unfoldable pub hex : List ℕ → Option ℕ
hex word = do
  digits ← strip (codes "0x") word
  if nat_le (length digits) 8 && is_hex_number digits then Some (hex_from 0 digits) else None

abbrev pub hex_at : List ℕ → Option (ℕ × List ℕ)
hex_at bytes = read_at hex bytes

-- how many hexadecimal digits a word of a format has
abbrev pub digits_of : Format → ℕ
digits_of Rg16 = 4
digits_of Xr24 = 8
digits_of Ar24 = 8

-- the word of a pixel_number in a format
unfoldable pub pixel_number : Format → List ℕ → Option ℕ
pixel_number format word = if (length word == digits_of format) && list_all is_hex word then Some (hex_from 0 word) else None

unfoldable pub pixel_at : Format → List ℕ → Option (ℕ × List ℕ)
pixel_at format bytes = read_at (pixel_number format) bytes

-- the byte of two hexadecimal digits
unfoldable pub hex_pair : ℕ → ℕ → Option ℕ
hex_pair a b = if is_hex a && is_hex b then Some (hex_value a * 16 + hex_value b) else None

-- the bytes of pairs of digits
unfoldable pub hex_bytes : List ℕ → Option (List ℕ)
hex_bytes [] = Some []
hex_bytes (a ∷ []) = None
hex_bytes (a ∷ b ∷ more) = do
  x ← hex_pair a b
  xs ← hex_bytes more
  Some (x ∷ xs)

-- from 1 to 2048 bytes, each as two digits
abbrev pub blob_bytes : List ℕ → Option (List ℕ)
blob_bytes word = if between 2 4096 (length word) then hex_bytes word else None

-- the format of a name
abbrev pub format_named : List ℕ → Option Format
format_named word =
    if bytes_eq word (codes "XR24") then Some Xr24
    else (if bytes_eq word (codes "AR24") then Some Ar24
    else (if bytes_eq word (codes "RG16") then Some Rg16
    else None))

unfoldable pub format_at : List ℕ → Option (Format × List ℕ)
format_at bytes = read_at format_named bytes

-- the bit of a format in a plane's mask
abbrev pub format_bit : Format → ℕ
format_bit Xr24 = 0
format_bit Ar24 = 1
format_bit Rg16 = 2

-- a mask of the bits that words stand for, where they rise from a bit on
abbrev pub rising : (List ℕ → Option ℕ) → ℕ → List (List ℕ) → Option ℕ
rising bit_of low [] = Some 0
rising bit_of low (w ∷ ws) = do
  bit ← bit_of w
  mask ← if nat_le low bit then rising bit_of (bit + 1) ws else None
  Some (2 ^ bit + mask)

-- the mask of a list of CRTC indices, rising and parted by commas, of a device with a number of CRTCs
unfoldable pub crtc_list : ℕ → List ℕ → Option ℕ
crtc_list crtcs word = rising (dec (crtcs - 1)) 0 (parted 44 word)

-- the mask of a list of formats, in the order of their bits and parted by commas
unfoldable pub format_list : List ℕ → Option ℕ
format_list word = rising (λ w. option_map format_bit (format_named w)) 0 (parted 44 word)

-- an index to 255 behind the name of a kind of object
abbrev pub indexed : Kind → List ℕ → Option (Kind × ℕ)
indexed kind digits = option_map (λ i. (kind, i)) (dec 255 digits)

-- the kind and the index of an object
unfoldable pub object : List ℕ → Option (Kind × ℕ)
object word =
    option_map_or (indexed Crtc) (strip (codes "crtc") word)
    (option_map_or (indexed Plane) (strip (codes "plane") word)
    (option_map_or (indexed Conn) (strip (codes "conn") word)
    (option_map_or (indexed Enc) (strip (codes "enc") word) None)))

-- a letter, a digit or `_`
abbrev pub is_property_byte : ℕ → Bool
is_property_byte b = is_letter b || (between 65 90 b || (is_digit b || (b == 95)))

-- the name of a property, known or not: 1 to 32 letters, digits and `_`
abbrev pub is_property_word : List ℕ → Bool
is_property_word word = between 1 32 (length word) && list_all is_property_byte word

-- the id of the property of a name, which some kind of object has in a profile
abbrev pub known_property : ℕ → List ℕ → Option ℕ
known_property profile name = or_else (property_id profile Plane name)
    (or_else (property_id profile Crtc name) (property_id profile Conn name))

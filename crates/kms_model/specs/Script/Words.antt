-- The words of a line: numbers, labels and names.
use Rattle.std.specs.Prelude.{ℕ, ◌+◌, ◌-◌, ◌*◌, Bool, false, ◌&&◌, ◌||◌, ◌==◌, nat_lt, nat_le, List, [], ◌∷◌, ◌++◌, length, replicate}
use Rattle.std.specs.Prelude.{Option, Some, None, if◌then◌else◌, option_and_then}
use Rattle.std.specs.List.{list_all}

-- the first value, where there is one, handed on
infixl 10 ◌>>=◌
abbrev pub ◌>>=◌ : {A B : Type 0} → Option A → (A → Option B) → Option B
o >>= f = option_and_then f o

-- the bytes before the first separator, or all
abbrev pub until : ℕ → List ℕ → List ℕ
until separator [] = []
until separator (b ∷ bs) = if b == separator then [] else b ∷ until separator bs

-- the bytes from the first separator on, or none
abbrev pub from : ℕ → List ℕ → List ℕ
from separator [] = []
from separator (b ∷ bs) = if b == separator then b ∷ bs else from separator bs

-- the bytes behind a given front
abbrev pub strip : List ℕ → List ℕ → Option (List ℕ)
strip [] bytes = Some bytes
strip (p ∷ ps) [] = None
strip (p ∷ ps) (b ∷ bs) = if p == b then strip ps bs else None

-- a byte between two
abbrev pub between : ℕ → ℕ → ℕ → Bool
between low high b = nat_le low b && nat_le b high

-- `0` to `9`
abbrev pub is_digit : ℕ → Bool
is_digit b = between 48 57 b

-- the number that digits go on to, behind a number
abbrev pub number_from : ℕ → List ℕ → ℕ
number_from number [] = number
number_from number (d ∷ ds) = number_from (number * 10 + (d - 48)) ds

-- `0`, or digits of which the first is not 0: each number has one spelling
abbrev pub is_dec : List ℕ → Bool
is_dec [] = false
is_dec (d ∷ ds) = if d == 48 then length ds == 0 else list_all is_digit (d ∷ ds)

-- the number of a word of digits, where it is at most `most`
unfoldable pub dec : ℕ → List ℕ → Option ℕ
dec most word = if is_dec word && nat_le (number_from 0 word) most then Some (number_from 0 word) else None

-- `a` to `z`
abbrev pub is_letter : ℕ → Bool
is_letter b = between 97 122 b

-- a letter, a digit or `_`
abbrev pub is_label_rest : ℕ → Bool
is_label_rest b = is_letter b || (is_digit b || (b == 95))

-- a label: a letter, and at most 15 letters, digits and `_` behind it
unfoldable pub is_label : List ℕ → Bool
is_label [] = false
is_label (b ∷ bs) = is_letter b && (nat_le (length bs) 15 && list_all is_label_rest bs)

-- `0` to `9` and `a` to `f`
abbrev pub is_hex : ℕ → Bool
is_hex b = is_digit b || between 97 102 b

abbrev pub hex_value : ℕ → ℕ
hex_value b = if is_digit b then b - 48 else b - 87

-- the number that hexadecimal digits go on to, behind a number
abbrev pub hex_from : ℕ → List ℕ → ℕ
hex_from number [] = number
hex_from number (b ∷ bs) = hex_from (number * 16 + hex_value b) bs

-- a letter of either case, a digit, `_`, `.` or `-`
abbrev pub is_name_byte : ℕ → Bool
is_name_byte b = between 97 122 b || (between 65 90 b || (is_digit b || ((b == 95) || ((b == 46) || (b == 45)))))

-- A field is a blank and the word behind it. A reader takes a field from the front of a line's bytes, and
-- gives what it stands for and the bytes from the next blank on.
unfoldable pub field_at : List ℕ → Option (List ℕ × List ℕ)
field_at [] = None
field_at (b ∷ bs) = if b == 32 then Some (until 32 bs, from 32 bs) else None

-- a field whose word stands for something
abbrev pub read_at : {A : Type 0} → (List ℕ → Option A) → List ℕ → Option (A × List ℕ)
read_at read bytes = do
  f ← field_at bytes
  x ← read f.0
  Some (x, f.1)

-- a number at most `most`
unfoldable pub dec_at : ℕ → List ℕ → Option (ℕ × List ℕ)
dec_at most bytes = read_at (dec most) bytes

-- a label
unfoldable pub label_at : List ℕ → Option (List ℕ × List ℕ)
label_at bytes = do
  f ← field_at bytes
  if is_label f.0 then Some f else None

-- a mode's name of 1 to 31 bytes, filled with zeros up to 32
unfoldable pub name_at : List ℕ → Option (List ℕ × List ℕ)
name_at bytes = do
  f ← field_at bytes
  if nat_lt 0 (length f.0) && (nat_lt (length f.0) 32 && list_all is_name_byte f.0) then Some (f.0 ++ replicate (32 - length f.0) 0, f.1)
      else None

-- the end of the line
abbrev pub end_at : List ℕ → Option (Unit {0})
end_at [] = Some tt
end_at (b ∷ bs) = None

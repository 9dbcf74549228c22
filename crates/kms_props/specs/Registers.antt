-- The registers of planes and CRTCs, and what they hold before anything is written. From: "Plane Helper Reference" and
-- "Vertical Blanking"; the registers and their order are this device's own.
use Rattle.std.specs.Prelude.{ℕ, Bool, ◌==◌, List, [], ◌∷◌, find, Option, Some, None, is_some, option_map}
use Rattle.kms_model.specs.declared.objects.Kind.TheVariants as kind
use Rattle.kms_props.specs.declared.registers.Register.{Register}
use Rattle.kms_props.specs.declared.registers.TheConstants.Register.{PLANE_CRTC, FB, FB_WIDTH, FB_HEIGHT, FB_FORMAT, X, Y, WIDTH, HEIGHT}
use Rattle.kms_props.specs.declared.registers.TheConstants.Register.{SRC_X, SRC_Y, SRC_WIDTH, SRC_HEIGHT, ALPHA, BLEND, ZPOS, ACTIVE}
use Rattle.kms_props.specs.declared.registers.TheConstants.Register.{CONNECTOR, MODE, GAMMA_ON, GAMMA}
use Rattle.kms_props.specs.declared.registers.RegisterRow.{RegisterRow}
use Rattle.kms_props.specs.declared.registers.Start.{Start}
use Rattle.kms_props.specs.declared.registers.Start.TheVariants.{Word, Index}

-- a register of planes, of one word
abbrev pub plane_row : Register → Start → RegisterRow
plane_row register start = record { register = register; kind = kind.Plane; words = 1; start = start }

-- a register of CRTCs
abbrev pub crtc_row : Register → ℕ → RegisterRow
crtc_row register words = record { register = register; kind = kind.Crtc; words = words; start = Word 0 }

-- all words are 0 at the start, but a plane's alpha, which is opaque, and its zpos, which is its index
abbrev pub registers : List RegisterRow
registers =
    plane_row PLANE_CRTC (Word 0)
    ∷ plane_row FB (Word 0)
    ∷ plane_row FB_WIDTH (Word 0)
    ∷ plane_row FB_HEIGHT (Word 0)
    ∷ plane_row FB_FORMAT (Word 0)
    ∷ plane_row X (Word 0)
    ∷ plane_row Y (Word 0)
    ∷ plane_row WIDTH (Word 0)
    ∷ plane_row HEIGHT (Word 0)
    ∷ plane_row SRC_X (Word 0)
    ∷ plane_row SRC_Y (Word 0)
    ∷ plane_row SRC_WIDTH (Word 0)
    ∷ plane_row SRC_HEIGHT (Word 0)
    ∷ plane_row ALPHA (Word 65535)
    ∷ plane_row BLEND (Word 0)
    ∷ plane_row ZPOS Index
    ∷ crtc_row ACTIVE 1
    ∷ crtc_row CONNECTOR 1
    ∷ crtc_row MODE 17
    ∷ crtc_row GAMMA_ON 1
    ∷ crtc_row GAMMA 192
    ∷ []

abbrev pub is_row_of : Register → RegisterRow → Bool
is_row_of register row = row.register.0 == register.0

-- what the words of a register are at the start
abbrev pub start_of : Register → Option Start
start_of register = option_map (λ row. row.start) (find (is_row_of register) registers)

-- the register is in the table
abbrev pub is_register : Register → Bool
is_register register = is_some (start_of register)

-- a word, by what is said of it, of the object with an index
abbrev pub word_from : Option Start → ℕ → ℕ
word_from (Some (Word word)) index = word
word_from (Some Index) index = index
word_from None index = 0

-- a word of a register at the start, of the object with an index among those of its kind
abbrev pub first_word : Register → ℕ → ℕ
first_word register index = word_from (start_of register) index

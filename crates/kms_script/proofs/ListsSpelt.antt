-- A list of indices or of formats that was read is written as it stood.
use Rattle.std.proofs.Common.{◌≡◌, ℕ, ◌-◌, ◌<◌, ◌≤◌, Bool, true, false, List, [], ◌∷◌, length, map, Some, refl, ap, ◌∙◌, arith}
use Rattle.std.specs.Prelude.{option_map}
use Rattle.std.specs.Fmt.{decimal}
use Rattle.std.specs.List.{join_with_byte}
use Rattle.std.proofs.lemmas.List.Splits.{join_with_byte-slice_split}
use Rattle.kms_model.specs.declared.objects.Format.{Format}
use Rattle.kms_model.specs.declared.objects.Format.TheVariants.{Xr24, Ar24, Rg16}
use Rattle.kms_model.specs.Script.Grammar.{crtc_list, format_list, format_bit, format_named, parted}
use Rattle.kms_model.specs.Script.Words.{dec}
use Rattle.kms_model.specs.Script.Spelling.{list_word, crtcs_word, formats_word, format_word, format_at_bit}
use Rattle.kms_script.proofs.Decimals.{dec_spelt, dec_at_most}
use Rattle.kms_script.proofs.Inverted.{map_some}
use Rattle.kms_script.proofs.SpeltWords.{format_spelt}
use Rattle.kms_script.proofs.ListedBits.{mask_of, set_bits, AreBits, Spelt, turned}

-- four bits, the lowest first
abbrev four : Bool → Bool → Bool → Bool → List Bool
four a b c d = a ∷ b ∷ c ∷ d ∷ []

-- the list of a mask is that of the bits which make it up
four_set : (word_of : ℕ → List ℕ) (a b c d : Bool)
    → list_word word_of 4 (mask_of 1 (four a b c d)) ≡ join_with_byte 44 (map word_of (set_bits 0 (four a b c d)))
four_set word_of true true true true = refl
four_set word_of true true true false = refl
four_set word_of true true false true = refl
four_set word_of true true false false = refl
four_set word_of true false true true = refl
four_set word_of true false true false = refl
four_set word_of true false false true = refl
four_set word_of true false false false = refl
four_set word_of false true true true = refl
four_set word_of false true true false = refl
four_set word_of false true false true = refl
four_set word_of false true false false = refl
four_set word_of false false true true = refl
four_set word_of false false true false = refl
four_set word_of false false false true = refl
four_set word_of false false false false = refl

-- the same of three bits
three_set : (word_of : ℕ → List ℕ) (a b c : Bool)
    → list_word word_of 3 (mask_of 1 (a ∷ b ∷ c ∷ [])) ≡ join_with_byte 44 (map word_of (set_bits 0 (a ∷ b ∷ c ∷ [])))
three_set word_of true true true = refl
three_set word_of true true false = refl
three_set word_of true false true = refl
three_set word_of true false false = refl
three_set word_of false true true = refl
three_set word_of false true false = refl
three_set word_of false false true = refl
three_set word_of false false false = refl

-- the same of any four bits
four_bits : (word_of : ℕ → List ℕ) (bits : List Bool) (mask : ℕ) → length bits ≡ 4 → mask_of 1 bits ≡ mask
    → list_word word_of 4 mask ≡ join_with_byte 44 (map word_of (set_bits 0 bits))
four_bits word_of (a ∷ b ∷ c ∷ d ∷ []) mask many e = rw (← e) (four_set word_of a b c d)
four_bits word_of bits mask many e = absurd (omega arith)

-- the same of any three bits
three_bits : (word_of : ℕ → List ℕ) (bits : List Bool) (mask : ℕ) → length bits ≡ 3 → mask_of 1 bits ≡ mask
    → list_word word_of 3 mask ≡ join_with_byte 44 (map word_of (set_bits 0 bits))
three_bits word_of (a ∷ b ∷ c ∷ []) mask many e = rw (← e) (three_set word_of a b c)
three_bits word_of bits mask many e = absurd (omega arith)

-- an index of at most four CRTCs
index_spelt : (crtcs : ℕ) → crtcs ≤ 4 → Spelt (dec (crtcs - 1)) decimal 4
index_spelt crtcs few w bit e = let le : bit ≤ crtcs - 1 = dec_at_most (crtcs - 1) bit w e
    in (omega arith, dec_spelt (crtcs - 1) bit w (omega arith) e)

-- a list of CRTC indices that was read is written as it stood
pub crtcs_spelt : (crtcs mask : ℕ) (word : List ℕ) → crtcs ≤ 4 → crtc_list crtcs word ≡ Some mask → crtcs_word mask ≡ word
unfolding crtc_list
crtcs_spelt crtcs mask word few e =
    let b : AreBits decimal 0 4 mask (parted 44 word) = turned (dec (crtcs - 1)) decimal 4 (index_spelt crtcs few) 4 0 mask (parted 44 word)
    (omega arith) e in
    four_bits decimal b.bits mask b.many b.makes ∙ ap (join_with_byte 44) b.spells ∙ join_with_byte-slice_split 44 word

-- the word of the format of a bit
abbrev format_bit_word : ℕ → List ℕ
format_bit_word bit = format_word (format_at_bit bit)

-- a format's bit is one of three, and is that format's
bit_of_format : (format : Format) → (format_bit format < 3) × (format_at_bit (format_bit format) ≡ format)
bit_of_format Xr24 = (omega arith, refl)
bit_of_format Ar24 = (omega arith, refl)
bit_of_format Rg16 = (omega arith, refl)

-- the word of a format that was read as a bit
format_bit_spelt : Spelt (λ w. option_map format_bit (format_named w)) format_bit_word 3
format_bit_spelt w bit e =
    let m = map_some format_bit (format_named w) bit e in
    let b = bit_of_format m.value in
    (rw (← m.makes) b.0, rw (← m.makes, b.1) (format_spelt m.value w m.given))

-- a list of formats that was read is written as it stood
pub formats_spelt : (mask : ℕ) (word : List ℕ) → format_list word ≡ Some mask → formats_word mask ≡ word
unfolding format_list
formats_spelt mask word e =
    let b : AreBits format_bit_word 0 3 mask (parted 44 word) = turned (λ w. option_map format_bit (format_named w)) format_bit_word 3
    format_bit_spelt 3 0 mask (parted 44 word) (omega arith) e in
    three_bits format_bit_word b.bits mask b.many b.makes ∙ ap (join_with_byte 44) b.spells ∙ join_with_byte-slice_split 44 word

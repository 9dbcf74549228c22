-- Hexadecimal digits that were read are written again.
use Rattle.std.proofs.Common.{◌≡◌, ℕ, suc, ◌+◌, ◌-◌, ◌*◌, ◌/◌, ◌%◌, ◌≤◌, ◌<◌, Bool, true, false, List, [], ◌∷◌, ◌++◌, length, cond}
use Rattle.std.proofs.Common.{append-nil, append_assoc, Some, refl, sym, ap, ◌∙◌, arith}
use Rattle.std.specs.Prelude.{nat_le, ◌&&◌, ◌==◌, codes}
use Rattle.std.specs.Fmt.{digits, digits_onto, digit_glyph}
use Rattle.std.specs.List.{list_all}
use Rattle.std.proofs.lemmas.Bool.Decides.{nat_tests}
use Rattle.std.proofs.lemmas.Bool.{and_parts, leb-true, eqb-true, eqb-false, eq-eqb, ne_eqb}
use Rattle.std.proofs.lemmas.Fmt.{hex_one_digit}
use Rattle.std.proofs.lemmas.List.{nil_from_length}
use Rattle.kms_model.specs.declared.objects.Format.{Format}
use Rattle.kms_model.specs.Script.Grammar.{digits_of, is_hex_number, hex, pixel_number, hex_pair, hex_bytes}
use Rattle.kms_model.specs.Script.Words.{strip, is_hex, hex_value, hex_from}
use Rattle.kms_model.specs.Script.Spelling.{hex_word, hex_digits, pixel_word, blob_word}
use Rattle.kms_script.proofs.Inverted.{bind_some, if_some, some_same}
use Rattle.kms_script.proofs.LineFields.{strip_spelt}

-- a digit is written as it was read
record IsGlyph (b value : ℕ) : Type 0 where
  small : value < 16
  glyph : digit_glyph false value ≡ b
  first : value ≡ 0 → b ≡ 48

-- each hexadecimal digit
glyph_of : (b : ℕ) → is_hex b ≡ true → IsGlyph b (hex_value b)
glyph_of b h = record { small = grind (arith, nat_tests); glyph = grind (arith, nat_tests); first = λ z. grind (arith, nat_tests) }

-- a number with one digit more, taken apart again
shifted : (n d : ℕ) → d < 16 → ((n * 16 + d) / 16 ≡ n) × ((n * 16 + d) % 16 ≡ d)
shifted n d lt = (omega arith, omega arith)

-- so many digits: those of a number, and those read behind it
digits_from : (k n : ℕ) (ds : List ℕ) → list_all is_hex ds ≡ true → hex_digits (k + length ds) (hex_from n ds) ≡ hex_digits k n ++ ds
digits_from k n [] h = let none : k + 0 ≡ k = omega arith in rw none (sym (append-nil (hex_digits k n)))
digits_from k n (d ∷ ds) h =
    let parts = and_parts (is_hex d) (list_all is_hex ds) h in
    let g : IsGlyph d (hex_value d) = glyph_of d parts.0 in
    let s = shifted n (hex_value d) g.small in
    let more : k + length (d ∷ ds) ≡ suc k + length ds = omega arith in
    rw more (digits_from (suc k) (n * 16 + hex_value d) ds parts.1 ∙ rw (s.0, s.1, g.glyph) (append_assoc (hex_digits k n) (d ∷ []) ds))

-- as many digits as were read are those that were read
all_digits : (ds : List ℕ) → list_all is_hex ds ≡ true → hex_digits (length ds) (hex_from 0 ds) ≡ ds
all_digits ds h = let none : length ds ≡ 0 + length ds = omega arith in rw none (digits_from 0 0 ds h)

-- the first digit of a number is written last
last_digit : (k n : ℕ) (acc : List ℕ) → n / 16 ≡ 0 → digits_onto (suc k) 16 false n acc ≡ digit_glyph false (n % 16) ∷ acc
last_digit k n acc e = rw (eq-eqb (n / 16) 0 e) refl

-- and each other one before it
next_digit : (k n : ℕ) (acc : List ℕ) → (n / 16 ≡ 0 → ⊥)
    → digits_onto (suc k) 16 false n acc ≡ digits_onto k 16 false (n / 16) (digit_glyph false (n % 16) ∷ acc)
next_digit k n acc e = rw (ne_eqb (n / 16) 0 e) refl

-- the digits of a number of which the first is not 0, at the end those read behind it
onto_from : (i k n : ℕ) (ds acc : List ℕ) → i ≡ k + length ds → 0 < n → list_all is_hex ds ≡ true
    → digits_onto i 16 false (hex_from n ds) acc ≡ digits_onto k 16 false n (ds ++ acc)
onto_from i k n [] acc e some h = let same : i ≡ k = omega arith in rw same refl
onto_from i k n (d ∷ ds) acc e some h =
    let parts = and_parts (is_hex d) (list_all is_hex ds) h in
    let g : IsGlyph d (hex_value d) = glyph_of d parts.0 in
    let s = shifted n (hex_value d) g.small in
    let large : (n * 16 + hex_value d) / 16 ≡ 0 → ⊥ = λ z. omega (arith, s.0) in
    onto_from i (suc k) (n * 16 + hex_value d) ds acc (omega arith) (omega arith) parts.1
    ∙ next_digit k (n * 16 + hex_value d) (ds ++ acc) large
    ∙ rw (s.0, s.1, g.glyph) refl

number_step : (t : Bool) (d : ℕ) (ds : List ℕ) → (d == 48) ≡ t → cond t (length ds == 0) (list_all is_hex (d ∷ ds)) ≡ true → length ds < 8
    → digits 16 false (hex_from 0 (d ∷ ds)) ≡ d ∷ ds
unfolding digits
number_step true d ds is h few =
    let first : d ≡ 48 = eqb-true d 48 is in
    let alone : ds ≡ [] = nil_from_length ds (eqb-true (length ds) 0 h) in
    rw (first, alone) (hex_one_digit false 0 (omega arith))
number_step false d ds is h few =
    let parts = and_parts (is_hex d) (list_all is_hex ds) h in
    let g : IsGlyph d (hex_value d) = glyph_of d parts.0 in
    let front : 0 * 16 + hex_value d ≡ hex_value d = omega arith in
    let large : hex_value d ≡ 0 → ⊥ = λ z. eqb-false d 48 is (g.first z) in
    let some : 0 < hex_value d = omega arith in
    let low : hex_value d / 16 ≡ 0 = omega (arith, g.small) in
    let last : hex_value d % 16 ≡ hex_value d = omega (arith, g.small) in
    rw front (onto_from 64 (suc (63 - length ds)) (hex_value d) ds [] (omega arith) some parts.1
    ∙ last_digit (63 - length ds) (hex_value d) (ds ++ []) low
    ∙ rw (last, g.glyph, append-nil) refl)

-- a number without a zero at the front
number_spelt : (ds : List ℕ) → is_hex_number ds ≡ true → length ds ≤ 8 → digits 16 false (hex_from 0 ds) ≡ ds
number_spelt [] h few = absurd cc
number_spelt (d ∷ ds) h few = number_step (d == 48) d ds refl h (omega arith)

-- a number of hexadecimal digits
pub record IsHex (word : List ℕ) (n : ℕ) : Type 0 where
  pub digits : List ℕ
  pub given : strip (codes "0x") word ≡ Some digits
  pub few : nat_le (length digits) 8 ≡ true
  pub number : is_hex_number digits ≡ true
  pub makes : hex_from 0 digits ≡ n

pub hex_parts : (word : List ℕ) (n : ℕ) → hex word ≡ Some n → IsHex word n
unfolding hex
hex_parts word n e =
    let b = bind_some (strip (codes "0x") word) _ n e in
    let read = if_some (nat_le (length b.value) 8 && is_hex_number b.value) (Some (hex_from 0 b.value)) n b.then in
    let parts = and_parts (nat_le (length b.value) 8) (is_hex_number b.value) read.0 in
    record { digits = b.value; given = b.given; few = parts.0; number = parts.1; makes = some_same (hex_from 0 b.value) n read.1 }

-- `0x` and a number
pub hex_spelt : (n : ℕ) (word : List ℕ) → hex word ≡ Some n → hex_word n ≡ word
hex_spelt n word e =
    let p = hex_parts word n e in
    rw (← p.makes, number_spelt p.digits p.number (leb-true (length p.digits) 8 p.few)) (strip_spelt (codes "0x") word p.digits p.given)

-- the word of a pixel_number
pub pixel_spelt : (format : Format) (n : ℕ) (word : List ℕ) → pixel_number format word ≡ Some n → pixel_word format n ≡ word
unfolding pixel_number
pixel_spelt format n word e =
    let read = if_some ((length word == digits_of format) && list_all is_hex word) (Some (hex_from 0 word)) n e in
    let parts = and_parts (length word == digits_of format) (list_all is_hex word) read.0 in
    rw (← some_same (hex_from 0 word) n read.1, ← eqb-true (length word) (digits_of format) parts.0) (all_digits word parts.1)

-- the two digits of a byte
pair_spelt : (a b x : ℕ) → hex_pair a b ≡ Some x → hex_digits 2 x ≡ a ∷ b ∷ []
unfolding hex_pair
pair_spelt a b x e =
    let read = if_some (is_hex a && is_hex b) (Some (hex_value a * 16 + hex_value b)) x e in
    let parts = and_parts (is_hex a) (is_hex b) read.0 in
    let all : list_all is_hex (a ∷ b ∷ []) ≡ true = rw (parts.0, parts.1) refl in
    let same : x ≡ hex_from 0 (a ∷ b ∷ []) = omega (arith, some_same (hex_value a * 16 + hex_value b) x read.1) in
    rw same (all_digits (a ∷ b ∷ []) all)

-- a byte in front of others
pair_in_front : (a b x : ℕ) (xs more : List ℕ) → hex_digits 2 x ≡ a ∷ b ∷ [] → blob_word xs ≡ more → blob_word (x ∷ xs) ≡ a ∷ b ∷ more
pair_in_front a b x xs more e f = ap (λ (front : List ℕ). front ++ blob_word xs) e ∙ ap (λ (ys : List ℕ). a ∷ b ∷ ys) f

-- pairs of digits
pub bytes_spelt : (bytes word : List ℕ) → hex_bytes word ≡ Some bytes → blob_word bytes ≡ word
unfolding hex_bytes
bytes_spelt bytes [] e = rw (← some_same [] bytes e) refl
bytes_spelt bytes (a ∷ []) e = absurd cc
bytes_spelt bytes (a ∷ b ∷ more) e =
    let x = bind_some (hex_pair a b) _ bytes e in
    let xs = bind_some (hex_bytes more) _ bytes x.then in
    rw (← some_same (x.value ∷ xs.value) bytes xs.then)
    (pair_in_front a b x.value xs.value more (pair_spelt a b x.value x.given) (bytes_spelt xs.value more xs.given))

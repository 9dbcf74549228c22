-- The words of a command: their bytes can be printed and are no blanks, they are short, and there are few of them.
use Rattle.std.proofs.Common.{[], ◌≡◌, ℕ, zero, suc, ◌+◌, ◌*◌, ◌/◌, ◌%◌, ◌<◌, ◌≤◌, ◌^◌, Bool, true, false, List, ◌∷◌, ◌++◌, codes, length}
use Rattle.std.proofs.Common.{length-append, map, ℤ, pos, negsuc, refl, sym, ap, ◌∙◌, arith, append-nil}
use Rattle.std.specs.Prelude.{◌&&◌, ◌==◌, int_le, nat_le, nat_lt}
use Rattle.std.specs.Fmt.{decimal, digit_glyph, digits, signed_decimal}
use Rattle.std.specs.List.{AllByRecursion, list_all}
use Rattle.std.proofs.lemmas.Bool.{and_from, and_parts, eqb-true, le-leb, leb-true, ltb-true}
use Rattle.std.proofs.lemmas.Bool.Decides.{nat_tests}
use Rattle.std.proofs.lemmas.Fmt.{length-decimal-le}
use Rattle.std.proofs.lemmas.List.{append_cancel_right, length-map}
use Rattle.std.proofs.lemmas.List.Folds.{list_all-append}
use Rattle.kms_model.specs.declared.objects.Format.{Format}
use Rattle.kms_model.specs.declared.objects.Format.TheVariants.{Xr24, Ar24, Rg16}
use Rattle.kms_model.specs.declared.objects.Kind.{Kind}
use Rattle.kms_model.specs.declared.objects.Kind.TheVariants.{Crtc, Plane, Conn, Enc}
use Rattle.kms_model.specs.declared.objects.Mode.{Mode}
use Rattle.kms_model.specs.declared.scripts.Assign.{Assign}
use Rattle.kms_model.specs.declared.scripts.Command.{Command}
use Rattle.kms_model.specs.declared.scripts.Command.TheVariants as command
use Rattle.kms_model.specs.declared.scripts.Pattern.{Pattern}
use Rattle.kms_model.specs.declared.scripts.Pattern.TheVariants.{Solid, Checker, Ramp, Pixels}
use Rattle.kms_model.specs.declared.scripts.Value.{Value}
use Rattle.kms_model.specs.declared.scripts.Value.TheVariants as value
use Rattle.kms_model.specs.Report.Replies.{kind_name}
use Rattle.kms_model.specs.Report.TextLines.{line}
use Rattle.kms_model.specs.Script.CommandLines.{is_over}
use Rattle.kms_model.specs.Script.Grammar.{field_words, is_printable, is_property_byte, is_property_word}
use Rattle.kms_model.specs.Script.Spelling.{assign_word, blob_word, command_words, format_word, hex_digits, hex_word, name_word}
use Rattle.kms_model.specs.Script.Spelling.{pattern_words, pixel_word, property_word, spelt_mode, value_word}
use Rattle.kms_model.specs.Script.WellFormed.{are_words16, has_widths, is_assign_in, is_command_in, is_integer, is_label_in, is_mode_name}
use Rattle.kms_model.specs.Script.WellFormed.{is_pattern_of, is_pixel_of, is_value_in, is_word16, is_word32}
use Rattle.kms_model.specs.Script.Words.{between, is_digit, is_hex, is_label, is_label_rest, is_letter, is_name_byte, until}
use Rattle.kms_words.specs.Printed.{fields}
use Rattle.kms_words.proofs.Spaced.{line-fields}
use Rattle.kms_script.proofs.AssignParts.{assign_is, is_asked}
use Rattle.kms_script.proofs.Cutting.{each, is_inner, words_of_fields}
use Rattle.kms_script.proofs.Decimals.{decimal_digits}
use Rattle.kms_script.proofs.HexBack.{IsWritten, all_written, glyph}
use Rattle.kms_script.proofs.Inverted.{some_same}
use Rattle.kms_script.proofs.WordsBack.{prop_word}

-- Bytes

-- a byte that can be printed, and no blank
abbrev pub is_ink : ℕ → Bool
is_ink b = between 33 126 b

digit_ink : (b : ℕ) → is_digit b ≡ true → is_ink b ≡ true
digit_ink b is = grind (arith, nat_tests)

label_ink : (b : ℕ) → is_label_rest b ≡ true → is_ink b ≡ true
label_ink b is = grind (arith, nat_tests)

property_ink : (b : ℕ) → is_property_byte b ≡ true → is_ink b ≡ true
property_ink b is = grind (arith, nat_tests)

name_ink : (b : ℕ) → is_name_byte b ≡ true → is_ink b ≡ true
name_ink b is = grind (arith, nat_tests)

hex_ink : (b : ℕ) → is_hex b ≡ true → is_ink b ≡ true
hex_ink b is = grind (arith, nat_tests)

letter_ink : (b : ℕ) → is_letter b ≡ true → is_ink b ≡ true
letter_ink b is = grind (arith, nat_tests)

ink_inner : (b : ℕ) → is_ink b ≡ true → is_inner b ≡ true
ink_inner b is = grind (arith, nat_tests)

ink_printable : (b : ℕ) → is_ink b ≡ true → is_printable b ≡ true
ink_printable b is =
    let p = and_parts (nat_le 33 b) (nat_le b 126) is in
    let least : 33 ≤ b = leb-true 33 b p.0 in
    rw (le-leb 32 b (omega (arith, least)), p.1) refl

-- Words

pub record IsWord (most : ℕ) (w : List ℕ) : Type 0 where
  pub bytes : list_all is_ink w ≡ true
  pub few : length w ≤ most

abbrev pub AreWords : ℕ → List (List ℕ) → Type 0
AreWords most ws = AllByRecursion (IsWord most) ws

pub wider : (m n : ℕ) (w : List ℕ) → m ≤ n → IsWord m w → IsWord n w
wider m n w le is = record { bytes = is.bytes; few = omega (arith, le, is.few) }

pub behind : (m n : ℕ) (w v : List ℕ) → IsWord m w → IsWord n v → IsWord (m + n) (w ++ v)
behind m n w v one two = record {
  bytes = list_all-append is_ink w v ∙ and_from _ _ one.bytes two.bytes;
  few = omega (arith, length-append w v, one.few, two.few);
}

-- a word that is written out
pub closed : (most : ℕ) (w : List ℕ) → (list_all is_ink w && nat_le (length w) most) ≡ true → IsWord most w
closed most w is =
    let p = and_parts (list_all is_ink w) (nat_le (length w) most) is in
    record { bytes = p.0; few = leb-true (length w) most p.1 }

-- the bytes of a word are no blanks
pub inner : (most : ℕ) (w : List ℕ) → IsWord most w → list_all is_inner w ≡ true
inner most w is = each is_ink is_inner ink_inner w is.bytes

pub number_word : (n : ℕ) → n < 2 ^ 64 → IsWord 20 (decimal n)
number_word n small = record {
  bytes = each is_digit is_ink digit_ink (decimal n) (decimal_digits n small);
  few = length-decimal-le 20 n (omega arith) (omega (arith, small)) small;
}

label_word : (w : List ℕ) → is_label w ≡ true → IsWord 16 w
unfolding is_label
label_word [] is = absurd cc
label_word (b ∷ bs) is =
    let first = and_parts (is_letter b) (nat_le (length bs) 15 && list_all is_label_rest bs) is in
    let rest = and_parts (nat_le (length bs) 15) (list_all is_label_rest bs) first.1 in
    let few : length bs ≤ 15 = leb-true (length bs) 15 rest.0 in
    record { bytes = and_from _ _ (letter_ink b first.0) (each is_label_rest is_ink label_ink bs rest.1); few = omega (arith, few) }

pub flags_word : (n : ℕ) → n < 2 ^ 32 → IsWord 10 (hex_word n)
flags_word n small = written n (digits 16 false n) (all_written n small)
  where
    written : (n : ℕ) (ds : List ℕ) → IsWritten 7 n [] ds → IsWord 10 (codes "0x" ++ ds)
    written n ds w =
        let all : ds ≡ w.first ∷ w.rest = w.whole ∙ ap (λ (xs : List ℕ). w.first ∷ xs) (append-nil w.rest) in
        rw all (record { bytes = each is_hex is_ink hex_ink (w.first ∷ w.rest) w.hexes; few = omega (arith, w.few) })

glyphs : (k n : ℕ) → IsWord k (hex_digits k n)
glyphs zero n = closed _ _ refl
glyphs (suc k) n =
    let g = glyph (n % 16) (omega arith) in
    let one : IsWord 1 (digit_glyph false (n % 16) ∷ []) = record { bytes = rw (hex_ink _ g.is) refl; few = omega arith } in
    wider (k + 1) (suc k) _ (omega arith) (behind k 1 (hex_digits k (n / 16)) _ (glyphs k (n / 16)) one)

pixel : (f : Format) (n : ℕ) → IsWord 8 (pixel_word f n)
pixel Xr24 n = glyphs 8 n
pixel Ar24 n = glyphs 8 n
pixel Rg16 n = wider 4 8 _ (omega arith) (glyphs 4 n)

format : (f : Format) → IsWord 4 (format_word f)
format Xr24 = closed _ _ refl
format Ar24 = closed _ _ refl
format Rg16 = closed _ _ refl

blob : (bytes : List ℕ) → IsWord (2 * length bytes) (blob_word bytes)
blob [] = closed _ _ refl
blob (b ∷ bs) =
    wider (2 + 2 * length bs) (2 * length (b ∷ bs)) _ (omega arith)
    (behind 2 (2 * length bs) (hex_digits 2 b) (blob_word bs) (glyphs 2 b) (blob bs))

signed_word : (z : ℤ) → is_integer z ≡ true → IsWord 21 (signed_decimal z)
signed_word (pos n) is =
    let le : n ≤ 18446744073709551615 =
    leb-true n 18446744073709551615 is in wider 20 21 _ (omega arith) (number_word n (omega (arith, le)))
signed_word (negsuc n) is =
    let parts = and_parts (int_le (negsuc 9223372036854775807) (negsuc n)) (int_le (negsuc n) (pos 18446744073709551615)) is in
    let low : n ≤ 9223372036854775807 = leb-true n 9223372036854775807 parts.0 in
    behind 1 20 (45 ∷ []) (decimal (suc n)) (closed _ _ refl) (number_word (suc n) (omega (arith, low)))

-- Assignments

given_word : (all : List (List ℕ)) (v : Value) → is_value_in all v ≡ true → IsWord 24 (value_word all v)
given_word all (value.Num z) is = wider 21 24 _ (omega arith) (signed_word z is)
given_word all (value.Named label) is =
    wider 17 24 _ (omega arith) (behind 1 16 (codes "@") (name_word all label) (closed _ _ refl)
    (label_word _ is))
given_word all (value.New label) is =
    wider 17 24 _ (omega arith) (behind 1 16 (codes "+") (name_word all label) (closed _ _ refl)
    (label_word _ is))
given_word all (value.Crtc index) is =
    let le : index ≤ 255 = leb-true index 255 is in
    behind 4 20 (codes "crtc") (decimal index) (closed _ _ refl) (number_word index (omega (arith, le)))

pub kind_word : (kind : Kind) → IsWord 5 (kind_name kind)
kind_word Crtc = closed _ _ refl
kind_word Plane = closed _ _ refl
kind_word Conn = closed _ _ refl
kind_word Enc = closed _ _ refl

named_word : (w : List ℕ) → is_property_word w ≡ true → IsWord 32 w
named_word w is =
    let p = and_parts (between 1 32 (length w)) (list_all is_property_byte w) is in
    let size = and_parts (nat_le 1 (length w)) (nat_le (length w) 32) p.0 in
    record { bytes = each is_property_byte is_ink property_ink w p.1; few = leb-true (length w) 32 size.1 }

set_word : (all : List (List ℕ)) (profile : ℕ) (a : Assign) → is_assign_in profile all a ≡ true → IsWord 96 (assign_word all a)
set_word all profile a is =
    let of = assign_is profile all a is in
    let index = of.index in
    wider 83 96 _ (omega arith)
    (behind 59 24 _ _ (behind 58 1 _ _
    (behind 26 32 _ _ (behind 25 1 _ _ (behind 5 20 _ _ (kind_word a.kind) (number_word a.index (omega (arith, index))))
    (closed 1 (codes ".") refl)) (named_word (property_word all a.prop) (prop_word profile all a.prop of.prop)))
    (closed 1 (codes "=") refl))
    (given_word all a.value of.value))

pub set_words : (all : List (List ℕ)) (profile : ℕ) (assigns : List Assign) → list_all (is_assign_in profile all) assigns ≡ true
    → AreWords 96 (map (assign_word all) assigns)
set_words all profile [] are = tt
set_words all profile (a ∷ more) are =
    let both = and_parts (is_assign_in profile all a) (list_all (is_assign_in profile all) more) are in
    (set_word all profile a both.0, set_words all profile more both.1)

-- Lines

-- the most bytes of so many words, with a byte behind each
abbrev pub room : ℕ → ℕ → ℕ
room most zero = 0
room most (suc n) = most + 1 + room most n

-- words of a line of at most 32768 bytes
pub record IsSpaced (ws : List (List ℕ)) : Type 0 where
  pub most : ℕ
  pub words : AreWords most ws
  pub few : room most (length ws) ≤ 32768

room_is : (n : ℕ) → room 96 n ≡ 97 * n
room_is zero = refl
room_is (suc n) = omega (arith, room_is n)

-- words of at most 96 bytes, and how many they are
record AreFew (ws : List (List ℕ)) (n : ℕ) : Type 0 where
  words : AreWords 96 ws
  few : length ws ≤ n

no_words : AreFew [] 0
no_words = record { words = tt; few = omega arith }

with_word : {most n : ℕ} {w : List ℕ} {ws : List (List ℕ)} → IsWord most w → nat_le most 96 ≡ true → AreFew ws n
    → AreFew (w ∷ ws) (suc n)
with_word {most} {n} {w} {ws} is le rest =
    let small : most ≤ 96 = leb-true most 96 le in
    let few = rest.few in
    record { words = (wider most 96 w small is, rest.words); few = omega (arith, few) }

with_key : {n : ℕ} {k : List ℕ} {ws : List (List ℕ)} → (list_all is_ink k && nat_le (length k) 96) ≡ true → AreFew ws n
    → AreFew (k ∷ ws) (suc n)
with_key {n} {k} {ws} is rest = with_word (closed 96 k is) refl rest

at_most : {m : ℕ} {ws : List (List ℕ)} (n : ℕ) → AreFew ws m → m ≤ n → AreFew ws n
at_most n are le = let few = are.few in record { words = are.words; few = omega (arith, few, le) }

spaced : {n : ℕ} {ws : List (List ℕ)} → AreFew ws n → n ≤ 300 → IsSpaced ws
spaced {n} {ws} are le =
    let few = are.few in
    record { most = 96; words = are.words; few = omega (arith, room_is (length ws), few, le) }

of_number : (n : ℕ) → is_word32 n ≡ true → IsWord 20 (decimal n)
of_number n is = let small : n < 2 ^ 32 = ltb-true n (2 ^ 32) is in number_word n (omega (arith, small))

of_small : (n : ℕ) → is_word16 n ≡ true → IsWord 20 (decimal n)
of_small n is = let small : n < 2 ^ 16 = ltb-true n (2 ^ 16) is in number_word n (omega (arith, small))

pixels : (f : Format) (ps : List ℕ) → AreWords 96 (map (pixel_word f) ps)
pixels f [] = tt
pixels f (p ∷ ps) = (wider 8 96 _ (omega arith) (pixel f p), pixels f ps)

pattern : (f : Format) (width height : ℕ) (p : Pattern) → is_pattern_of f width height p ≡ true → AreFew (pattern_words f p) 257
pattern f width height (Solid p) is = at_most 257 (with_key refl (with_word (pixel f p) refl no_words)) (omega arith)
pattern f width height (Checker p q n) is =
    let first = and_parts (is_pixel_of f p) (is_pixel_of f q && between 1 4096 n) is in
    let second = and_parts (is_pixel_of f q) (between 1 4096 n) first.1 in
    let size = and_parts (nat_le 1 n) (nat_le n 4096) second.1 in
    let le : n ≤ 4096 = leb-true n 4096 size.1 in
    at_most 257 (with_key refl (with_word (pixel f p) refl (with_word (pixel f q) refl
    (with_word (number_word n (omega (arith, le))) refl no_words)))) (omega arith)
pattern f width height Ramp is = at_most 257 (with_key refl no_words) (omega arith)
pattern f width height (Pixels ps) is =
    let first = and_parts (between 1 256 (width * height)) _ is in
    let second = and_parts (length ps == width * height) _ first.1 in
    let size = and_parts (nat_le 1 (width * height)) (nat_le (width * height) 256) first.0 in
    let le : width * height ≤ 256 = leb-true (width * height) 256 size.1 in
    let count : length ps ≡ width * height = eqb-true (length ps) (width * height) second.0 in
    let many : length ps ≤ 256 = rw count le in
    let all : AreFew (map (pixel_word f) ps) 256 =
    record { words = pixels f ps; few = omega (arith, length-map ps (pixel_word f), many) } in
    with_key refl all

-- numbers of 16 bits before more words
with_five : {n : ℕ} {ws : List (List ℕ)} (a b c d e : ℕ) → are_words16 a b c d e ≡ true → AreFew ws n
    → AreFew (decimal a ∷ decimal b ∷ decimal c ∷ decimal d ∷ decimal e ∷ ws) (suc (suc (suc (suc (suc n)))))
with_five a b c d e is rest =
    let p = and_parts (is_word16 a) _ is in
    let q = and_parts (is_word16 b) _ p.1 in
    let r = and_parts (is_word16 c) _ q.1 in
    let s = and_parts (is_word16 d) (is_word16 e) r.1 in
    with_word (of_small a p.0) refl (with_word (of_small b q.0) refl (with_word (of_small c r.0) refl (with_word (of_small d s.0) refl
    (with_word (of_small e s.1) refl rest))))

mode_name : (name : List ℕ) → is_mode_name name ≡ true → IsWord 31 (until 0 name)
mode_name name is =
    let p = and_parts (between 1 31 (length (until 0 name))) _ is in
    let q = and_parts (list_all is_name_byte (until 0 name)) _ p.1 in
    let size = and_parts (nat_le 1 (length (until 0 name))) (nat_le (length (until 0 name)) 31) p.0 in
    record { bytes = each is_name_byte is_ink name_ink (until 0 name) q.0; few = leb-true (length (until 0 name)) 31 size.1 }

mode_words : (m : Mode) → has_widths m ≡ true → is_mode_name m.name ≡ true → AreFew (spelt_mode m) 15
mode_words m is name =
    let clock = and_parts (is_word32 m.clock) _ is in
    let h = and_parts (are_words16 m.hdisplay m.hsync_start m.hsync_end m.htotal m.hskew) _ clock.1 in
    let v = and_parts (are_words16 m.vdisplay m.vsync_start m.vsync_end m.vtotal m.vscan) _ h.1 in
    let rate = and_parts (is_word32 m.vrefresh) _ v.1 in
    let last = and_parts (is_word32 m.flags) (is_word32 m.kind) rate.1 in
    with_word (of_number m.clock clock.0) refl
    (with_five m.hdisplay m.hsync_start m.hsync_end m.htotal m.hskew h.0
    (with_five m.vdisplay m.vsync_start m.vsync_end m.vtotal m.vscan v.0
    (with_word (of_number m.vrefresh rate.0) refl (with_word (of_number m.flags last.0) refl (with_word (of_number m.kind last.1) refl
    (with_word (mode_name m.name name) refl no_words))))))

one_label : (all : List (List ℕ)) (k : List ℕ) (label : ℕ) → (list_all is_ink k && nat_le (length k) 96) ≡ true
    → is_label_in all label ≡ true → IsSpaced (k ∷ name_word all label ∷ [])
one_label all k label key is = spaced (with_key key (with_word (label_word (name_word all label) is) refl no_words)) (omega arith)

-- the words of a command, of a request with at most 256 assignments
pub command_spaced : (profile : ℕ) (all : List (List ℕ)) (c : Command) → is_command_in profile all c ≡ true → is_over c ≡ false
    → IsSpaced (command_words all c)
command_spaced profile all (command.Buffer label width height f p) is few =
    let first = and_parts (is_label_in all label) _ is in
    let second = and_parts (is_word32 width) _ first.1 in
    let third = and_parts (is_word32 height) (is_pattern_of f width height p) second.1 in
    spaced (with_key refl (with_word (label_word (name_word all label) first.0) refl (with_word (of_number width second.0) refl
    (with_word (of_number height third.0) refl (with_word (format f) refl (pattern f width height p third.1)))))) (omega arith)
command_spaced profile all (command.AddFb label buffer) is few =
    let both = and_parts (is_label_in all label) (is_label_in all buffer) is in
    spaced (with_key refl (with_word (label_word (name_word all label) both.0) refl
    (with_word (label_word (name_word all buffer) both.1) refl no_words))) (omega arith)
command_spaced profile all (command.Mode label m) is few =
    let first = and_parts (is_label_in all label) _ is in
    let second = and_parts (has_widths m) (is_mode_name m.name) first.1 in
    spaced (with_key refl (with_word (label_word (name_word all label) first.0) refl (mode_words m second.0 second.1))) (omega arith)
command_spaced profile all (command.Blob label bytes) is few =
    let first = and_parts (is_label_in all label) _ is in
    let second = and_parts (between 1 2048 (length bytes)) _ first.1 in
    let size = and_parts (nat_le 1 (length bytes)) (nat_le (length bytes) 2048) second.0 in
    let le : length bytes ≤ 2048 = leb-true (length bytes) 2048 size.1 in
    record {
      most = 4096;
      words = (
        closed 4096 _ refl,
        (
          wider 16 4096 _ (omega arith) (label_word (name_word all label) first.0),
          (wider (2 * length bytes) 4096 _ (omega (arith, le)) (blob bytes), tt),
        ),
      );
      few = omega arith;
    }
command_spaced profile all (command.Destroy label) is few = one_label all _ label refl is
command_spaced profile all (command.CloseFb label) is few = one_label all _ label refl is
command_spaced profile all (command.Fence label) is few = one_label all _ label refl is
command_spaced profile all (command.Signal label) is few = one_label all _ label refl is
command_spaced profile all (command.Atomic r) is few =
    let of = is_asked profile all r is in
    let count : length r.assigns ≤ 256 = not_many (length r.assigns) few in
    let sets : AreFew (map (assign_word all) r.assigns) 256 =
    record { words = set_words all profile r.assigns of.assigns; few = omega (arith, length-map r.assigns (assign_word all), count) } in
    spaced (with_key refl (with_word (flags_word r.flags of.flags) refl (with_word (number_word r.user_data of.user) refl sets)))
    (omega arith)
  where
    not_many : (n : ℕ) → nat_lt 256 n ≡ false → n ≤ 256
    not_many n e = grind (arith, nat_tests)
command_spaced profile all command.Wait is few = spaced (with_key refl no_words) (omega arith)

-- What such words make a line

pub line_short : (most : ℕ) (w : List ℕ) (ws : List (List ℕ)) → AreWords most (w ∷ ws)
    → length (line (w ∷ ws)) ≤ room most (length (w ∷ ws))
line_short most w [] are = omega (arith, length-append w (10 ∷ []), are.0.few)
line_short most w (v ∷ vs) are = omega (arith, length-append w (32 ∷ line (v ∷ vs)), are.0.few, line_short most v vs are.1)

pub words_inner : (most : ℕ) (ws : List (List ℕ)) → AreWords most ws → list_all (list_all is_inner) ws ≡ true
words_inner most [] are = refl
words_inner most (w ∷ ws) are = and_from _ _ (inner most w are.0) (words_inner most ws are.1)

word_printable : (most : ℕ) (w : List ℕ) → IsWord most w → list_all is_printable w ≡ true
word_printable most w is = each is_ink is_printable ink_printable w is.bytes

pub fields_printable : (most : ℕ) (ws : List (List ℕ)) → AreWords most ws → list_all is_printable (fields ws) ≡ true
fields_printable most [] are = refl
fields_printable most (w ∷ ws) are =
    list_all-append is_printable (32 ∷ w) (fields ws) ∙ and_from _ _ (word_printable most w are.0) (fields_printable most ws are.1)

-- the line of such words, without its line feed
pub text_of_words : (k text : List ℕ) (ws : List (List ℕ)) → text ++ 10 ∷ [] ≡ line (k ∷ ws) → text ≡ k ++ fields ws
text_of_words k text ws is = append_cancel_right text (k ++ fields ws) (10 ∷ []) (is ∙ line-fields k ws)

pub text_printable : (most : ℕ) (k text : List ℕ) (ws : List (List ℕ)) → AreWords most (k ∷ ws) → text ++ 10 ∷ [] ≡ line (k ∷ ws)
    → list_all is_printable text ≡ true
text_printable most k text ws are is =
    rw (text_of_words k text ws is)
    (list_all-append is_printable k (fields ws) ∙ and_from _ _ (word_printable most k are.0) (fields_printable most ws are.1))

-- one line is that of one list of such words
pub one_line : (m n : ℕ) (k l : List ℕ) (ws vs : List (List ℕ)) → AreWords m (k ∷ ws) → AreWords n (l ∷ vs) → line (k ∷ ws) ≡ line (l ∷ vs)
    → k ∷ ws ≡ l ∷ vs
one_line m n k l ws vs one two same =
    let texts : k ++ fields ws ≡ l ++ fields vs =
    append_cancel_right (k ++ fields ws) (l ++ fields vs) (10 ∷ []) (sym (line-fields k ws) ∙ (same ∙ line-fields l vs)) in
    let rows : fields (k ∷ ws) ≡ fields (l ∷ vs) = ap (λ (xs : List ℕ). 32 ∷ xs) texts in
    some_same (k ∷ ws) (l ∷ vs)
    (sym (words_of_fields (k ∷ ws) (words_inner m (k ∷ ws) one))
    ∙ (ap field_words rows ∙ words_of_fields (l ∷ vs) (words_inner n (l ∷ vs) two)))

-- the words of a command are a first one and others
pub record HasKeyword (all : List (List ℕ)) (c : Command) : Type 0 where
  pub keyword : List ℕ
  pub words : List (List ℕ)
  pub are : command_words all c ≡ keyword ∷ words

pub has_keyword : (all : List (List ℕ)) (c : Command) → HasKeyword all c
has_keyword all (command.Buffer label width height f p) = record { keyword = _; words = _; are = refl }
has_keyword all (command.AddFb label buffer) = record { keyword = _; words = _; are = refl }
has_keyword all (command.Mode label m) = record { keyword = _; words = _; are = refl }
has_keyword all (command.Blob label bytes) = record { keyword = _; words = _; are = refl }
has_keyword all (command.Destroy label) = record { keyword = _; words = _; are = refl }
has_keyword all (command.CloseFb label) = record { keyword = _; words = _; are = refl }
has_keyword all (command.Fence label) = record { keyword = _; words = _; are = refl }
has_keyword all (command.Signal label) = record { keyword = _; words = _; are = refl }
has_keyword all (command.Atomic r) = record { keyword = _; words = _; are = refl }
has_keyword all command.Wait = record { keyword = _; words = _; are = refl }

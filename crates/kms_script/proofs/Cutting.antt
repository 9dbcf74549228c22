-- Words with a blank before each are cut into these words.
use Rattle.std.proofs.Common.{◌≡◌, ℕ, ◌<◌, ◌≤◌, ◌^◌, Bool, true, false, List, [], ◌∷◌, ◌++◌, Some, None, pos, refl, sym, ◌∙◌, codes, arith}
use Rattle.std.specs.Prelude.{◌==◌, not}
use Rattle.std.specs.Fmt.{decimal}
use Rattle.std.specs.List.{list_all}
use Rattle.std.proofs.lemmas.Bool.{and_parts, eqb-true}
use Rattle.std.proofs.lemmas.Bool.Decides.{nat_tests}
use Rattle.kms_model.specs.declared.scripts.Value.TheVariants.{Num}
use Rattle.kms_model.specs.Script.CommandLines.{Names, value_read}
use Rattle.kms_model.specs.Script.Grammar.{field_words, int}
use Rattle.kms_model.specs.Script.Words.{dec_at, field_at, from, is_digit, strip, until}
use Rattle.kms_words.specs.Printed.{fields}
use Rattle.kms_script.proofs.Decimals.{dec_read, decimal_digits}
use Rattle.kms_words.proofs.Fields.{first_word}

-- a byte of a word
abbrev pub is_inner : ℕ → Bool
is_inner b = not (b == 32)

-- nothing, or bytes that a blank begins
abbrev is_after : List ℕ → Bool
is_after [] = true
is_after (b ∷ bs) = b == 32

-- a word, and what stands behind it
record IsCut (word rest : List ℕ) : Type 0 where
  front : until 32 (word ++ rest) ≡ word
  back : from 32 (word ++ rest) ≡ rest

off : (t : Bool) → not t ≡ true → t ≡ false
off true e = absurd cc
off false e = refl

no_word : (rest : List ℕ) → is_after rest ≡ true → IsCut [] rest
no_word [] e = record { front = refl; back = refl }
no_word (b ∷ bs) e = record { front = rw e refl; back = rw e refl }

cut : (word rest : List ℕ) → list_all is_inner word ≡ true → is_after rest ≡ true → IsCut word rest
cut [] rest inner e = no_word rest e
cut (b ∷ bs) rest inner e =
    let p = and_parts (is_inner b) (list_all is_inner bs) inner in
    let c = cut bs rest p.1 e in
    let ink : (b == 32) ≡ false = off (b == 32) p.0 in
    record { front = rw (ink, c.front) refl; back = rw (ink, c.back) refl }

after_word : (ws : List (List ℕ)) → is_after (fields ws) ≡ true
after_word [] = refl
after_word (w ∷ ws) = refl

-- the first field
pub field_of : (w : List ℕ) (ws : List (List ℕ)) → list_all is_inner w ≡ true → field_at (fields (w ∷ ws)) ≡ Some (w, fields ws)
unfolding field_at
field_of w ws inner = let c = cut w (fields ws) inner (after_word ws) in rw (c.front, c.back) refl

-- all of them
pub words_of_fields : (ws : List (List ℕ)) → list_all (list_all is_inner) ws ≡ true → field_words (fields ws) ≡ Some ws
words_of_fields [] inner = refl
words_of_fields (w ∷ ws) inner =
    let p = and_parts (list_all is_inner w) (list_all (list_all is_inner) ws) inner in
    first_word (fields (w ∷ ws)) w (fields ws) (sym (field_of w ws p.0)) ∙ rw (words_of_fields ws p.1) refl

-- Numbers

module _ (p q : ℕ → Bool) (implies : (b : ℕ) → p b ≡ true → q b ≡ true) where
  -- what holds of each byte
  pub each : (bs : List ℕ) → list_all p bs ≡ true → list_all q bs ≡ true
  each [] all = refl
  each (b ∷ bs) all = let both = and_parts (p b) (list_all p bs) all in rw (implies b both.0, each bs both.1) refl

digit_inner : (b : ℕ) → is_digit b ≡ true → is_inner b ≡ true
digit_inner b d = grind (arith, nat_tests)

pub number_inner : (n : ℕ) → n < 2 ^ 64 → list_all is_inner (decimal n) ≡ true
number_inner n small = each is_digit is_inner digit_inner (decimal n) (decimal_digits n small)

-- a number of a field
pub number_of : (most n : ℕ) (ws : List (List ℕ)) → most < 2 ^ 64 → n ≤ most → dec_at most (fields (decimal n ∷ ws)) ≡ Some (n, fields ws)
unfolding dec_at
number_of most n ws small le = rw (field_of (decimal n) ws (number_inner n (omega (arith, small, le))), dec_read most n small le) refl

other_step : (t : Bool) (c d : ℕ) → (c == d) ≡ t → is_digit c ≡ false → is_digit d ≡ true → t ≡ false
other_step true c d e none is = let same : c ≡ d = eqb-true c d e in absurd (let clash : is_digit d ≡ false = rw same at none in cc)
other_step false c d e none is = refl

-- a number does not begin with what is no digit
pub no_front : (c : ℕ) (cs ds : List ℕ) → is_digit c ≡ false → list_all is_digit ds ≡ true → strip (c ∷ cs) ds ≡ None
no_front c cs [] none all = refl
no_front c cs (d ∷ ds) none all =
    let p = and_parts (is_digit d) (list_all is_digit ds) all in
    rw (other_step (c == d) c d refl none p.0) refl

-- a number is read as a value
pub number_value : (names : Names) (n : ℕ) → n ≤ 18446744073709551615 → value_read names (decimal n) ≡ Some (Num (pos n), names)
unfolding value_read int
number_value names n le =
    let digits = decimal_digits n (omega (arith, le)) in
    rw (
      no_front 64 [] (decimal n) refl digits,
      no_front 43 [] (decimal n) refl digits,
      no_front 99 (codes "rtc") (decimal n) refl digits,
      no_front 45 [] (decimal n) refl digits,
      dec_read 18446744073709551615 n (omega arith) le,
    ) refl

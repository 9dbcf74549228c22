-- A number that was read is spelt as it stood, and is read as it was written.
use Rattle.std.proofs.Common.{◌≡◌, ℕ, zero, suc, ◌<◌, ◌≤◌, ◌^◌, Bool, true, false, List, [], ◌∷◌, length, cond, Some, refl, arith, rules}
use Rattle.std.proofs.Common.{get_or}
use Rattle.std.specs.Prelude.{nat_le, ◌&&◌, ◌==◌}
use Rattle.std.specs.Fmt.{decimal}
use Rattle.std.specs.List.{list_all}
use Rattle.std.proofs.lemmas.Bool.{and_parts, le-leb, leb-true, eqb-true, eqb-false}
use Rattle.std.proofs.lemmas.Fmt.{decimal-digits_value, decimal_digit, digits_decimal, digits_value-decimal, first_decimal}
use Rattle.std.proofs.lemmas.List.{nil_from_length}
use Rattle.std.proofs.lemmas.Str.Parse.{IsNumeralModel, numerals_by_fold}
use Rattle.kms_model.specs.Script.Words.{is_digit, number_from, is_dec, dec}
use Rattle.kms_script.proofs.Inverted.{if_some, some_same}

-- the digits of words, and their numbers, are those of std
own : IsNumeralModel (λ ds. list_all is_digit ds ≡ true) (number_from 0)
own = numerals_by_fold _ (search rules) number_from (search rules)

-- the digits of a number, with no zero in front of others
record IsPlain (word : List ℕ) : Type 0 where
  digits : list_all is_digit word ≡ true
  some : 0 < length word
  lead : get_or word 0 0 ≡ 48 → length word ≡ 1

plain_first : (t : Bool) (d : ℕ) (ds : List ℕ) → (d == 48) ≡ t → cond t (length ds == 0) (list_all is_digit (d ∷ ds)) ≡ true
    → IsPlain (d ∷ ds)
plain_first true d ds is h =
    let first : d ≡ 48 = eqb-true d 48 is in
    let none : length ds ≡ 0 = eqb-true (length ds) 0 h in
    let alone : ds ≡ [] = nil_from_length ds none in
    record { digits = rw (first, alone) refl; some = omega arith; lead = λ z. omega arith }
plain_first false d ds is h = record { digits = h; some = omega arith; lead = λ z. absurd (eqb-false d 48 is z) }

-- the form of a number: `0`, or digits of which the first is not 0
plain : (word : List ℕ) → is_dec word ≡ true → IsPlain word
plain [] h = absurd cc
plain (d ∷ ds) h = plain_first (d == 48) d ds refl h

-- a number at most `most` is written as it was read
pub dec_spelt : (most n : ℕ) (word : List ℕ) → most < 2 ^ 64 → dec most word ≡ Some n → decimal n ≡ word
unfolding dec
dec_spelt most n word small e =
    let read = if_some (is_dec word && nat_le (number_from 0 word) most) (Some (number_from 0 word)) n e in
    let parts = and_parts (is_dec word) (nat_le (number_from 0 word) most) read.0 in
    let low : number_from 0 word ≤ most = leb-true (number_from 0 word) most parts.1 in
    let same : number_from 0 word ≡ n = some_same (number_from 0 word) n read.1 in
    let p : IsPlain word = plain word parts.0 in
    rw (← same) (decimal-digits_value own word p.digits p.some p.lead (omega arith))

-- what is read is at most the bound
pub dec_at_most : (most n : ℕ) (word : List ℕ) → dec most word ≡ Some n → n ≤ most
unfolding dec
dec_at_most most n word e =
    let read = if_some (is_dec word && nat_le (number_from 0 word) most) (Some (number_from 0 word)) n e in
    let parts = and_parts (is_dec word) (nat_le (number_from 0 word) most) read.0 in
    omega (arith, leb-true (number_from 0 word) most parts.1, some_same (number_from 0 word) n read.1)

-- the digits of a number have none in front that is 0, but for 0 itself
begins_above : (word : List ℕ) → list_all is_digit word ≡ true → 48 < get_or word 0 0 → is_dec word ≡ true
begins_above [] digits high = absurd (omega (arith, high))
begins_above (d ∷ ds) digits high = step (d == 48) refl
  where
    step : (t : Bool) → (d == 48) ≡ t → cond t (length ds == 0) (list_all is_digit (d ∷ ds)) ≡ true
    step true is = let first : d ≡ 48 = eqb-true d 48 is in absurd (omega (arith, high, first))
    step false is = digits

decimal_form : (n : ℕ) → n < 2 ^ 64 → is_dec (decimal n) ≡ true
decimal_form zero small = rw (decimal_digit 0 (omega arith)) refl
decimal_form (suc n) small = begins_above (decimal (suc n)) (digits_decimal own (suc n) small) (first_decimal (suc n) (omega arith) small)

-- each byte of a number is a digit
pub decimal_digits : (n : ℕ) → n < 2 ^ 64 → list_all is_digit (decimal n) ≡ true
decimal_digits n small = digits_decimal own n small

-- a number at most `most` is read as it was written
pub dec_read : (most n : ℕ) → most < 2 ^ 64 → n ≤ most → dec most (decimal n) ≡ Some n
unfolding dec
dec_read most n small le =
    let below : n < 2 ^ 64 = omega (arith, small, le) in
    rw (decimal_form n below, digits_value-decimal own n below, le-leb n most le) refl

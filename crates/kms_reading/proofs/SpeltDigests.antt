-- A digest that was read of hexadecimal digits is written as these digits, and 64 of them are 32 bytes.
use Rattle.std.proofs.Common.{◌≡◌, ℕ, ◌+◌, ◌*◌, ◌/◌, ◌%◌, ◌<◌, ◌≤◌, inl, inr, Bool, true, false, List, [], ◌∷◌, length, Option, Some, None}
use Rattle.std.proofs.Common.{refl, sym, ap, ◌∙◌, subst, arith}
use Rattle.std.specs.Prelude.{◌==◌, ◌&&◌, ◌||◌, codes, nat_lt, not, slice_index}
use Rattle.std.specs.List.{list_all, range_with_len}
use Rattle.std.specs.Str.{bytes_eq}
use Rattle.std.proofs.lemmas.Bool.{and_parts, eqb-true, leb-true, ltb-true, or_cases}
use Rattle.hex.specs.Hex.{encode_lower, encode_with, lower_digits}
use Rattle.kms_model.specs.Report.ReportLines.{digest_in, digest_word}
use Rattle.kms_model.specs.Script.Grammar.{blob_bytes, hex_bytes, hex_pair}
use Rattle.kms_model.specs.Script.Words.{between, hex_value, is_digit, is_hex}
use Rattle.kms_model.proofs.Items.{list_all-at}
use Rattle.kms_laws.proofs.Headlines.{range-in}
use Rattle.kms_script.proofs.Inverted.{choice_some, from_bind, if_some, map_some, some_same}
use Rattle.kms_script.proofs.SpeltWords.{found}

-- Digits

-- what is no digit, or a digit that is written as it was read
abbrev is_written : ℕ → Bool
is_written b = not (is_hex b) || (nat_lt (hex_value b) 16 && (slice_index lower_digits (hex_value b) == b))

all-written : list_all is_written (range_with_len 48 55) ≡ true
all-written = refl

record IsWritten (b : ℕ) : Type 0 where
  small : hex_value b < 16
  same : slice_index lower_digits (hex_value b) ≡ b

-- where a digit stands among the bytes
hex-between : (b : ℕ) → is_hex b ≡ true → (48 ≤ b) × (b < 103)
hex-between b is = elim (or_cases (is_digit b) (between 97 102 b) is) [
  | inl digit ↦ (let two = and_parts _ _ digit in
      let low = leb-true 48 b two.0 in let high = leb-true b 57 two.1 in (low, omega (arith, high)))
  | inr letter ↦ (let two = and_parts _ _ letter in
      let low = leb-true 97 b two.0 in let high = leb-true b 102 two.1 in (omega (arith, low), omega (arith, high)))
]

written : (b : ℕ) → is_hex b ≡ true → IsWritten b
written b is =
    let near = hex-between b is in
    let one = list_all-at is_written (range_with_len 48 55) b all-written (range-in 48 55 b near.0 near.1) in
    of (is_hex b) is one
  where
    of : (t : Bool) → t ≡ true → (not t || (nat_lt (hex_value b) 16 && (slice_index lower_digits (hex_value b) == b))) ≡ true
        → IsWritten b
    of true e both =
        let two = and_parts (nat_lt (hex_value b) 16) (slice_index lower_digits (hex_value b) == b) both in
        record { small = ltb-true (hex_value b) 16 two.0; same = eqb-true (slice_index lower_digits (hex_value b)) b two.1 }
    of false e both = absurd cc

-- Bytes

-- a number of two digits, taken apart again
parted : (h l : ℕ) → l < 16 → ((h * 16 + l) / 16 ≡ h) × ((h * 16 + l) % 16 ≡ l)
parted h l lt = (omega arith, omega arith)

record IsPair (a b x : ℕ) : Type 0 where
  high : slice_index lower_digits (x / 16) ≡ a
  low : slice_index lower_digits (x % 16) ≡ b

pair-spelt : (a b x : ℕ) → hex_pair a b ≡ Some x → IsPair a b x
unfolding hex_pair
pair-spelt a b x e =
    let read = if_some (is_hex a && is_hex b) (Some (hex_value a * 16 + hex_value b)) x e in
    let two = and_parts (is_hex a) (is_hex b) read.0 in
    let A = written a two.0 in
    let B = written b two.1 in
    let parts = parted (hex_value a) (hex_value b) B.small in
    subst (IsPair a b) (some_same (hex_value a * 16 + hex_value b) x read.1) (record {
      high = ap (slice_index lower_digits) parts.0 ∙ A.same;
      low = ap (slice_index lower_digits) parts.1 ∙ B.same;
    })

bytes-spelt : (bytes word : List ℕ) → hex_bytes word ≡ Some bytes → encode_lower bytes ≡ word
unfolding hex_bytes encode_with
bytes-spelt bytes [] e = ap encode_lower (sym (some_same [] bytes e))
bytes-spelt bytes (a ∷ []) e = absurd cc
bytes-spelt bytes (a ∷ b ∷ more) e =
    from_bind (hex_pair a b) _ bytes e (λ x pair rest.
    from_bind (hex_bytes more) _ bytes rest (λ xs later is.
    let p = pair-spelt a b x pair in
    let all = bytes-spelt xs more later in
    ap encode_lower (sym (some_same (x ∷ xs) bytes is)) ∙ (λ i. p.high i ∷ p.low i ∷ all i)))

-- 64 digits are 32 bytes

bytes-twice : (word bytes : List ℕ) → hex_bytes word ≡ Some bytes → length word ≡ 2 * length bytes
unfolding hex_bytes
bytes-twice [] bytes e = ap (λ bs. 2 * length bs) (some_same [] bytes e)
bytes-twice (a ∷ []) bytes e = absurd cc
bytes-twice (a ∷ b ∷ more) bytes e =
    from_bind (hex_pair a b) _ bytes e (λ x pair rest.
    from_bind (hex_bytes more) _ bytes rest (λ xs later is.
    let two = bytes-twice more xs later in
    subst (λ bs. length (a ∷ b ∷ more) ≡ 2 * length bs) (some_same (x ∷ xs) bytes is) (omega (arith, two))))

pub half-as_many : (word bytes : List ℕ) → length word ≡ 64 → blob_bytes word ≡ Some bytes → length bytes ≡ 32
half-as_many word bytes long e =
    let two = bytes-twice word bytes (if_some (between 2 4096 (length word)) (hex_bytes word) bytes e).1 in
    omega (arith, two, long)

-- a digest as a word of its line
pub digest-spelt : (word : List ℕ) (d : Option (List ℕ)) → digest_in word ≡ Some d → digest_word d ≡ word
unfolding digest_in
digest-spelt word d e = elim (choice_some (bytes_eq word (codes "off")) (Some None) _ d e) [
  | inl off ↦ ap digest_word (sym (some_same None d off.1)) ∙ sym (found word (codes "off") off.0)
  | inr long ↦ (let read = (if_some (length word == 64) _ d long).1 in
      let m = map_some (λ (bytes : List ℕ). Some bytes) (hex_bytes word) d read in
      ap digest_word (sym m.makes) ∙ bytes-spelt m.value word m.given)
]

-- The words of a report's lines: each can be printed, and has no blank.
use Rattle.std.proofs.Common.{◌≡◌, ℕ, ◌+◌, ◌-◌, ◌*◌, ◌/◌, ◌%◌, ◌<◌, ◌≤◌, ◌^◌, Bool, true, List, [], ◌∷◌, ◌++◌, length, Some, None, refl, ap}
use Rattle.std.proofs.Common.{◌∙◌, arith, ⊎_elim}
use Rattle.std.specs.Prelude.{◌==◌, ◌&&◌, ◌||◌, codes, nat_le, not, slice_index, ⊤}
use Rattle.std.specs.Fmt.{decimal}
use Rattle.std.specs.List.{AllByRecursion, list_all, range_with_len}
use Rattle.std.specs.Str.{bytes_eq}
use Rattle.std.proofs.lemmas.Bool.{and_from, and_parts, cond-true, eqb-true, le-leb, leb-true, ne_eqb, or_cases}
use Rattle.std.proofs.lemmas.List.Folds.{list_all-append}
use Rattle.std.proofs.lemmas.Nat.{div-add-mod', div_below, mod_below}
use Rattle.hex.specs.Hex.{encode_lower, encode_with, lower_digits}
use Rattle.kms_model.specs.declared.objects.Kind.{Kind}
use Rattle.kms_model.specs.declared.objects.Kind.TheVariants.{Crtc, Plane, Conn, Enc}
use Rattle.kms_model.specs.Report.History.{named_object}
use Rattle.kms_model.specs.Report.Rules.{ENOMEM, EBUSY, errno_of}
use Rattle.kms_model.specs.Script.Grammar.{hex_bytes, hex_pair, is_printable}
use Rattle.kms_model.specs.Script.Words.{between, hex_value, is_digit, is_hex, is_label, is_label_rest, is_letter}
use Rattle.kms_model.proofs.Items.{list_all-at}
use Rattle.kms_laws.proofs.Headlines.{range-in}
use Rattle.kms_words.specs.Printed.{fields}
use Rattle.kms_script.proofs.Cutting.{each, is_inner}
use Rattle.kms_script.proofs.Decimals.{decimal_digits}

-- a byte of a word that can be printed
pub record IsByte (b : ℕ) : Type 0 where
  pub inner : is_inner b ≡ true
  pub plain : is_printable b ≡ true

byte-in : (b : ℕ) → 33 ≤ b → b ≤ 126 → IsByte b
byte-in b low high = record {
  inner = ap not (ne_eqb b 32 (λ e. absurd (omega (arith, e, low))));
  plain = and_from (nat_le 32 b) (nat_le b 126) (le-leb 32 b (omega (arith, low))) (le-leb b 126 high);
}

pub record IsWord (w : List ℕ) : Type 0 where
  pub inner : list_all is_inner w ≡ true
  pub plain : list_all is_printable w ≡ true

word-of : (test : ℕ → Bool) → ((b : ℕ) → test b ≡ true → IsByte b) → (w : List ℕ) → list_all test w ≡ true → IsWord w
word-of test is w all = record {
  inner = each test is_inner (λ b e. (is b e).inner) w all;
  plain = each test is_printable (λ b e. (is b e).plain) w all;
}

pub word-append : (v w : List ℕ) → IsWord v → IsWord w → IsWord (v ++ w)
word-append v w V W = record {
  inner = list_all-append is_inner v w ∙ and_from (list_all is_inner v) (list_all is_inner w) V.inner W.inner;
  plain = list_all-append is_printable v w ∙ and_from (list_all is_printable v) (list_all is_printable w) V.plain W.plain;
}

-- bytes between two
bytes-between : (low high : ℕ) → 33 ≤ low → high ≤ 126 → (b : ℕ) → between low high b ≡ true → IsByte b
bytes-between low high l h b e =
    let two = and_parts (nat_le low b) (nat_le b high) e in
    let a = leb-true low b two.0 in let c = leb-true b high two.1 in
    byte-in b (omega (arith, l, a)) (omega (arith, h, c))

pub number-word : (n : ℕ) → n < 2 ^ 64 → IsWord (decimal n)
number-word n small = word-of is_digit (bytes-between 48 57 (omega arith) (omega arith)) (decimal n) (decimal_digits n small)

rest-byte : (b : ℕ) → is_label_rest b ≡ true → IsByte b
rest-byte b e =
    ⊎_elim
    (λ (letter : is_letter b ≡ true). bytes-between 97 122 (omega arith) (omega arith) b letter)
    (λ other.
    ⊎_elim
    (λ (digit : is_digit b ≡ true). bytes-between 48 57 (omega arith) (omega arith) b digit)
    (λ line. let k = eqb-true b 95 line in byte-in b (omega (arith, k)) (omega (arith, k)))
    (or_cases (is_digit b) (b == 95) other))
    (or_cases (is_letter b) (is_digit b || (b == 95)) e)

pub label-word : (w : List ℕ) → is_label w ≡ true → IsWord w
unfolding is_label
label-word [] e = absurd cc
label-word (b ∷ bs) e =
    let one = and_parts (is_letter b) _ e in
    let two = and_parts (nat_le (length bs) 15) _ one.1 in
    let first = bytes-between 97 122 (omega arith) (omega arith) b one.0 in
    let rest = word-of is_label_rest rest-byte bs two.1 in
    record {
      inner = and_from (is_inner b) (list_all is_inner bs) first.inner rest.inner;
      plain = and_from (is_printable b) (list_all is_printable bs) first.plain rest.plain;
    }

-- Digests

abbrev digit_of : ℕ → ℕ
digit_of v = slice_index lower_digits v

abbrev is_digit_of : ℕ → Bool
is_digit_of v = is_hex (digit_of v) && ((hex_value (digit_of v) == v) && (nat_le 33 (digit_of v) && nat_le (digit_of v) 126))

all-digits : list_all is_digit_of (range_with_len 0 16) ≡ true
all-digits = refl

digit-is : (v : ℕ) → v < 16 → is_digit_of v ≡ true
digit-is v l = list_all-at is_digit_of (range_with_len 0 16) v all-digits (range-in 0 16 v (omega arith) (omega (arith, l)))

digit-byte : (v : ℕ) → v < 16 → IsByte (digit_of v)
digit-byte v l =
    let one = and_parts (is_hex (digit_of v)) _ (digit-is v l) in
    let two = and_parts (hex_value (digit_of v) == v) _ one.1 in
    let three = and_parts (nat_le 33 (digit_of v)) _ two.1 in
    byte-in (digit_of v) (leb-true 33 (digit_of v) three.0) (leb-true (digit_of v) 126 three.1)

-- the bytes of a digest, each below 256
abbrev pub AreSmall : List ℕ → Type 0
AreSmall bs = AllByRecursion (λ b. b < 256) bs

high-low : (b : ℕ) → b < 256 → (b / 16 < 16) × (b % 16 < 16) × (b / 16 * 16 + b % 16 ≡ b)
high-low b l = (div_below b 16 16 (omega arith) (omega (arith, l)), mod_below b 16 (omega arith), div-add-mod' b 16)

pub digest-is_word : (bs : List ℕ) → AreSmall bs → IsWord (encode_lower bs)
unfolding encode_with
digest-is_word [] small = record { inner = refl; plain = refl }
digest-is_word (b ∷ bs) small =
    let parts = high-low b small.0 in
    let high = digit-byte (b / 16) parts.0 in
    let low = digit-byte (b % 16) parts.1 in
    let rest = digest-is_word bs small.1 in
    record {
      inner = and_from (is_inner (digit_of (b / 16))) _ high.inner
          (and_from (is_inner (digit_of (b % 16))) (list_all is_inner (encode_lower bs)) low.inner rest.inner);
      plain = and_from (is_printable (digit_of (b / 16))) _ high.plain
          (and_from (is_printable (digit_of (b % 16))) (list_all is_printable (encode_lower bs)) low.plain rest.plain);
    }

pub digest-length : (bs : List ℕ) → length (encode_lower bs) ≡ 2 * length bs
unfolding encode_with
digest-length [] = refl
digest-length (b ∷ bs) = let e = digest-length bs in omega (arith, e)

hex-digit : (v : ℕ) → v < 16 → (is_hex (digit_of v) ≡ true) × (hex_value (digit_of v) ≡ v)
hex-digit v l =
    let one = and_parts (is_hex (digit_of v)) _ (digit-is v l) in
    let two = and_parts (hex_value (digit_of v) == v) _ one.1 in
    (one.0, eqb-true (hex_value (digit_of v)) v two.0)

pair-of : (a b x y : ℕ) → is_hex a ≡ true → is_hex b ≡ true → hex_value a ≡ x → hex_value b ≡ y → hex_pair a b ≡ Some (x * 16 + y)
unfolding hex_pair
pair-of a b x y p q e f =
    cond-true (is_hex a && is_hex b) (Some (hex_value a * 16 + hex_value b)) None (and_from (is_hex a) (is_hex b) p q)
    ∙ (λ i. Some (e i * 16 + f i))

pair-back : (b : ℕ) → b < 256 → hex_pair (digit_of (b / 16)) (digit_of (b % 16)) ≡ Some b
pair-back b l =
    let parts = high-low b l in
    let high = hex-digit (b / 16) parts.0 in
    let low = hex-digit (b % 16) parts.1 in
    pair-of (digit_of (b / 16)) (digit_of (b % 16)) (b / 16) (b % 16) high.0 low.0 high.1 low.1 ∙ ap Some parts.2

pub digest-back : (bs : List ℕ) → AreSmall bs → hex_bytes (encode_lower bs) ≡ Some bs
unfolding hex_bytes encode_with
digest-back [] small = refl
digest-back (b ∷ bs) small = rw (pair-back b small.0, digest-back bs small.1) refl

-- Error numbers

-- a word of a refusal's error number: it is none of the words that begin another reply
abbrev pub is_errno : List ℕ → Bool
is_errno w =
    list_all is_inner w && (list_all is_printable w
    && (not (bytes_eq w (codes "made")) && (not (bytes_eq w (codes "done")) && (not (bytes_eq w (codes "commit"))
    && (not (bytes_eq w (codes "tested")) && (not (bytes_eq w (codes "event")) && (not (bytes_eq w (codes "none"))
    && (not (bytes_eq w ENOMEM) && not (bytes_eq w EBUSY)))))))))

refusals-are : list_all (λ n. is_errno (errno_of n)) (range_with_len 1 24) ≡ true
refusals-are = refl

denials-are : list_all (λ n. is_errno (errno_of n)) (range_with_len 31 5) ≡ true
denials-are = refl

pub refusal-errno : (n : ℕ) → between 1 24 n ≡ true → is_errno (errno_of n) ≡ true
refusal-errno n e =
    let two = and_parts (nat_le 1 n) (nat_le n 24) e in
    let a = leb-true 1 n two.0 in let b = leb-true n 24 two.1 in
    list_all-at (λ n. is_errno (errno_of n)) (range_with_len 1 24) n refusals-are (range-in 1 24 n a (omega (arith, b)))

pub denial-errno : (n : ℕ) → between 31 35 n ≡ true → is_errno (errno_of n) ≡ true
denial-errno n e =
    let two = and_parts (nat_le 31 n) (nat_le n 35) e in
    let a = leb-true 31 n two.0 in let b = leb-true n 35 two.1 in
    list_all-at (λ n. is_errno (errno_of n)) (range_with_len 31 5) n denials-are (range-in 31 5 n a (omega (arith, b)))

-- Words behind blanks

abbrev pub ArePlain : List (List ℕ) → Type 0
ArePlain [] = ⊤
ArePlain (w ∷ ws) = (list_all is_printable w ≡ true) × ArePlain ws

pub fields-plain : (ws : List (List ℕ)) → ArePlain ws → list_all is_printable (fields ws) ≡ true
fields-plain [] all = refl
fields-plain (w ∷ ws) all =
    list_all-append is_printable w (fields ws) ∙ and_from (list_all is_printable w) (list_all is_printable (fields ws)) all.0
    (fields-plain ws all.1)

pub object-word : (kind : Kind) (index : ℕ) → index < 2 ^ 64 → IsWord (named_object kind index)
object-word Crtc index small = word-append (codes "crtc") (decimal index) (record { inner = refl; plain = refl }) (number-word index small)
object-word Plane index small = word-append (codes "plane") (decimal index) (record { inner = refl; plain = refl })
    (number-word index small)
object-word Conn index small = word-append (codes "conn") (decimal index) (record { inner = refl; plain = refl }) (number-word index small)
object-word Enc index small = word-append (codes "enc") (decimal index) (record { inner = refl; plain = refl }) (number-word index small)

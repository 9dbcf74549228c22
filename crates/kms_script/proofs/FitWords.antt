-- What was read of words and fields is within the bounds of a well-formed script.
use Rattle.std.proofs.Common.{◌≡◌, ℕ, ◌+◌, ◌*◌, ◌<◌, ◌≤◌, ◌^◌, zero, suc, inl, inr, Bool, true, false, List, [], ◌∷◌, length, cond}
use Rattle.std.proofs.Common.{Option, Some, None, ℤ, pos, negsuc, neg_ℤ, refl, sym, arith, subst, codes}
use Rattle.std.specs.Prelude.{◌==◌, ◌&&◌, codes, int_le, nat_le, nat_lt, option_map, IfSome, find, is_some}
use Rattle.std.specs.List.{list_all, list_any}
use Rattle.std.specs.Option.{option_map_or}
use Rattle.std.proofs.Math.Nat.{mul-le-mul_right, pow-le-pow_right, pow-suc}
use Rattle.std.proofs.lemmas.Bool.{and_from, and_parts, eqb-true, leb-true, eq-eqb}
use Rattle.std.proofs.lemmas.Bool.Decides.{nat_tests}
use Rattle.kms_model.specs.declared.objects.Format.{Format}
use Rattle.kms_model.specs.declared.objects.Kind.{Kind}
use Rattle.kms_model.specs.declared.objects.Kind.TheVariants.{Crtc, Plane, Conn, Enc}
use Rattle.kms_model.specs.Script.Grammar.{blob_bytes, digits_of, hex, hex_bytes, hex_pair, indexed, int, is_hex_number, negative, object}
use Rattle.kms_model.specs.Script.Grammar.{pixel_number, known_property}
use Rattle.kms_model.specs.Script.WellFormed.{is_integer, is_pixel_of, is_word16, is_word32}
use Rattle.kms_model.specs.Script.Words.{between, dec, dec_at, field_at, hex_from, hex_value, is_hex, strip}
use Rattle.kms_script.proofs.Decimals.{dec_at_most}
use Rattle.kms_script.proofs.Inverted.{bind_some, from_bind, if_some, map_some, or_some, some_same}
use Rattle.kms_script.proofs.Hexadecimals.{hex_parts}
use Rattle.kms_script.proofs.SpeltWords.{nothing_read}
use Rattle.std.specs.Str.{bytes_eq}
use Rattle.kms_model.specs.Device.Properties.{Property, has_id, is_in_profile, is_named, properties, property_id, property_in}
use Rattle.kms_model.specs.Device.Properties.{property_named, same_kind}
use Rattle.kms_model.proofs.SetLemmas.{find-passes}
use Rattle.kms_model.proofs.Facts.{or_else-some}
use Rattle.kms_script.proofs.Accepted.{either_ok}

-- Numbers

small_digit : (b : ℕ) → is_hex b ≡ true → hex_value b < 16
small_digit b e = grind (arith, nat_tests)

digit_fits : (n d p : ℕ) → d < 16 → (n * 16 + d + 1) * p ≤ (n + 1) * (p * 16)
digit_fits n d p lt = let more : (d + 1) * p ≤ 16 * p = mul-le-mul_right p (omega arith) in omega arith

hex_below : (n : ℕ) (ds : List ℕ) → list_all is_hex ds ≡ true → hex_from n ds < (n + 1) * 16 ^ length ds
hex_below n [] e = omega arith
hex_below n (d ∷ ds) e =
    let p = and_parts (is_hex d) (list_all is_hex ds) e in
    let below : hex_from (n * 16 + hex_value d) ds < (n * 16 + hex_value d + 1) * 16 ^ length ds = hex_below (n * 16 + hex_value d) ds p.1
    in
    let fits : (n * 16 + hex_value d + 1) * 16 ^ length ds ≤ (n + 1)
    * (16 ^ length ds * 16) = digit_fits n (hex_value d) (16 ^ length ds) (small_digit d p.0) in
    rw (pow-suc 16 (length ds)) (omega (arith, below, fits))

hex_of_length : (ds : List ℕ) → list_all is_hex ds ≡ true → hex_from 0 ds < 16 ^ length ds
hex_of_length ds e = let below : hex_from 0 ds < (0 + 1) * 16 ^ length ds = hex_below 0 ds e in omega (arith, below)

lt_test : (n m : ℕ) → n < m → nat_lt n m ≡ true
lt_test n m lt = grind (arith, nat_tests)

pub le_test : (n m : ℕ) → n ≤ m → nat_le n m ≡ true
le_test n m le = grind (arith, nat_tests)

pub pixel_fit : (format : Format) (p : ℕ) (word : List ℕ) → pixel_number format word ≡ Some p → is_pixel_of format p ≡ true
unfolding pixel_number
pixel_fit format p word e =
    let read = if_some ((length word == digits_of format) && list_all is_hex word) (Some (hex_from 0 word)) p e in
    let parts = and_parts (length word == digits_of format) (list_all is_hex word) read.0 in
    let small : hex_from 0 word < 16 ^ digits_of format = rw (eqb-true (length word) (digits_of format) parts.0) at
    (hex_of_length word parts.1) in
    rw (← some_same (hex_from 0 word) p read.1) (lt_test (hex_from 0 word) (16 ^ digits_of format) small)

plain_digits : (ds : List ℕ) → is_hex_number ds ≡ true → list_all is_hex ds ≡ true
plain_digits [] e = absurd cc
plain_digits (d ∷ ds) e = step (d == 48) refl e
  where
    none : (xs : List ℕ) → (length xs == 0) ≡ true → xs ≡ []
    none [] e = refl
    none (x ∷ xs) e = absurd (omega (arith, eqb-true (length (x ∷ xs)) 0 e))

    step : (t : Bool) → (d == 48) ≡ t → cond t (length ds == 0) (list_all is_hex (d ∷ ds)) ≡ true → list_all is_hex (d ∷ ds) ≡ true
    step true is e = rw (eqb-true d 48 is, none ds e) refl
    step false is e = e

pub hex_fit : (n : ℕ) (word : List ℕ) → hex word ≡ Some n → is_word32 n ≡ true
hex_fit n word e =
    let p = hex_parts word n e in
    let most : 16 ^ length p.digits ≤ 16 ^ 8 = pow-le-pow_right (omega arith) (leb-true (length p.digits) 8 p.few) in
    let small : hex_from 0 p.digits < 2 ^ 32 = omega (arith, hex_of_length p.digits (plain_digits p.digits p.number), most) in
    rw (← p.makes) (lt_test (hex_from 0 p.digits) (2 ^ 32) small)

-- a number at most another
pub dec_at_fit : (most : ℕ) (bytes : List ℕ) (r : ℕ × List ℕ) → dec_at most bytes ≡ Some r → r.0 ≤ most
unfolding dec_at
dec_at_fit most bytes r e =
    from_bind (field_at bytes) _ r e (λ f a more.
    from_bind (dec most f.0) _ r more (λ n given more. rw (← some_same _ r more) (dec_at_most most n f.0 given)))

pub word_fit : (n : ℕ) → n ≤ 4294967295 → is_word32 n ≡ true
word_fit n le = lt_test n (2 ^ 32) (omega (arith, le))

pub long_fit : (n : ℕ) → n ≤ 18446744073709551615 → nat_lt n (2 ^ 64) ≡ true
long_fit n le = lt_test n (2 ^ 64) (omega (arith, le))

pub index_fit : (n : ℕ) (digits : List ℕ) → dec 255 digits ≡ Some n → nat_le n 255 ≡ true
index_fit n digits e = le_test n 255 (dec_at_most 255 n digits e)

pub word16_fit : (n : ℕ) → n ≤ 65535 → is_word16 n ≡ true
word16_fit n few = lt_test n (2 ^ 16) (omega (arith, few))

-- Blobs

pair_fit : (a b x : ℕ) → hex_pair a b ≡ Some x → nat_lt x 256 ≡ true
unfolding hex_pair
pair_fit a b x e =
    let read = if_some (is_hex a && is_hex b) (Some (hex_value a * 16 + hex_value b)) x e in
    let parts = and_parts (is_hex a) (is_hex b) read.0 in
    let same : x ≡ hex_value a * 16 + hex_value b = sym (some_same (hex_value a * 16 + hex_value b) x read.1) in
    lt_test x 256 (omega (arith, same, small_digit a parts.0, small_digit b parts.1))

bytes_fit : (bytes word : List ℕ) → hex_bytes word ≡ Some bytes
    → (length word ≡ 2 * length bytes) × (list_all (λ b. nat_lt b 256) bytes ≡ true)
unfolding hex_bytes
bytes_fit bytes [] e = rw (← some_same [] bytes e) (refl, refl)
bytes_fit bytes (a ∷ []) e = absurd cc
bytes_fit bytes (a ∷ b ∷ more) e =
    from_bind (hex_pair a b) _ bytes e (λ x pair rest.
    from_bind (hex_bytes more) _ bytes rest (λ xs later rest.
    let all = bytes_fit xs more later in
    rw (← some_same _ bytes rest) (
      twice (length more) (length xs) all.0,
      and_from (nat_lt x 256) (list_all (λ b. nat_lt b 256) xs) (pair_fit a b x pair) all.1,
    )))
  where
    twice : (n m : ℕ) → n ≡ 2 * m → suc (suc n) ≡ 2 * suc m
    twice n m e = omega (arith, e)

pub blob_fit : (word bytes : List ℕ) → blob_bytes word ≡ Some bytes
    → (between 1 2048 (length bytes) && list_all (λ b. nat_lt b 256) bytes) ≡ true
blob_fit word bytes e =
    let read = if_some (between 2 4096 (length word)) (hex_bytes word) bytes e in
    let all = bytes_fit bytes word read.1 in
    and_from (between 1 2048 (length bytes)) (list_all (λ b. nat_lt b 256) bytes) (sides (length word) (length bytes) read.0 all.0) all.1
  where
    sides : (n m : ℕ) → between 2 4096 n ≡ true → n ≡ 2 * m → between 1 2048 m ≡ true
    sides n m e same = grind (arith, nat_tests)

-- Integers and objects

negative_fit : (z : ℤ) (digits : List ℕ) → negative digits ≡ Some z → is_integer z ≡ true
negative_fit z digits e =
    let b = bind_some (dec 9223372036854775808 digits) _ z e in
    step b.value (b.value == 0) (dec_at_most 9223372036854775808 b.value digits b.given) refl b.then
  where
    step : (n : ℕ) (t : Bool) → n ≤ 9223372036854775808 → (n == 0) ≡ t → cond t None (Some (neg_ℤ (pos n))) ≡ Some z → is_integer z ≡ true
    step n true le is e = absurd cc
    step zero false le is e = absurd cc
    step (suc n) false le is e = rw (← some_same (negsuc n) z e) (within n (omega (arith, le)))
      where
        within : (n : ℕ) → n ≤ 9223372036854775807 → is_integer (negsuc n) ≡ true
        within n le = and_from (int_le (negsuc 9223372036854775807) (negsuc n)) (int_le (negsuc n) (pos 18446744073709551615))
            (le_test n 9223372036854775807 le) refl

pub int_fit : (z : ℤ) (word : List ℕ) → int word ≡ Some z → is_integer z ≡ true
unfolding int
int_fit z word e = elim (or_some negative (strip (codes "-") word) (option_map pos (dec 18446744073709551615 word)) z e) [
  | inl b ↦ negative_fit z b.value b.then
  | inr d ↦ (let m = map_some pos (dec 18446744073709551615 word) z d
      in rw (← m.makes) (le_test m.value 18446744073709551615 (dec_at_most 18446744073709551615 m.value word m.given)))
]

kind_or : (kind : Kind) (o : Kind × ℕ) (rest other : Option (List ℕ)) (more : Option (Kind × ℕ)) → (more ≡ Some o → nat_le o.1 255 ≡ true)
    → option_map_or (indexed kind) rest more ≡ Some o → nat_le o.1 255 ≡ true
kind_or kind o rest other more later e = elim (or_some (indexed kind) rest more o e) [
  | inl b ↦ (let m = map_some _ (dec 255 b.value) o b.then in rw (← m.makes) (index_fit m.value b.value m.given))
  | inr there ↦ later there
]

pub object_fit : (o : Kind × ℕ) (word : List ℕ) → object word ≡ Some o → nat_le o.1 255 ≡ true
unfolding object
object_fit o word e =
    kind_or Crtc o _ None _ (kind_or Plane o _ None _ (kind_or Conn o _ None _ (kind_or Enc o _ None None (nothing_read o)))) e

-- Properties

first_found : {A : Type 0} (t : Bool) (x : A) (o : Option A) → t ≡ true → is_some (cond t (Some x) o) ≡ true
first_found t x o e = rw e refl

later_found : {A : Type 0} (t : Bool) (x : A) (o : Option A) → is_some o ≡ true → is_some (cond t (Some x) o) ≡ true
later_found true x o e = refl
later_found false x o e = e

-- where one test finds an item that passes another, the other finds one too
found_too : {A : Type 0} (q r : A → Bool) (xs : List A) (x : A) → find q xs ≡ Some x → r x ≡ true → is_some (find r xs) ≡ true
found_too q r [] x e passes = absurd cc
found_too q r (y ∷ ys) x e passes = elim (either_ok (q y) (Some y) (find q ys) (Some x) e) [
  | inl here ↦ first_found (r y) y (find r ys) (subst (λ z. r z ≡ true) (sym (some_same y x here.1)) passes)
  | inr there ↦ later_found (r y) y (find r ys) (found_too q r ys x there.1 passes)
]

row_fit : (profile : ℕ) (kind : Kind) (word : List ℕ) (p : Property) → property_named profile kind word ≡ Some p
    → is_named profile kind word p ≡ true → is_some (property_in profile p.id) ≡ true
row_fit profile kind word p found named =
    let both : (bytes_eq p.name word && is_in_profile profile p)
    ≡ true = (and_parts (list_any (same_kind kind) p.kinds) (bytes_eq p.name word && is_in_profile profile p) named).1 in
    let within : is_in_profile profile p ≡ true = (and_parts (bytes_eq p.name word) (is_in_profile profile p) both).1 in
    found_too (is_named profile kind word) (λ r. has_id p.id r && is_in_profile profile r) properties p found
    (and_from (has_id p.id p) (is_in_profile profile p) (eq-eqb p.id p.id refl) within)

-- the id of a property's name is in the table
id_fit : (profile : ℕ) (kind : Kind) (word : List ℕ) (id : ℕ) → property_id profile kind word ≡ Some id
    → is_some (property_in profile id) ≡ true
id_fit profile kind word id e = step (property_named profile kind word) refl (find-passes (is_named profile kind word) properties) e
  where
    step : (o : Option Property) → property_named profile kind word ≡ o → IfSome o (λ p. is_named profile kind word p ≡ true)
        → option_map (λ (p : Property). p.id) o ≡ Some id → is_some (property_in profile id) ≡ true
    step None found named e = absurd cc
    step (Some p) found named e = subst (λ n. is_some (property_in profile n) ≡ true) (some_same p.id id e)
        (row_fit profile kind word p found named)

pub known_fit : (profile : ℕ) (word : List ℕ) (id : ℕ) → known_property profile word ≡ Some id → is_some (property_in profile id) ≡ true
known_fit profile word id e = elim (or_else-some (property_id profile Plane word) _ id e) [
  | inl plane ↦ id_fit profile Plane word id plane
  | inr more ↦ elim (or_else-some (property_id profile Crtc word) (property_id profile Conn word) id more) [
    | inl crtc ↦ id_fit profile Crtc word id crtc
    | inr conn ↦ id_fit profile Conn word id conn
  ]
]

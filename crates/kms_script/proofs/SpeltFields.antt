-- The fields that readers take: each passes its test of a well-formed script, and is written as it stood.
use Rattle.std.proofs.Common.{◌≡◌, ℕ, zero, suc, ◌-◌, ◌<◌, ◌≤◌, ◌^◌, Bool, true, false, List, [], ◌∷◌, ◌++◌, length, replicate, cond}
use Rattle.std.proofs.Common.{Option, Some, refl, ap, ◌∙◌, arith}
use Rattle.std.specs.Prelude.{◌==◌, ◌&&◌, nat_le, nat_lt}
use Rattle.std.specs.Fmt.{decimal, signed_decimal}
use Rattle.std.specs.List.{list_all}
use Rattle.std.specs.Str.{bytes_eq}
use Rattle.std.proofs.lemmas.Bool.{and_from, and_parts, eqb-true}
use Rattle.std.proofs.lemmas.Bool.Decides.{nat_tests}
use Rattle.std.proofs.lemmas.Slice.Eq.{bytes_eq-Decides}
use Rattle.kms_model.specs.declared.objects.Format.{Format}
use Rattle.kms_model.specs.declared.objects.Mode.{Mode}
use Rattle.kms_model.specs.Script.CommandLines.{label_alone, five_at, mode_fields}
use Rattle.kms_model.specs.Script.Grammar.{blob_bytes, hex, hex_at, hex_bytes, int, object, pixel_number, pixel_at, format_named, format_at}
use Rattle.kms_model.specs.Script.WellFormed.{are_words16, has_widths, is_integer, is_mode_name, is_pixel_of, is_word16, is_word32}
use Rattle.kms_model.specs.Script.Words.{between, dec, dec_at, end_at, field_at, is_label, is_name_byte, label_at, name_at, read_at, until}
use Rattle.kms_model.specs.Script.Spelling.{blob_word, hex_word, pixel_word, format_word, spelt_mode}
use Rattle.kms_script.proofs.Decimals.{dec_at_most, dec_spelt}
use Rattle.kms_script.proofs.FitWords.{blob_fit, hex_fit, int_fit, object_fit, pixel_fit, word16_fit, word_fit}
use Rattle.kms_script.proofs.Hexadecimals.{bytes_spelt, hex_spelt, pixel_spelt}
use Rattle.kms_script.proofs.Inverted.{from_bind, if_some, some_same}
use Rattle.kms_script.proofs.LineFields.{fields_to, field_spelt, end_spelt}
use Rattle.kms_script.proofs.SpeltWords.{format_spelt, int_spelt, object_spelt, object_word}

-- Kinds of words

-- how the words of a kind are read, tested and spelt: what is read passes the test, and is spelt as it was read
pub record IsKind {A : Type 0} (read : List ℕ → Option A) (fits : A → Bool) (spell : A → List ℕ) : Type 0 where
  pub fit : (x : A) (w : List ℕ) → read w ≡ Some x → fits x ≡ true
  pub spelt : (x : A) (w : List ℕ) → read w ≡ Some x → spell x ≡ w

pub numbers : (most : ℕ) (fits : ℕ → Bool) → most < 2 ^ 64 → ((n : ℕ) → n ≤ most → fits n ≡ true) → IsKind (dec most) fits decimal
numbers most fits small low =
    record { fit = λ n w e. low n (dec_at_most most n w e); spelt = λ n w e. dec_spelt most n w small e }

hexes : IsKind hex is_word32 hex_word
hexes = record { fit = hex_fit; spelt = hex_spelt }

pixels : (format : Format) → IsKind (pixel_number format) (is_pixel_of format) (pixel_word format)
pixels format = record { fit = pixel_fit format; spelt = pixel_spelt format }

formats : IsKind format_named (λ f. true) format_word
formats = record { fit = λ f w e. refl; spelt = format_spelt }

pub integers : IsKind int is_integer signed_decimal
integers = record { fit = int_fit; spelt = int_spelt }

pub objects : IsKind object (λ o. nat_le o.1 255) object_word
objects = record { fit = object_fit; spelt = object_spelt }

pub blobs : IsKind blob_bytes (λ bytes. between 1 2048 (length bytes) && list_all (λ b. nat_lt b 256) bytes) blob_word
blobs = record {
  fit = λ bytes w e. blob_fit w bytes e;
  spelt = λ bytes w e. bytes_spelt bytes w (if_some (between 2 4096 (length w)) (hex_bytes w) bytes e).1;
}

-- Fields

-- words that a reader took from the front of bytes: they pass a test
pub record IsTaken (test : Bool) (words : List (List ℕ)) (bytes rest : List ℕ) : Type 0 where
  pub fit : test ≡ true
  pub spelt : fields_to words rest ≡ bytes

fields_joined : (ws vs : List (List ℕ)) (rest : List ℕ) → fields_to (ws ++ vs) rest ≡ fields_to ws (fields_to vs rest)
fields_joined [] vs rest = refl
fields_joined (w ∷ ws) vs rest = ap (λ (bs : List ℕ). 32 ∷ (w ++ bs)) (fields_joined ws vs rest)

-- words behind others
pub behind : {s t : Bool} {ws vs : List (List ℕ)} {bytes mid rest : List ℕ} → IsTaken s ws bytes mid → IsTaken t vs mid rest
    → IsTaken (s && t) (ws ++ vs) bytes rest
behind {s} {t} {ws} {vs} {bytes} {mid} {rest} one two = record {
  fit = and_from s t one.fit two.fit;
  spelt = fields_joined ws vs rest ∙ (ap (fields_to ws) two.spelt ∙ one.spelt);
}

-- words up to the end of the line
pub at_end : {t : Bool} {ws : List (List ℕ)} {bytes mid : List ℕ} (u : Unit {0}) → IsTaken t ws bytes mid → end_at mid ≡ Some u
    → IsTaken t ws bytes []
at_end {t} {ws} {bytes} {mid} u one end = record { fit = one.fit; spelt = ap (fields_to ws) (end_spelt mid u end) ∙ one.spelt }

-- a field of a kind
taken : {A : Type 0} (read : List ℕ → Option A) (fits : A → Bool) (spell : A → List ℕ) → IsKind read fits spell
    → (bytes : List ℕ) (r : A × List ℕ) → read_at read bytes ≡ Some r → IsTaken (fits r.0) (spell r.0 ∷ []) bytes r.1
taken read fits spell kind bytes r e =
    from_bind (field_at bytes) _ r e (λ f given more.
    from_bind (read f.0) _ r more (λ x is more.
    rw (← some_same _ r more)
    (record { fit = kind.fit x f.0 is; spelt = rw (kind.spelt x f.0 is) (field_spelt bytes f given) })))

pub number_taken : (most : ℕ) (fits : ℕ → Bool) → IsKind (dec most) fits decimal → (bytes : List ℕ) (r : ℕ × List ℕ)
    → dec_at most bytes ≡ Some r → IsTaken (fits r.0) (decimal r.0 ∷ []) bytes r.1
unfolding dec_at
number_taken most fits kind bytes r e = taken (dec most) fits decimal kind bytes r e

pub word32_taken : (bytes : List ℕ) (r : ℕ × List ℕ) → dec_at 4294967295 bytes ≡ Some r
    → IsTaken (is_word32 r.0) (decimal r.0 ∷ []) bytes r.1
word32_taken = number_taken 4294967295 is_word32 (numbers 4294967295 is_word32 (omega arith) word_fit)

word16_taken : (bytes : List ℕ) (r : ℕ × List ℕ) → dec_at 65535 bytes ≡ Some r → IsTaken (is_word16 r.0) (decimal r.0 ∷ []) bytes r.1
word16_taken = number_taken 65535 is_word16 (numbers 65535 is_word16 (omega arith) word16_fit)

pub dec_at_spelt : (most : ℕ) (bytes : List ℕ) (r : ℕ × List ℕ) → most < 2 ^ 64 → dec_at most bytes ≡ Some r
    → 32 ∷ (decimal r.0 ++ r.1) ≡ bytes
dec_at_spelt most bytes r small e = (number_taken most (λ n. true) (numbers most (λ n. true) small (λ n le. refl)) bytes r e).spelt

pub hex_taken : (bytes : List ℕ) (r : ℕ × List ℕ) → hex_at bytes ≡ Some r → IsTaken (is_word32 r.0) (hex_word r.0 ∷ []) bytes r.1
hex_taken = taken hex is_word32 hex_word hexes

pub pixel_taken : (format : Format) (bytes : List ℕ) (r : ℕ × List ℕ) → pixel_at format bytes ≡ Some r
    → IsTaken (is_pixel_of format r.0) (pixel_word format r.0 ∷ []) bytes r.1
unfolding pixel_at
pixel_taken format bytes r e = taken (pixel_number format) (is_pixel_of format) (pixel_word format) (pixels format) bytes r e

pub format_taken : (bytes : List ℕ) (r : Format × List ℕ) → format_at bytes ≡ Some r → IsTaken true (format_word r.0 ∷ []) bytes r.1
unfolding format_at
format_taken bytes r e = taken format_named (λ f. true) format_word formats bytes r e

-- a label
pub label_taken : (bytes : List ℕ) (r : List ℕ × List ℕ) → label_at bytes ≡ Some r → IsTaken (is_label r.0) (r.0 ∷ []) bytes r.1
unfolding label_at
label_taken bytes r e =
    from_bind (field_at bytes) _ r e (λ f given more.
    let read = if_some (is_label f.0) (Some f) r more in
    rw (← some_same f r read.1) (record { fit = read.0; spelt = field_spelt bytes f given }))

pub label_at_spelt : (bytes : List ℕ) (r : List ℕ × List ℕ) → label_at bytes ≡ Some r → 32 ∷ (r.0 ++ r.1) ≡ bytes
label_at_spelt bytes r e = (label_taken bytes r e).spelt

-- one label up to the end of the line
pub alone_taken : (bytes label : List ℕ) → label_alone bytes ≡ Some label → IsTaken (is_label label) (label ∷ []) bytes []
unfolding label_alone
alone_taken bytes label e =
    from_bind (label_at bytes) _ label e (λ l first more.
    from_bind (end_at l.1) _ label more (λ u end more.
    let all = at_end u (label_taken bytes l first) end in
    rw (← some_same _ label more) all))

pub label_alone_spelt : (bytes label : List ℕ) → label_alone bytes ≡ Some label → fields_to (label ∷ []) [] ≡ bytes
label_alone_spelt bytes label e = (alone_taken bytes label e).spelt

-- Modes

-- zeros alone are no name
filled_end : (n : ℕ) → until 0 (replicate n 0) ≡ []
filled_end zero = refl
filled_end (suc n) = refl

name_step : (t : Bool) (b : ℕ) (bs ws : List ℕ) → (t ≡ true → b ≡ 0) → is_name_byte b ≡ true → bs ≡ ws → cond t [] (b ∷ bs) ≡ b ∷ ws
name_step true b bs ws is h ih = let no : is_name_byte 0 ≡ true = rw (is refl) at h in absurd cc
name_step false b bs ws is h ih = ap (λ (xs : List ℕ). b ∷ xs) ih

-- the zeros behind a name are no part of it
name_ends : (word : List ℕ) (n : ℕ) → list_all is_name_byte word ≡ true → until 0 (word ++ replicate n 0) ≡ word
name_ends [] n h = filled_end n
name_ends (b ∷ bs) n h =
    let parts = and_parts (is_name_byte b) (list_all is_name_byte bs) h in
    name_step (b == 0) b (until 0 (bs ++ replicate n 0)) bs (eqb-true b 0) parts.0 (name_ends bs n parts.1)

-- the name of a mode
name_taken : (bytes : List ℕ) (r : List ℕ × List ℕ) → name_at bytes ≡ Some r
    → IsTaken (is_mode_name r.0) (until 0 r.0 ∷ []) bytes r.1
unfolding name_at
name_taken bytes r e = from_bind (field_at bytes) _ r e (λ f given more.
    let word : List ℕ = f.0 in
    let filled : List ℕ = word ++ replicate (32 - length word) 0 in
    let read = if_some (nat_lt 0 (length word) && (nat_lt (length word) 32 && list_all is_name_byte word)) _ r more in
    let some = and_parts (nat_lt 0 (length word)) (nat_lt (length word) 32 && list_all is_name_byte word) read.0 in
    let few = and_parts (nat_lt (length word) 32) (list_all is_name_byte word) some.1 in
    rw (← some_same _ r read.1, name_ends word (32 - length word) few.1) (record {
      fit = and_from (between 1 31 (length word)) (list_all is_name_byte word && bytes_eq filled filled) (sides (length word) some.0 few.0)
          (and_from (list_all is_name_byte word) (bytes_eq filled filled) few.1 ((bytes_eq-Decides filled filled).1 refl));
      spelt = field_spelt bytes f given;
    }))
  where
    sides : (n : ℕ) → nat_lt 0 n ≡ true → nat_lt n 32 ≡ true → between 1 31 n ≡ true
    sides n some few = grind (arith, nat_tests)

-- five numbers, and the bytes behind them
abbrev Five : Type 0
Five = ℕ × ℕ × ℕ × ℕ × ℕ × List ℕ

abbrev five_words : Five → List (List ℕ)
five_words v = decimal v.0 ∷ decimal v.1 ∷ decimal v.2 ∷ decimal v.3 ∷ decimal v.4 ∷ []

five_taken : (bytes : List ℕ) (v : Five) → five_at bytes ≡ Some v
    → IsTaken (are_words16 v.0 v.1 v.2 v.3 v.4) (five_words v) bytes v.5
unfolding five_at
five_taken bytes v is =
    from_bind (dec_at 65535 bytes) _ v is (λ a first more.
    from_bind (dec_at 65535 a.1) _ v more (λ b second more.
    from_bind (dec_at 65535 b.1) _ v more (λ c third more.
    from_bind (dec_at 65535 c.1) _ v more (λ d fourth more.
    from_bind (dec_at 65535 d.1) _ v more (λ e fifth more.
    let all = behind (word16_taken bytes a first) (behind (word16_taken a.1 b second) (behind (word16_taken b.1 c third)
    (behind (word16_taken c.1 d fourth) (word16_taken d.1 e fifth)))) in
    rw (← some_same _ v more) all)))))

-- a mode
pub mode_taken : (bytes : List ℕ) (m : Mode × List ℕ) → mode_fields bytes ≡ Some m
    → IsTaken (has_widths m.0 && is_mode_name m.0.name) (spelt_mode m.0) bytes m.1
unfolding mode_fields
mode_taken bytes m e =
    from_bind (dec_at 4294967295 bytes) _ m e (λ clock first more.
    from_bind (five_at clock.1) _ m more (λ h across more.
    from_bind (five_at h.5) _ m more (λ v down more.
    from_bind (dec_at 4294967295 v.5) _ m more (λ r rate more.
    from_bind (dec_at 4294967295 r.1) _ m more (λ f flags more.
    from_bind (dec_at 4294967295 f.1) _ m more (λ k kind more.
    from_bind (name_at k.1) _ m more (λ n name more.
    let all = behind (behind (word32_taken bytes clock first) (behind (five_taken clock.1 h across) (behind (five_taken h.5 v down)
    (behind (word32_taken v.5 r rate) (behind (word32_taken r.1 f flags) (word32_taken f.1 k kind)))))) (name_taken k.1 n name) in
    rw (← some_same _ m more) all)))))))

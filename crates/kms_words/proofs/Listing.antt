-- Lists parted by commas, and hexadecimal digits, one more at a time.
use Rattle.std.proofs.Common.{◌≡◌, ℕ, zero, suc, ◌+◌, ◌-◌, ◌/◌, ◌%◌, ◌<◌, true, false, List, [], ◌∷◌, ◌++◌, refl, ap, sym, ◌∙◌}
use Rattle.std.proofs.Common.{append_assoc, append-nil, map-id, cond, arith}
use Rattle.std.specs.Prelude.{filter, map}
use Rattle.std.specs.Fmt.{digit_glyph}
use Rattle.std.specs.List.{join_with_byte, range_with_len}
use Rattle.std.proofs.lemmas.List.FromFn.{filter_of_map_range_with_len_more}
use Rattle.kms_model.specs.Device.Masks.{has_bit}
use Rattle.kms_model.specs.Script.Spelling.{hex_digits, list_word}

pub hex_digits_more : (count n : ℕ) → 0 < count → hex_digits count n ≡ hex_digits (count - 1) (n / 16) ++ digit_glyph false (n % 16) ∷ []
hex_digits_more zero n pos = absurd (omega arith)
hex_digits_more (suc k) n pos = let e : suc k - 1 ≡ k = omega arith in rw e refl

-- the bits of a set below one
abbrev pub bits_below : ℕ → ℕ → List ℕ
bits_below mask n = filter (has_bit mask) (range_with_len 0 n)

-- the comma behind words, where there are some
abbrev pub comma_behind : {A : Type 0} → List A → List ℕ
comma_behind [] = []
comma_behind (x ∷ xs) = 44 ∷ []

-- a comma stands behind a list that has one more
pub comma_push : {A : Type 0} (xs : List A) (x : A) → comma_behind (xs ++ x ∷ []) ≡ 44 ∷ []
comma_push [] x = refl
comma_push (y ∷ ys) x = refl

module _ (f : ℕ → List ℕ) where
  join_push : (xs : List ℕ) (x : ℕ) → join_with_byte 44 (map f (xs ++ x ∷ [])) ≡ join_with_byte 44 (map f xs) ++ (comma_behind xs ++ f x)
  join_push [] x = refl
  join_push (y ∷ []) x = refl
  join_push (y ∷ z ∷ zs) x = ap (λ (bs : List ℕ). f y ++ 44 ∷ bs) (join_push (z ∷ zs) x) ∙ sym
      (append_assoc (f y) (44 ∷ join_with_byte 44 (map f (z ∷ zs))) (comma_behind (y ∷ z ∷ zs) ++ f x))

module _ (mask n : ℕ) where
  bits_more : bits_below mask (n + 1) ≡ bits_below mask n ++ cond (has_bit mask n) (n ∷ []) []
  bits_more =
      let more = filter_of_map_range_with_len_more (has_bit mask) (λ (k : ℕ). k) 0 n n (omega arith) in
      rw (map-id (range_with_len 0 (n + 1)), map-id (range_with_len 0 n)) at more

  pub bit_taken : has_bit mask n ≡ true → bits_below mask (n + 1) ≡ bits_below mask n ++ n ∷ []
  bit_taken is = rw is at bits_more

  pub bit_passed : has_bit mask n ≡ false → bits_below mask (n + 1) ≡ bits_below mask n
  bit_passed is = (rw is at bits_more) ∙ append-nil (bits_below mask n)

  pub list_taken : (f : ℕ → List ℕ) → has_bit mask n ≡ true → list_word f (n + 1) mask ≡ list_word f n mask
      ++ (comma_behind (bits_below mask n) ++ f n)
  list_taken f is = ap (λ (bits : List ℕ). join_with_byte 44 (map f bits)) (bit_taken is) ∙ join_push f (bits_below mask n) n

  pub list_passed : (f : ℕ → List ℕ) → has_bit mask n ≡ false → list_word f (n + 1) mask ≡ list_word f n mask
  list_passed f is = ap (λ (bits : List ℕ). join_with_byte 44 (map f bits)) (bit_passed is)

  pub comma_taken : has_bit mask n ≡ true → comma_behind (bits_below mask (n + 1)) ≡ 44 ∷ []
  comma_taken is = rw (bit_taken is) (comma_push (bits_below mask n) n)

  pub comma_passed : has_bit mask n ≡ false → comma_behind (bits_below mask (n + 1)) ≡ comma_behind (bits_below mask n)
  comma_passed is = ap comma_behind (bit_passed is)

-- one digit more
pub digit_added : (old before now : List ℕ) (count n : ℕ) → 0 < count → before ≡ old ++ hex_digits (count - 1) (n / 16)
    → now ≡ before ++ digit_glyph false (n % 16) ∷ [] → now ≡ old ++ hex_digits count n
digit_added old before now count n pos e f =
    f ∙ rw e (append_assoc old (hex_digits (count - 1) (n / 16)) (digit_glyph false (n % 16) ∷ [])) ∙ ap (λ (ds : List ℕ). old ++ ds)
    (sym (hex_digits_more count n pos))

-- one word more, behind a comma where there are words before it
pub word_added : (old before mark marked now : List ℕ) (f : ℕ → List ℕ) (mask n : ℕ) → has_bit mask n ≡ true
    → before ≡ old ++ list_word f n mask → mark ≡ comma_behind (bits_below mask n)
    → marked ≡ before ++ mark → now ≡ marked ++ f n → now ≡ old ++ list_word f (n + 1) mask
word_added old before mark marked now f mask n is e m g h =
    h ∙ rw (g, e, m) (append_assoc (old ++ list_word f n mask) (comma_behind (bits_below mask n)) (f n)) ∙ append_assoc old
    (list_word f n mask) (comma_behind (bits_below mask n) ++ f n) ∙ ap (λ (ws : List ℕ). old ++ ws) (sym (list_taken mask n f is))

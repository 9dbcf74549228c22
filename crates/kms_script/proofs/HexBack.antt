-- Hexadecimal numbers are read as they were written.
use Rattle.std.proofs.Common.{[], ◌≡◌, ℕ, zero, suc, ◌+◌, ◌*◌, ◌/◌, ◌%◌, ◌<◌, ◌≤◌, ◌^◌, Bool, true, false, List, ◌∷◌, ◌++◌, codes, length}
use Rattle.std.proofs.Common.{length-append, cond, append-nil, append_assoc, Some, refl, sym, ap, ◌∙◌, arith}
use Rattle.std.specs.Prelude.{nat_le, ◌==◌}
use Rattle.std.specs.Fmt.{digits, digits_onto, digit_glyph}
use Rattle.std.specs.List.{list_all}
use Rattle.std.proofs.lemmas.Bool.{and_from, eqb-true, eqb-false, le-leb, ne_eqb, eq-eqb}
use Rattle.std.proofs.lemmas.Bool.Decides.{nat_tests}
use Rattle.std.proofs.lemmas.List.Folds.{list_all-append}
use Rattle.kms_model.specs.Script.Grammar.{hex}
use Rattle.kms_model.specs.Script.Spelling.{hex_word}
use Rattle.kms_model.specs.Script.Words.{hex_from, hex_value, is_hex}

-- a digit is read as it was written
pub record IsGlyph (d : ℕ) : Type 0 where
  pub is : is_hex (digit_glyph false d) ≡ true
  pub value : hex_value (digit_glyph false d) ≡ d
  pub first : 0 < d → digit_glyph false d ≡ 48 → ⊥

pub glyph : (d : ℕ) → d < 16 → IsGlyph d
glyph d lt = record {
  is = grind (arith, nat_tests);
  value = grind (arith, nat_tests);
  first = λ some same. grind (arith, nat_tests);
}

-- digits that were written in front of others, and the number that they are
pub record IsWritten (j n : ℕ) (acc ds : List ℕ) : Type 0 where
  pub first : ℕ
  pub rest : List ℕ
  pub whole : ds ≡ first ∷ (rest ++ acc)
  pub hexes : list_all is_hex (first ∷ rest) ≡ true
  pub value : hex_from 0 (first ∷ rest) ≡ n
  pub few : length rest ≤ j
  pub lead : 0 < n → first ≡ 48 → ⊥

hex_behind : (number : ℕ) (ds : List ℕ) (d : ℕ) → hex_from number (ds ++ d ∷ []) ≡ hex_from number ds * 16 + hex_value d
hex_behind number [] d = refl
hex_behind number (x ∷ ds) d = hex_behind (number * 16 + hex_value x) ds d

last_written : (j n : ℕ) (acc : List ℕ) → n < 16 → IsWritten j n acc (digit_glyph false (n % 16) ∷ acc)
last_written j n acc small =
    let g = glyph n small in
    let same : n % 16 ≡ n = omega (arith, small) in
    rw same (record {
      first = digit_glyph false n;
      rest = [];
      whole = refl;
      hexes = rw g.is refl;
      value = omega (arith, g.value);
      few = omega arith;
      lead = g.first;
    })

next_written : (j n : ℕ) (acc ds : List ℕ) → 16 ≤ n → IsWritten j (n / 16) (digit_glyph false (n % 16) ∷ acc) ds
    → IsWritten (suc j) n acc ds
next_written j n acc ds large w =
    let d : ℕ = digit_glyph false (n % 16) in
    let g = glyph (n % 16) (omega arith) in
    let front : hex_from 0 (w.first ∷ w.rest) ≡ n / 16 = w.value in
    record {
      first = w.first;
      rest = w.rest ++ d ∷ [];
      whole = w.whole ∙ ap (λ (xs : List ℕ). w.first ∷ xs) (sym (append_assoc w.rest (d ∷ []) acc));
      hexes = list_all-append is_hex (w.first ∷ w.rest) (d ∷ []) ∙ and_from _ _ w.hexes (rw g.is refl);
      value = hex_behind 0 (w.first ∷ w.rest) d ∙ omega (arith, front, g.value);
      few = omega (arith, w.few, length-append w.rest (d ∷ []));
      lead = λ some. w.lead (omega arith);
    }

-- 16 to a power
abbrev bound : ℕ → ℕ
bound zero = 16
bound (suc j) = 16 * bound j

step : (t : Bool) (j k n : ℕ) (acc : List ℕ) → (n / 16 == 0) ≡ t
    → (let d = digit_glyph false (n % 16) in IsWritten j (n / 16) (d ∷ acc) (digits_onto k 16 false (n / 16) (d ∷ acc)))
    → (let d = digit_glyph false (n % 16) in IsWritten (suc j) n acc (cond t (d ∷ acc) (digits_onto k 16 false (n / 16) (d ∷ acc))))
step true j k n acc is more = let none : n / 16 ≡ 0 = eqb-true (n / 16) 0 is in last_written (suc j) n acc (omega (arith, none))
step false j k n acc is more = let some : n / 16 ≡ 0 → ⊥ = eqb-false (n / 16) 0 is in next_written j n acc _ (omega (arith, some)) more

-- digits of a number below a power of 16
written : (j k n : ℕ) (acc : List ℕ) → n < bound j → j ≤ k → IsWritten j n acc (digits_onto (suc k) 16 false n acc)
written zero k n acc small enough =
    let none : n / 16 ≡ 0 = omega (arith, small) in
    rw (eq-eqb (n / 16) 0 none) (last_written 0 n acc small)
written (suc j) zero n acc small enough = absurd (omega (arith, enough))
written (suc j) (suc k) n acc small enough =
    step (n / 16 == 0) j (suc k) n acc refl
    (written j k (n / 16) (digit_glyph false (n % 16) ∷ acc) (omega (arith, small)) (omega (arith, enough)))

pub all_written : (n : ℕ) → n < 2 ^ 32 → IsWritten 7 n [] (digits 16 false n)
unfolding digits
all_written n small = written 7 63 n [] (omega (arith, small)) (omega arith)

-- the digits of a number that is not 0
hex_of : (n : ℕ) (ds : List ℕ) → 0 < n → IsWritten 7 n [] ds → hex (codes "0x" ++ ds) ≡ Some n
unfolding hex
hex_of n ds some w =
    let all : ds ≡ w.first ∷ w.rest = w.whole ∙ ap (λ (xs : List ℕ). w.first ∷ xs) (append-nil w.rest) in
    let lead : (w.first == 48) ≡ false = ne_eqb w.first 48 (w.lead some) in
    let few : nat_le (length (w.first ∷ w.rest)) 8 ≡ true = le-leb (length (w.first ∷ w.rest)) 8 (omega (arith, w.few)) in
    rw (all, few, lead, w.hexes, w.value) refl

pub hex_read : (n : ℕ) → n < 2 ^ 32 → hex (hex_word n) ≡ Some n
unfolding hex digits
hex_read zero small = refl
hex_read (suc n) small = hex_of (suc n) (digits 16 false (suc n)) (omega arith) (all_written (suc n) small)

-- The words of a list that was read are those of the bits of its mask, in order.
use Rattle.std.proofs.Common.{◌≡◌, ℕ, zero, suc, ◌+◌, ◌*◌, ◌^◌, ◌<◌, ◌≤◌, inl, inr, Bool, true, false, List, [], ◌∷◌, length, map, cond}
use Rattle.std.proofs.Common.{Option, Some, None, refl, ap, ◌∙◌, arith}
use Rattle.std.specs.Prelude.{nat_le}
use Rattle.std.proofs.lemmas.Bool.{leb-true, le-leb}
use Rattle.std.proofs.Math.Nat.{eq-or-lt_of_le}
use Rattle.std.proofs.lemmas.Grind.{pow_more}
use Rattle.kms_model.specs.Script.Grammar.{rising}
use Rattle.kms_script.proofs.Inverted.{bind_some, if_some, some_same}

-- the mask of bits, of which the first has a weight
abbrev pub mask_of : ℕ → List Bool → ℕ
mask_of weight [] = 0
mask_of weight (t ∷ ts) = cond t weight 0 + mask_of (2 * weight) ts

-- the numbers of those that are set, where the first has a number
abbrev pub set_bits : ℕ → List Bool → List ℕ
set_bits n [] = []
set_bits n (t ∷ ts) = cond t (n ∷ set_bits (n + 1) ts) (set_bits (n + 1) ts)

-- words are those of so many bits, of which the first has a number, and which make up a mask
pub record AreBits (word_of : ℕ → List ℕ) (low count mask : ℕ) (words : List (List ℕ)) : Type 0 where
  pub bits : List Bool
  pub many : length bits ≡ count
  pub makes : mask_of (2 ^ low) bits ≡ mask
  pub spells : map word_of (set_bits low bits) ≡ words

-- a word stands for a bit below a number, and is its word
abbrev pub Spelt : (List ℕ → Option ℕ) → (ℕ → List ℕ) → ℕ → Type 0
Spelt bit_of word_of bits = (w : List ℕ) (bit : ℕ) → bit_of w ≡ Some bit → (bit < bits) × (word_of bit ≡ w)

-- the weight of the next bit
doubled : (low : ℕ) → 2 * 2 ^ low ≡ 2 ^ (low + 1)
doubled low = omega (arith, pow_more 2 low)

-- a bit is not set
skipped : (word_of : ℕ → List ℕ) (low count mask : ℕ) (words : List (List ℕ)) → AreBits word_of (low + 1) count mask words
    → AreBits word_of low (suc count) mask words
skipped word_of low count mask words b = record {
  bits = false ∷ b.bits;
  many = omega (arith, b.many);
  makes = rw doubled (omega (arith, b.makes));
  spells = b.spells;
}

-- a bit is set
taken : (word_of : ℕ → List ℕ) (low count more mask : ℕ) (w : List ℕ) (words : List (List ℕ)) → word_of low ≡ w → 2 ^ low + more ≡ mask
    → AreBits word_of (low + 1) count more words → AreBits word_of low (suc count) mask (w ∷ words)
taken word_of low count more mask w words e whole b = record {
  bits = true ∷ b.bits;
  many = omega (arith, b.many);
  makes = rw doubled (omega (arith, b.makes, whole));
  spells = rw (e, b.spells) refl;
}

-- what a first word stands for, and the mask of the words behind it
record Begun (bit_of : List ℕ → Option ℕ) (low mask : ℕ) (w : List ℕ) (ws : List (List ℕ)) : Type 0 where
  bit : ℕ
  is : bit_of w ≡ Some bit
  high : low ≤ bit
  more : ℕ
  rest : rising bit_of (bit + 1) ws ≡ Some more
  whole : 2 ^ bit + more ≡ mask

-- what was read of a first word and of the words behind it
begun : (bit_of : List ℕ → Option ℕ) (low mask : ℕ) (w : List ℕ) (ws : List (List ℕ)) → rising bit_of low (w ∷ ws) ≡ Some mask
    → Begun bit_of low mask w ws
begun bit_of low mask w ws e =
    let first = bind_some (bit_of w) _ mask e in
    let rest = bind_some (cond (nat_le low first.value) (rising bit_of (first.value + 1) ws) None) _ mask first.then in
    let high = if_some (nat_le low first.value) (rising bit_of (first.value + 1) ws) rest.value rest.given in
    record {
      bit = first.value;
      is = first.given;
      high = leb-true low first.value high.0;
      more = rest.value;
      rest = high.1;
      whole =
          some_same _ mask rest.then;
    }

-- the same words, from a later bit on
later : (bit_of : List ℕ → Option ℕ) (low next mask : ℕ) (w : List ℕ) (ws : List (List ℕ)) → (b : Begun bit_of low mask w ws) → next ≤ b.bit
    → rising bit_of next (w ∷ ws) ≡ Some mask
later bit_of low next mask w ws b le = rw (b.is, le-leb next b.bit le, b.rest, b.whole) refl

-- the words of a mask are those of its bits
pub turned : (bit_of : List ℕ → Option ℕ) (word_of : ℕ → List ℕ) (most : ℕ) → Spelt bit_of word_of most
    → (count low mask : ℕ) (words : List (List ℕ)) → most ≤ low + count → rising bit_of low words ≡ Some mask
    → AreBits word_of low count mask words
turned bit_of word_of most spelt zero low mask [] le e = record { bits = []; many = refl; makes = some_same 0 mask e; spells = refl }
turned bit_of word_of most spelt zero low mask (w ∷ ws) le e = let b = begun bit_of low mask w ws e
    in absurd (omega (arith, b.high, (spelt w b.bit b.is).0))
turned bit_of word_of most spelt (suc count) low mask [] le e =
    skipped word_of low count mask [] (turned bit_of word_of most spelt count (low + 1) mask [] (omega arith) e)
turned bit_of word_of most spelt (suc count) low mask (w ∷ ws) le e =
    let b = begun bit_of low mask w ws e in
    elim (eq-or-lt_of_le b.high) [
      | inl same ↦ taken word_of low count b.more mask w ws (ap word_of same ∙ (spelt w b.bit b.is).1)
          (ap (λ k. 2 ^ k + b.more) same ∙ b.whole)
          (turned bit_of word_of most spelt count (low + 1) b.more ws (omega arith) (ap (λ k. rising bit_of (k + 1) ws) same ∙ b.rest))
      | inr less ↦ skipped word_of low count mask (w ∷ ws)
          (turned bit_of word_of most spelt count (low + 1) mask (w ∷ ws) (omega arith)
          (later bit_of low (low + 1) mask w ws b (omega arith)))
    ]

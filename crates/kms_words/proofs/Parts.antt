-- The parts of a word or a line, one after the other.
use Rattle.std.proofs.Common.{◌≡◌, ℕ, ◌+◌, ◌-◌, ◌<◌, ◌≤◌, ◌^◌, Bool, true, false, List, [], ◌∷◌, length, take, drop, cond, Option, Some}
use Rattle.std.proofs.Common.{None, refl, sym, ap, ◌∙◌, arith}
use Rattle.std.specs.Prelude.{◌==◌, option_map}
use Rattle.std.specs.List.{onto_first}
use Rattle.std.proofs.Math.Pow.{pow_mono}
use Rattle.std.proofs.Math.Seq.{take-length}
use Rattle.std.proofs.lemmas.Grind.{pow_more}
use Rattle.kms_model.specs.Script.Grammar.{parted, rising}
use Rattle.std.proofs.lemmas.Bool.{le-leb, lt-leb}
use Rattle.kms_model.specs.Script.Words.{◌>>=◌, until, from}

-- the parts behind the first
abbrev pub later_parts : ℕ → List ℕ → List (List ℕ)
later_parts separator [] = []
later_parts separator (b ∷ bs) = parted separator bs

part_step : (t : Bool) (s b : ℕ) (bs : List ℕ) → parted s bs ≡ until s bs ∷ later_parts s (from s bs)
    → cond t ([] ∷ parted s bs) (onto_first b (parted s bs)) ≡ cond t [] (b ∷ until s bs) ∷ later_parts s (cond t (b ∷ bs) (from s bs))
part_step true s b bs ih = refl
part_step false s b bs ih = rw ih refl

pub first_part : (s : ℕ) (bs : List ℕ) → parted s bs ≡ until s bs ∷ later_parts s (from s bs)
first_part s [] = refl
first_part s (b ∷ bs) = part_step (b == s) s b bs (first_part s bs)

-- a mask and the bits to come
abbrev pub with_bits : ℕ → Option ℕ → Option ℕ
with_bits mask o = option_map (λ m. mask + m) o

more_bits : (mask bit : ℕ) (o : Option ℕ) → with_bits mask (o >>= (λ m. Some (bit + m))) ≡ with_bits (mask + bit) o
more_bits mask bit None = refl
more_bits mask bit (Some m) = ap Some (omega arith)

-- what a list stands for that has a word at its front which stands for a bit, or for none
pub next_bit : (f : List ℕ → Option ℕ) (mask low bit : ℕ) (w : List ℕ) (ws : List (List ℕ)) → f w ≡ Some bit → low ≤ bit
    → with_bits mask (rising f low (w ∷ ws)) ≡ with_bits (mask + 2 ^ bit) (rising f (bit + 1) ws)
next_bit f mask low bit w ws e le = rw (e, le-leb low bit le) (more_bits mask (2 ^ bit) (rising f (bit + 1) ws))

pub no_bit : (f : List ℕ → Option ℕ) (low : ℕ) (w : List ℕ) (ws : List (List ℕ)) → f w ≡ None → rising f low (w ∷ ws) ≡ None
no_bit f low w ws e = rw e refl

pub low_bit : (f : List ℕ → Option ℕ) (low bit : ℕ) (w : List ℕ) (ws : List (List ℕ)) → f w ≡ Some bit → bit < low
    → rising f low (w ∷ ws) ≡ None
low_bit f low bit w ws e lt = rw (e, lt-leb low bit lt) refl

-- One step over a list: its first part, and what follows that.

abbrev comma : ℕ
comma = 44

pub part_is_none : (f : List ℕ → Option ℕ) (mask low : ℕ) (rest part : List ℕ) → part ≡ until comma rest → None ≡ f part
    → None ≡ with_bits mask (rising f low (parted comma rest))
part_is_none f mask low rest part front e =
    let none : None ≡ f (until comma rest) = rw front at e in
    rw (first_part comma rest, no_bit f low (until comma rest) (later_parts comma (from comma rest)) (sym none)) refl

pub part_is_low : (f : List ℕ → Option ℕ) (mask low bit : ℕ) (rest part : List ℕ) → part ≡ until comma rest → Some bit ≡ f part → bit < low
    → None ≡ with_bits mask (rising f low (parted comma rest))
part_is_low f mask low bit rest part front e lt =
    let some : Some bit ≡ f (until comma rest) = rw front at e in
    rw (first_part comma rest, low_bit f low bit (until comma rest) (later_parts comma (from comma rest)) (sym some) lt) refl

part_counts : (f : List ℕ → Option ℕ) (mask low bit : ℕ) (rest part after : List ℕ) → part ≡ until comma rest → after ≡ from comma rest
    → Some bit ≡ f part → low ≤ bit
    → with_bits (mask + 2 ^ bit) (rising f (bit + 1) (later_parts comma after)) ≡ with_bits mask (rising f low (parted comma rest))
part_counts f mask low bit rest part after front back e le =
    let some : Some bit ≡ f (until comma rest) = rw front at e in
    rw (first_part comma rest, back) (sym (next_bit f mask low bit (until comma rest) (later_parts comma (from comma rest)) (sym some) le))

last_part : (f : List ℕ → Option ℕ) (mask low : ℕ) (after : List ℕ) → length after < 1
    → Some mask ≡ with_bits mask (rising f low (later_parts comma after))
last_part f mask low [] short = ap Some (omega arith)
last_part f mask low (b ∷ bs) short = absurd (omega arith)

pub part_is_last : (f : List ℕ → Option ℕ) (mask low bit : ℕ) (rest part after : List ℕ) → part ≡ until comma rest → after ≡ from comma rest
    → Some bit ≡ f part → low ≤ bit → length after < 1
    → Some (mask + 2 ^ bit) ≡ with_bits mask (rising f low (parted comma rest))
part_is_last f mask low bit rest part after front back e le short =
    last_part f (mask + 2 ^ bit) (bit + 1) after short ∙ part_counts f mask low bit rest part after front back e le

behind_comma : (after : List ℕ) → 1 ≤ length after → later_parts comma after ≡ parted comma (take (length after - 1) (drop 1 after))
behind_comma [] long = absurd (omega arith)
behind_comma (b ∷ bs) long = let k : length (b ∷ bs) - 1 ≡ length bs = omega arith in rw (k, take-length bs) refl

pub part_has_more : (f : List ℕ → Option ℕ) (mask low bit : ℕ) (rest part after : List ℕ) → part ≡ until comma rest
    → after ≡ from comma rest → Some bit ≡ f part → low ≤ bit → 1 ≤ length after
    → with_bits (mask + 2 ^ bit) (rising f (bit + 1) (parted comma (take (length after - 1) (drop 1 after))))
    ≡ with_bits mask (rising f low (parted comma rest))
part_has_more f mask low bit rest part after front back e le long =
    rw (← behind_comma after long) (part_counts f mask low bit rest part after front back e le)

-- one bit more than a mask of lower bits
pub mask_grows : (mask low bit : ℕ) → mask < 2 ^ low → low ≤ bit → mask + 2 ^ bit < 2 ^ (bit + 1)
mask_grows mask low bit lt le = omega (arith, pow_mono le, pow_more 2 bit)

pub mask_is_below : (mask low bit bits : ℕ) → mask < 2 ^ low → low ≤ bit → bit < bits → mask + 2 ^ bit < 2 ^ bits
mask_is_below mask low bit bits lt le below = let most : 2 ^ (bit + 1) ≤ 2 ^ bits = pow_mono {i = bit + 1} {j = bits} (omega arith)
    in omega (arith, mask_grows mask low bit lt le, most)

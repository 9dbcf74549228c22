-- Vectors of 16 lanes, operation by operation, and what is computed lane by lane.
use Rattle.std.proofs.Common.{◌≡◌, ◌<◌, ◌≤◌, ℕ, ◌+◌, ◌-◌, ◌*◌, ◌/◌, ◌%◌, ◌^◌, Bool, true, false, bit_or, cond, eqb, ltb, min, List, map}
use Rattle.std.proofs.Common.{length}
use Rattle.std.proofs.Common.{replicate, slice_index, refl, sym, ap, subst, ◌∙◌, arith, w8, w16, Fits, ltb-true, ltb-false}
use Rattle.std.proofs.lemmas.List.{get_or-map, length-map}
use Rattle.std.proofs.lemmas.Simd.{Each1-from_get_or, Each1-get_or, get_or-chunk, get_or-put_chunk_above, get_or-put_chunk_at}
use Rattle.std.proofs.lemmas.Simd.{get_or-put_chunk_below, get_or-replicate, get_or-sel_l, get_or-zip2, length-replicate, length-sel_l}
use Rattle.std.proofs.lemmas.Simd.{length-zip2, tops_compared}
use Rattle.std.proofs.Math.Nat.{mul-le-mul}
use Rattle.std.proofs.lemmas.Bool.{eq-eqb, ne_eqb}
use Rattle.std.specs.Int.Bits.{or_zero_l, or_zero_r}
use lib.Lanes.{Each1, chunk, put_chunk, zip2, sel_l, top}
use mir.Syntax.{Width}
use mir.Val.{bits, hbits, to_z}
use lib.Signed.{lt_z, non_neg}
use lib.IntN.{pos, nat_abs}
use lib.Dec.{T}
use Rattle.std.proofs.lemmas.Int.{to_z_pos}
use Rattle.kms_blend.specs.Lanes.{AreBlended, HasLanes, apart, bounded}

-- each lane as it is
pub own : (v : List ℕ) → length v ≡ 16 → HasLanes v (λ i. slice_index v i)
own v long = record { count = long; lanes = λ i below. refl }

-- one number in each lane
pub splat : (y : ℕ) → HasLanes (replicate 16 y) (λ i. y)
splat y = record { count = length-replicate 16 y; lanes = λ i below. get_or-replicate 16 i y 0 below }

pub each : (f : ℕ → ℕ) (v : List ℕ) (p : ℕ → ℕ) → HasLanes v p → HasLanes (map f v) (λ i. f (p i))
each f v p h = record {
  count = length-map v f ∙ h.count;
  lanes = λ i below. get_or-map f v i 0 0 (omega (arith, h.count, below)) ∙ ap f (h.lanes i below);
}

pub both : (f : ℕ → ℕ → ℕ) (v w : List ℕ) (p q : ℕ → ℕ) → HasLanes v p → HasLanes w q → HasLanes (zip2 f v w) (λ i. f (p i) (q i))
both f v w p q h k = record {
  count = length-zip2 f v w (h.count ∙ sym k.count) ∙ h.count;
  lanes = λ i below.
      get_or-zip2 f v w i 0 0 0 (omega (arith, h.count, below)) (omega (arith, k.count, below))
      ∙ ap (λ (n : ℕ). f n (slice_index w i)) (h.lanes i below) ∙ ap (f (p i)) (k.lanes i below);
}

-- lanes that are computed otherwise
pub as_lanes : (v : List ℕ) (p q : ℕ → ℕ) → HasLanes v p → ((i : ℕ) → i < 16 → p i ≡ q i) → HasLanes v q
as_lanes v p q h same = record { count = h.count; lanes = λ i below. h.lanes i below ∙ same i below }

-- one lane or another, by a test of two others
pub chosen : (w : Width) (t : ℕ → ℕ → Bool) (v u x y : List ℕ) (p q r s : ℕ → ℕ) →
    HasLanes v p → HasLanes u q → HasLanes x r → HasLanes y s →
    HasLanes (sel_l (map (top (hbits w)) (zip2 (λ a b. cond (t a b) (2 ^ bits w - 1) 0) v u)) x y) (λ i. cond (t (p i) (q i)) (r i) (s i))
chosen w t v u x y p q r s h k m n =
    let tests = zip2 t v u in
    let many : length tests ≡ 16 = length-zip2 t v u (h.count ∙ sym k.count) ∙ h.count in
    rw (tops_compared w t v u) (record {
      count = length-sel_l tests x y (many ∙ sym m.count) (many ∙ sym n.count) ∙ many;
      lanes = λ i below.
          get_or-sel_l tests x y i 0 (omega (arith, many, below)) (omega (arith, m.count, below)) (omega (arith, n.count, below))
          ∙ ap (λ (t : Bool). cond t (slice_index x i) (slice_index y i))
          (get_or-zip2 t v u i 0 0 false (omega (arith, h.count, below)) (omega (arith, k.count, below)))
          ∙ ap (λ (n : ℕ). cond (t n (slice_index u i)) (slice_index x i) (slice_index y i)) (h.lanes i below)
          ∙ ap (λ (n : ℕ). cond (t (p i) n) (slice_index x i) (slice_index y i)) (k.lanes i below)
          ∙ ap (λ (n : ℕ). cond (t (p i) (q i)) n (slice_index y i)) (m.lanes i below)
          ∙ ap (cond (t (p i) (q i)) (r i)) (n.lanes i below);
    })

-- the lesser of two lanes
pub least : (w : Width) (v u : List ℕ) (p q : ℕ → ℕ) → HasLanes v p → HasLanes u q →
    HasLanes (sel_l (map (top (hbits w)) (zip2 (λ a b. cond (ltb a b) (2 ^ bits w - 1) 0) v u)) v u) (λ i. min (p i) (q i))
least w v u p q h k = as_lanes _ _ _ (chosen w ltb v u v u p q p q h k h k) (λ i below. lesser (p i) (q i) (ltb (p i) (q i)) refl)
  where
    lesser : (a b : ℕ) (t : Bool) → ltb a b ≡ t → cond t a b ≡ min a b
    lesser a b true e = omega (arith, ltb-true a b e)
    lesser a b false e = omega (arith, ltb-false a b e)

-- how far two lanes are apart: the greater less the lesser
pub apart_lanes : (w : Width) (minus : ℕ → ℕ → ℕ) (v u : List ℕ) (p q : ℕ → ℕ) → HasLanes v p → HasLanes u q →
    HasLanes (zip2 minus
    (sel_l (map (top (hbits w)) (zip2 (λ a b. cond (ltb a b) (2 ^ bits w - 1) 0) v u)) u v)
    (sel_l (map (top (hbits w)) (zip2 (λ a b. cond (ltb a b) (2 ^ bits w - 1) 0) v u)) v u))
    (λ i. minus (cond (ltb (p i) (q i)) (q i) (p i)) (cond (ltb (p i) (q i)) (p i) (q i)))
apart_lanes w minus v u p q h k = both minus _ _ _ _ (chosen w ltb v u u v p q q p h k k h) (chosen w ltb v u v u p q p q h k h k)

-- a byte, and a number of 16 bits

pub byte : (v : List ℕ) (i : ℕ) → length v ≡ 16 → i < 16 → Each1 (Fits w8) v → slice_index v i ≤ 255
byte v i long below fits = let fit = Each1-get_or (Fits w8) v i 0 (omega (arith, long, below)) fits in omega (arith, fit)

pub short : (v : List ℕ) (i : ℕ) → length v ≡ 16 → i < 16 → Each1 (Fits w16) v → slice_index v i ≤ 65535
short v i long below fits = let fit = Each1-get_or (Fits w16) v i 0 (omega (arith, long, below)) fits in omega (arith, fit)

pub widened : (v : List ℕ) → length v ≡ 16 → HasLanes (map (λ x. x) v) (λ i. slice_index v i)
widened v long = each (λ x. x) v _ (own v long)

-- Bytes in signed lanes, which are bounded by 0 and 255

abbrev pub less : ℕ → ℕ → Bool
less a b = lt_z (to_z w16 a) (to_z w16 b)

within : (x : ℕ) → x ≤ 255 → cond (less (cond (less x 0) 0 x) 255) (cond (less x 0) 0 x) 255 ≡ x
within x h =
    let as_is : to_z w16 x ≡ pos x = to_z_pos w16 x (omega (arith, h)) in
    let bounded_below : cond (less x 0) 0 x ≡ x = ap (λ z. cond (lt_z z (pos 0)) 0 x) as_is ∙ above_zero (ltb x 0) refl in
    ap (λ (n : ℕ). cond (less n 255) n 255) bounded_below ∙ ap (λ z. cond (lt_z z (pos 255)) x 255) as_is ∙ below_most (ltb x 255) refl
  where
    above_zero : (t : Bool) → ltb x 0 ≡ t → cond t 0 x ≡ x
    above_zero true e = omega (arith, ltb-true x 0 e)
    above_zero false e = refl

    below_most : (t : Bool) → ltb x 255 ≡ t → cond t x 255 ≡ x
    below_most true e = refl
    below_most false e = omega (arith, h, ltb-false x 255 e)

abbrev pub FitsByte : ℕ → Type 0
FitsByte a = T (non_neg (to_z w16 a)) × Fits w8 (nat_abs (to_z w16 a))

fits_byte : (x : ℕ) → x ≤ 255 → FitsByte x
fits_byte x h =
    subst (λ z. T (non_neg z) × Fits w8 (nat_abs z)) (sym (to_z_pos w16 x (omega (arith, h)))) (tt, record { fits = omega (arith, h) })

pub bounded_lane : (x : ℕ) → x ≤ 255 → nat_abs (to_z w16 (cond (less (cond (less x 0) 0 x) 255) (cond (less x 0) 0 x) 255)) ≡ x
bounded_lane x h = ap (λ (n : ℕ). nat_abs (to_z w16 n)) (within x h) ∙ ap nat_abs (to_z_pos w16 x (omega (arith, h)))

pub fit_bytes : (v : List ℕ) (p : ℕ → ℕ) → ((i : ℕ) → i < 16 → p i ≤ 255) →
    HasLanes v (λ i. cond (less (cond (less (p i) 0) 0 (p i)) 255) (cond (less (p i) 0) 0 (p i)) 255) → Each1 FitsByte v
fit_bytes v p small h = Each1-from_get_or FitsByte v 0 (λ i inside.
    let below : i < 16 = omega (arith, h.count, inside) in
    subst FitsByte (sym (h.lanes i below ∙ within (p i) (small i below))) (fits_byte (p i) (small i below)))

-- In 32 bits, which do not wrap

abbrev pub mul32 : ℕ → ℕ → ℕ
mul32 a b = (a * b) % 2 ^ 32

abbrev pub down : ℕ → ℕ → ℕ
down a b = a / 2 ^ b

pub small_product : (a b m n : ℕ) → a ≤ m → b ≤ n → a * b ≤ m * n
small_product a b m n h k = mul-le-mul h k

pub upper_product : (a b : ℕ) → a ≤ 65535 → b ≤ 65535 → down (mul32 a b) 16 ≡ a * b / 65536
upper_product a b h k = let small = small_product a b 65535 65535 h k in omega (arith, small)

-- In 16 bits and in 8

abbrev pub add16 : ℕ → ℕ → ℕ
add16 a b = (a + b) % 2 ^ 16

abbrev pub sub16 : ℕ → ℕ → ℕ
sub16 a b = (a + (2 ^ 16 - b)) % 2 ^ 16

abbrev pub mul16 : ℕ → ℕ → ℕ
mul16 a b = (a * b) % 2 ^ 16

abbrev pub add8 : ℕ → ℕ → ℕ
add8 a b = (a + b) % 2 ^ 8

abbrev pub sub8 : ℕ → ℕ → ℕ
sub8 a b = (a + (2 ^ 8 - b)) % 2 ^ 8

pub apart_of_shorts : (a b : ℕ) (t : Bool) → ltb a b ≡ t → a ≤ 65535 → b ≤ 65535 →
    sub16 (cond t b a) (cond t a b) ≡ apart a b
apart_of_shorts a b true e h k = let below = ltb-true a b e in omega (arith, h, k, below)
apart_of_shorts a b false e h k = let above = ltb-false a b e in omega (arith, h, k, above)

-- how far two numbers are apart, of what each is above the other
pub one_sided : (a b : ℕ) → bit_or (a - b) (b - a) ≡ apart a b
one_sided a b = side (ltb a b) refl
  where
    side : (t : Bool) → ltb a b ≡ t → bit_or (a - b) (b - a) ≡ apart a b
    side true e = let below = ltb-true a b e in
        let none : a - b ≡ 0 = omega (arith, below) in rw none (or_zero_l (b - a) ∙ omega arith)
    side false e = let above = ltb-false a b e in
        let none : b - a ≡ 0 = omega (arith, above) in rw none (or_zero_r (a - b) ∙ omega arith)

-- nothing is above, or something
pub nothing_above : (to from above : ℕ) → above ≡ to - from → cond {A = ℕ} (eqb above 0) 255 0 ≡ cond (ltb from to) 0 255
nothing_above to from above is = side (ltb from to) refl
  where
    side : (t : Bool) → ltb from to ≡ t → cond {A = ℕ} (eqb above 0) 255 0 ≡ cond t 0 255
    side true e = let below = ltb-true from to e in ap (λ (b : Bool). cond {A = ℕ} b 255 0)
        (ne_eqb above 0 (λ none. omega (arith, below, is, none)))
    side false e = let over = ltb-false from to e in ap (λ (b : Bool). cond {A = ℕ} b 255 0) (eq-eqb above 0 (omega (arith, over, is)))

pub apart_of_bytes : (a b : ℕ) (t : Bool) → ltb a b ≡ t → a ≤ 255 → b ≤ 255 → sub8 (cond t b a) (cond t a b) ≡ apart a b
apart_of_bytes a b true e h k = let below = ltb-true a b e in omega (arith, h, k, below)
apart_of_bytes a b false e h k = let above = ltb-false a b e in omega (arith, h, k, above)

pub byte_product : (a b : ℕ) → a ≤ 255 → b ≤ 255 → mul16 a b ≡ a * b
byte_product a b h k = let small = small_product a b 255 255 h k in omega (arith, small)

short_numerator_of : (layer lower : ℕ) → layer ≤ 65025 → lower ≤ 65025 →
    add16 (add16 layer (min lower (sub16 65025 layer))) 127 ≡ bounded 65025 127 (layer + lower)
short_numerator_of layer lower h k = omega (arith, h, k)

pub numerator16 : (shown hidden f b : ℕ) → shown ≤ 255 → hidden ≤ 255 → f ≤ 255 → b ≤ 255 →
    add16 (add16 (mul16 shown f) (min (mul16 (sub16 255 hidden) b) (sub16 65025 (mul16 shown f)))) 127
    ≡ bounded 65025 127 (shown * f + (255 - hidden) * b)
numerator16 shown hidden f b hs hh hf hb =
    let weight : sub16 255 hidden ≡ 255 - hidden = omega (arith, hh) in
    let layer = small_product shown f 255 255 hs hf in
    let lower = small_product (255 - hidden) b 255 255 (omega arith) hb in
    let layer_is : mul16 shown f ≡ shown * f = omega (arith, layer) in
    let lower_is : mul16 (255 - hidden) b ≡ (255 - hidden) * b = omega (arith, lower) in
    rw (weight, layer_is, lower_is) (short_numerator_of (shown * f) ((255 - hidden) * b) (omega (arith, layer)) (omega (arith, lower)))

pub quotient16 : (n : ℕ) → n ≤ 65152 → add16 (add16 n 1) (n / 256) / 256 ≡ n / 255
quotient16 n h = omega (arith, h)

-- An opaque plane

-- 65535 can be taken out of a numerator, whose rest is then rounded as one out of 255 is
short_rest : (n : ℕ) → (65535 * n + 8355712) / 16711425 ≡ (n + 127) / 255
short_rest n = omega arith

taken_out : (m f w b : ℕ) → 65535 * m * f + 65535 * w * b ≡ 65535 * (m * f + w * b)
taken_out m f w b = omega arith

pub by_alpha : (q f b : ℕ) → q ≤ 255 → (65535 * 255 * f + (16711425 - 65535 * q) * b + 8355712) / 16711425 ≡ (255 * f + (255 - q) * b + 127)
    / 255
by_alpha q f b h =
    let weight : 16711425 - 65535 * q ≡ 65535 * (255 - q) = omega (arith, h) in
    rw weight (ap (λ (n : ℕ). (n + 8355712) / 16711425) (taken_out 255 f (255 - q) b) ∙ short_rest (255 * f + (255 - q) * b))

pub by_coverage : (q f b : ℕ) → q ≤ 255 → (65535 * q * f + (16711425 - 65535 * q) * b + 8355712) / 16711425 ≡ (q * f + (255 - q) * b + 127)
    / 255
by_coverage q f b h =
    let weight : 16711425 - 65535 * q ≡ 65535 * (255 - q) = omega (arith, h) in
    rw weight (ap (λ (n : ℕ). (n + 8355712) / 16711425) (taken_out q f (255 - q) b) ∙ short_rest (q * f + (255 - q) * b))

-- 16 lanes put into a row

pub placed : (blend : ℕ → ℕ → ℕ → ℕ) (q f old shown : List ℕ) (at : ℕ) → at + 16 ≤ length old →
    HasLanes shown (λ i. blend (slice_index (chunk at 16 q) i) (slice_index (chunk at 16 f) i) (slice_index (chunk at 16 old) i)) →
    AreBlended blend q f old (put_chunk at old shown) at
placed blend q f old shown at room lanes = record {
  before = λ k below. get_or-put_chunk_below at old shown k 0 below;
  blended = λ k low below.
      let j : k - at < 16 = omega (arith, low, below) in
      let there : at + (k - at) ≡ k = omega (arith, low) in
      ap (λ (m : ℕ). slice_index (put_chunk at old shown) m) (sym there)
      ∙ get_or-put_chunk_at at old shown (k - at) 0 (omega (arith, lanes.count, j)) (omega (arith, lanes.count, room))
      ∙ lanes.lanes (k - at) j
      ∙ same_blend blend _ _ _ _ _ _ (from_chunk q at k low j) (from_chunk f at k low j) (from_chunk old at k low j);
  behind = λ k above. get_or-put_chunk_above at old shown k 0 (omega (arith, lanes.count, above));
}
  where
    from_chunk : (xs : List ℕ) (at k : ℕ) → at ≤ k → k - at < 16 → slice_index (chunk at 16 xs) (k - at) ≡ slice_index xs k
    from_chunk xs at k low j = get_or-chunk at 16 xs (k - at) 0 j ∙ ap (λ (m : ℕ). slice_index xs m) (omega (arith, low))

    same_blend : (blend : ℕ → ℕ → ℕ → ℕ) (q q' f f' b b' : ℕ) → q ≡ q' → f ≡ f' → b ≡ b' → blend q f b ≡ blend q' f' b'
    same_blend blend q q' f f' b b' e e' e'' = rw (e, e', e'') refl

-- Which places of a framebuffer the pixels of a destination show, along one axis.
use Rattle.std.proofs.Common.{◌≡◌, ◌<◌, ◌≤◌, ℕ, ◌+◌, ◌*◌, ◌/◌, true, ℤ, pos, ◌+ℤ◌, ◌-ℤ◌, ◌≤ℤ◌, int_le, arith, refl, ap, sym, ◌∙◌}
use Rattle.std.proofs.Math.Nat.{mul-add-div, mul-le-mul}
use Rattle.std.proofs.lemmas.Bool.{eqb-true}
use Rattle.std.proofs.lemmas.Bool.Decides.{nat_tests}
use Rattle.std.proofs.lemmas.Int.{ints}
use Rattle.kms_model.specs.Device.Sound.{IsBetween}
use Rattle.kms_model.specs.Device.States.{natural}
use Rattle.kms_model.proofs.SourcePlaces.{IsAt, IsBehind, behind, natural_pos, source-within}
use Rattle.kms_compose.specs.declared.sources.Reach.{Reach}
use Rattle.kms_compose.specs.Sources.{IsSeen, IsSeenAt, is_axis_unscaled, source_place}

-- a number between 0 and another one
pub natural_most : (z : ℤ) (most : ℕ) → IsBetween (pos 0) (pos most) z → natural z ≤ most
natural_most z most is = let same = natural_pos z is.low in omega (arith, ints, same, is.high)

pub seen_at : (r : Reach) (start size at : ℕ) → IsSeen r start size → start ≤ at → at < start + size → IsSeenAt r at
seen_at r start size at s low high = record {
  reach = s.reach;
  from = omega (arith, ints, s.from, low);
  below = omega (arith, ints, s.to, high);
  few = omega (arith, s.few, high);
}

-- the pixel, counted from the destination's first
pub is_at : (r : Reach) (at : ℕ) → IsSeenAt r at → IsAt r.dst r.wide at
is_at r at s = record { first = s.from; last = s.below }

pub pixel_low : (r : Reach) (at : ℕ) → IsSeenAt r at → pos 0 ≤ℤ (pos at -ℤ r.dst)
pixel_low r at s = omega (arith, ints, s.from)

pub pixel_below : (r : Reach) (at : ℕ) → IsSeenAt r at → natural (pos at -ℤ r.dst) < natural r.wide
pixel_below r at s = (behind r.dst r.wide at (is_at r at s)).within

pub place_below : (r : Reach) (at side : ℕ) → IsSeenAt r at → int_le (r.src +ℤ r.long) (pos (65536 * side)) ≡ true → source_place r at
    < side
place_below r at side s fits = source-within r.src r.long r.dst r.wide side at s.reach.src s.reach.long.low s.reach.little fits
    (is_at r at s)

le_true : (a b : ℤ) → a ≤ℤ b → int_le a b ≡ true
le_true a b h = grind (arith, nat_tests, ints)

pub sum_fits : (r : Reach) (at : ℕ) → IsSeenAt r at → natural r.src + (2 * natural (pos at -ℤ r.dst) + 1) * natural r.long
    / (2 * natural r.wide) < 281474976645120
sum_fits r at s =
    let below : (natural r.src + (2 * natural (pos at -ℤ r.dst) + 1) * natural r.long / (2 * natural r.wide)) / 65536 < 4294967295 =
    place_below r at 4294967295 s (le_true (r.src +ℤ r.long) (pos 281474976645120) s.reach.ends) in
    omega (arith, below)

-- the same of numbers that are those of a reach
module _ (r : Reach) (at src long wide pixel : ℕ) (s : src ≡ natural r.src) (l : long ≡ natural r.long) (w : wide ≡ natural r.wide)
    (p : pixel ≡ natural (pos at -ℤ r.dst)) where
  pub few_pixels : IsSeenAt r at → pixel < wide
  few_pixels seen = rw (p, w) (pixel_below r at seen)

  pub room : IsSeenAt r at → src + (2 * pixel + 1) * long / (2 * wide) < 281474976645120
  room seen = rw (s, l, w, p) (sum_fits r at seen)

  pub place_is : (result : ℕ) → result ≡ (src + (2 * pixel + 1) * long / (2 * wide)) / 65536 → result ≡ source_place r at
  place_is result is = is ∙ rw (s, l, w, p) refl

pub product_fits : (a b : ℕ) → a ≤ 4294967295 → b ≤ 4294967295 → a * b ≤ 18446744065119617025
product_fits a b small few = mul-le-mul small few

-- Places that are not scaled

place_more : (n q k : ℕ) → (n + (65536 * k + q)) / 65536 ≡ (n + q) / 65536 + k
place_more n q k = omega arith

unscaled_next : (n i k w long : ℕ) → 0 < w → long ≡ 65536 * w → (n + (2 * (i + k) + 1) * long / (2 * w)) / 65536
    ≡ (n + (2 * i + 1) * long / (2 * w)) / 65536 + k
unscaled_next n i k w long some same =
    let parts : (2 * (i + k) + 1) * long ≡ 2 * w * (65536 * k) + (2 * i + 1) * long = rw same (omega arith) in
    let quotient : (2 * (i + k) + 1) * long / (2 * w) ≡ 65536 * k + (2 * i + 1) * long
    / (2 * w) = ap (λ m. m / (2 * w)) parts ∙ mul-add-div {m = 2 * w} (omega (arith, some)) (65536 * k) ((2 * i + 1) * long) in
    ap (λ q. (n + q) / 65536) quotient ∙ place_more n ((2 * i + 1) * long / (2 * w)) k

-- one pixel behind the other
pub unscaled_place : (r : Reach) (start size k : ℕ) → IsSeen r start size → is_axis_unscaled r ≡ true → k < size → source_place r start + k
    ≡ source_place r (start + k)
unscaled_place r start size k s same within =
    let b : IsBehind r.dst r.wide start = behind r.dst r.wide start
    (is_at r start (seen_at r start size start s (omega arith) (omega (arith, within)))) in
    let i : ℕ = natural (pos start -ℤ r.dst) in
    let there : pos (start + k) -ℤ r.dst ≡ pos (i + k) = omega (arith, ints, b.offset) in
    let long : natural r.long ≡ 65536 * natural r.wide = eqb-true (natural r.long) (65536 * natural r.wide) same in
    sym (ap (λ j. (natural r.src + (2 * j + 1) * natural r.long / (2 * natural r.wide)) / 65536) (ap natural there)
    ∙ unscaled_next (natural r.src) i k (natural r.wide) (natural r.long) (omega (arith, b.within)) long)

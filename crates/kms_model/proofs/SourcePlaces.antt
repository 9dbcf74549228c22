-- Which place of a framebuffer a pixel of a plane shows, along one axis and along both.
use Rattle.std.proofs.Common.{◌≡◌, ◌<◌, ◌≤◌, ℕ, ◌+◌, ◌*◌, ◌/◌, ◌%◌, Bool, true, false, Option, None, ℤ, pos, negsuc, ◌+ℤ◌, ◌-ℤ◌, ◌≤ℤ◌, ◌<ℤ◌}
use Rattle.std.proofs.Common.{◌==◌, refl, sym, ap, ◌∙◌, arith}
use Rattle.std.specs.Prelude.{◌&&◌, int_le, int_lt, nat_le, not}
use Rattle.std.proofs.Math.Nat.{div-lt_iff_lt-mul, mul-add-div, mul-div_cancel, mul-lt-mul_of_pos_right}
use Rattle.std.proofs.lemmas.Bool.{and_parts, eqb-true, leb-true}
use Rattle.std.proofs.lemmas.Bool.Decides.{nat_tests}
use Rattle.std.proofs.lemmas.Int.{ints}
use Rattle.kms_model.specs.declared.objects.Mode.{Mode}
use Rattle.kms_model.specs.declared.pictures.Rect.{Rect}
use Rattle.kms_model.specs.declared.states.PlaneState.{PlaneState}
use Rattle.kms_model.specs.Device.Sound.{IsPlaneInRange}
use Rattle.kms_model.specs.Device.States.{natural}
use Rattle.kms_model.specs.Frames.FrameBytes.{covers, source_at}
use Rattle.kms_model.specs.Frames.Rectangles.{is_scaled_little}
use Rattle.kms_model.specs.Frames.Unscaled.{ShowsUnscaled, unscaled_place}
use Rattle.kms_model.specs.Request.Checks.{is_unscaled, is_whole, shown_refusal}
use Rattle.kms_model.proofs.Items.{number_if-none, or_else-none}

-- a number that is not negative is its natural number
pub natural_pos : (z : ℤ) → pos 0 ≤ℤ z → z ≡ pos (natural z)
natural_pos (pos n) low = refl
natural_pos (negsuc n) low = absurd (omega (arith, ints, low))

-- a destination has the pixel, along one axis
pub record IsAt (dst wide : ℤ) (at : ℕ) : Type 0 where
  pub first : dst ≤ℤ pos at
  pub last : pos at <ℤ (dst +ℤ wide)

-- a pixel of the destination is so many pixels behind its first, and fewer than there are
pub record IsBehind (dst wide : ℤ) (at : ℕ) : Type 0 where
  pub offset : pos at -ℤ dst ≡ pos (natural (pos at -ℤ dst))
  pub size : wide ≡ pos (natural wide)
  pub within : natural (pos at -ℤ dst) < natural wide

pub behind : (dst wide : ℤ) (at : ℕ) → IsAt dst wide at → IsBehind dst wide at
behind dst wide at is =
    let offset : pos at -ℤ dst ≡ pos (natural (pos at -ℤ dst)) = natural_pos (pos at -ℤ dst) (omega (arith, ints, is.first)) in
    let size : wide ≡ pos (natural wide) = natural_pos wide (omega (arith, ints, is.first, is.last)) in
    record { offset = offset; size = size; within = omega (arith, ints, is.last, offset, size) }

-- Places that are not scaled

middle-unscaled : (i w long : ℕ) → 0 < w → long ≡ 65536 * w → (2 * i + 1) * long / (2 * w) ≡ (2 * i + 1) * 32768
middle-unscaled i w long some same =
    let parts : (2 * i + 1) * long ≡ (2 * i + 1) * 32768 * (2 * w) = ap (λ l. (2 * i + 1) * l) same ∙ omega arith in
    ap (λ n. n / (2 * w)) parts ∙ mul-div_cancel ((2 * i + 1) * 32768) (omega (arith, some))

place-unscaled : (n i w long : ℕ) → 0 < w → long ≡ 65536 * w → n % 65536 ≡ 0 → (n + (2 * i + 1) * long / (2 * w)) / 65536 ≡ n / 65536 + i
place-unscaled n i w long some same whole =
    let sum : n + (2 * i + 1) * 32768 ≡ 65536 * (n / 65536 + i) + 32768 = omega (arith, whole) in
    ap (λ q. (n + q) / 65536) (middle-unscaled i w long some same)
    ∙ ap (λ s. s / 65536) sum
    ∙ mul-add-div {m = 65536} (omega arith) (n / 65536 + i) 32768
    ∙ omega arith

pub unscaled-along : (src long dst wide : ℤ) (at : ℕ) → pos 0 ≤ℤ src → is_whole src ≡ true → (natural long == 65536 * natural wide) ≡ true
    → IsAt dst wide at
    → source_at src long dst wide at ≡ unscaled_place src dst at
unscaled-along (negsuc n) long dst wide at low whole same is = absurd (omega (arith, ints, low))
unscaled-along (pos n) long dst wide at low whole same is =
    let b : IsBehind dst wide at = behind dst wide at is in
    let i : ℕ = natural (pos at -ℤ dst) in
    let there : (pos (n / 65536) +ℤ pos at) -ℤ dst ≡ pos (n / 65536 + i) = omega (arith, ints, b.offset) in
    place-unscaled n i (natural wide) (natural long) (omega (arith, b.within)) (eqb-true (natural long) (65536 * natural wide) same)
    (eqb-true (n % 65536) 0 whole) ∙ sym (ap natural there)

-- what profile 1 asks of a plane on a CRTC
record IsPlain (s : PlaneState) : Type 0 where
  wide : (natural s.src.w == 65536 * natural s.dst.w) ≡ true
  high : (natural s.src.h == 65536 * natural s.dst.h) ≡ true
  column : is_whole s.src.x ≡ true
  row : is_whole s.src.y ≡ true

is-true : (b : Bool) → not b ≡ false → b ≡ true
is-true true e = refl
is-true false e = absurd cc

plain : (mode : Option Mode) (s : PlaneState) → (s.crtc == 0) ≡ false → shown_refusal 1 mode s ≡ None → IsPlain s
unfolding shown_refusal
plain mode s on none =
    let refusals = rw on at none in
    let first = or_else-none _ _ refusals in
    let second = or_else-none _ _ first.second_none in
    let sizes = and_parts _ _ (is-true (is_unscaled s.src s.dst) (number_if-none 22 _ second.first_none)) in
    let starts = and_parts _ _ (is-true (is_whole s.src.x && is_whole s.src.y) (number_if-none 23 _ second.second_none)) in
    record { wide = sizes.0; high = sizes.1; column = starts.0; row = starts.1 }

-- a rectangle has a pixel along both axes
pub record CoversAt (r : Rect) (x y : ℕ) : Type 0 where
  pub column : IsAt r.x r.w x
  pub row : IsAt r.y r.h y

pub covers-at : (r : Rect) (x y : ℕ) → covers r x y ≡ true → CoversAt r x y
covers-at r x y covered =
    let one = and_parts (int_le r.x (pos x)) _ covered in
    let two = and_parts (int_lt (pos x) (r.x +ℤ r.w)) _ one.1 in
    let three = and_parts (int_le r.y (pos y)) (int_lt (pos y) (r.y +ℤ r.h)) two.1 in
    record {
      column = record { first = le-is r.x (pos x) one.0; last = lt-is (pos x) (r.x +ℤ r.w) two.0 };
      row = record { first = le-is r.y (pos y) three.0; last = lt-is (pos y) (r.y +ℤ r.h) three.1 };
    }
  where
    le-is : (a b : ℤ) → int_le a b ≡ true → a ≤ℤ b
    le-is a b e = grind (arith, nat_tests, ints)

    lt-is : (a b : ℤ) → int_lt a b ≡ true → a <ℤ b
    lt-is a b e = grind (arith, nat_tests, ints)

-- A plane that profile 1 accepts shows the places of a plane that is not scaled.
pub shows_unscaled : (mode : Option Mode) (s : PlaneState) (x y : ℕ) → IsPlaneInRange s → (s.crtc == 0) ≡ false → shown_refusal 1 mode s
    ≡ None → covers s.dst x y ≡ true → ShowsUnscaled s x y
shows_unscaled mode s x y range on none covered =
    let p : IsPlain s = plain mode s on none in
    let c : CoversAt s.dst x y = covers-at s.dst x y covered in
    record {
      column = unscaled-along s.src.x s.src.w s.dst.x s.dst.w x range.src_x.low p.column p.wide c.column;
      row = unscaled-along s.src.y s.src.h s.dst.y s.dst.h y range.src_y.low p.row p.high c.row;
    }

-- Places in the framebuffer

-- the middle of a part of a source is in it
middle-within : (i w long : ℕ) → i < w → 0 < long → (2 * i + 1) * long / (2 * w) < long
middle-within i w long less some =
    let small : (2 * i + 1) * long < (2 * w) * long = mul-lt-mul_of_pos_right (omega (arith, less)) some in
    let swapped : (2 * i + 1) * long < long * (2 * w) = omega (arith, small) in
    (div-lt_iff_lt-mul {k = 2 * w} {x = (2 * i + 1) * long} {y = long} (omega (arith, less))).1 swapped

-- a place that a pixel shows is in the framebuffer, of which the source is a part
pub source-within : (src long dst wide : ℤ) (side at : ℕ) → pos 0 ≤ℤ src → pos 0 ≤ℤ long → is_scaled_little long wide ≡ true
    → int_le (src +ℤ long) (pos (65536 * side)) ≡ true → IsAt dst wide at
    → source_at src long dst wide at < side
source-within (negsuc n) long dst wide side at low low' little fits is = absurd (omega (arith, ints, low))
source-within (pos n) (negsuc l) dst wide side at low low' little fits is = absurd (omega (arith, ints, low'))
source-within (pos n) (pos l) dst wide side at low low' little fits is =
    let b : IsBehind dst wide at = behind dst wide at is in
    let i : ℕ = natural (pos at -ℤ dst) in
    let parts = and_parts (nat_le (65536 * natural wide) (4 * l)) (nat_le l (262144 * natural wide)) little in
    let least : 65536 * natural wide ≤ 4 * l = leb-true (65536 * natural wide) (4 * l) parts.0 in
    let some : 0 < l = omega (arith, least, b.within) in
    let ends : n + l ≤ 65536 * side = ends-at fits in
    let inside : (2 * i + 1) * l / (2 * natural wide) < l = middle-within i (natural wide) l b.within some in
    let all : n + (2 * i + 1) * l / (2 * natural wide) < side * 65536 = omega (arith, ends, inside) in
    (div-lt_iff_lt-mul {k = 65536} {x = n + (2 * i + 1) * l / (2 * natural wide)} {y = side} (omega arith)).1 all
  where
    ends-at : int_le (pos n +ℤ pos l) (pos (65536 * side)) ≡ true → n + l ≤ 65536 * side
    ends-at e = grind (arith, nat_tests, ints)

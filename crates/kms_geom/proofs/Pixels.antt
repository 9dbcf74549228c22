-- Which pixels a clipped rectangle has.
use Rattle.std.proofs.Common.{◌≡◌, ◌↔◌, ℤ, ◌+ℤ◌, ◌-ℤ◌, ◌<ℤ◌, ◌≤ℤ◌, Option, Some, None, IsNone, FitsSigned, w64, arith, refl}
use Rattle.std.specs.Int.{int_max, int_min}
use Rattle.std.proofs.lemmas.Int.{ints, clamps, by_lt_z}
use Rattle.kms_model.specs.declared.pictures.Rect.{Rect}
use Rattle.kms_model.specs.Frames.Pictures.{between_edges, clip}
use Rattle.kms_model.specs.Frames.Rectangles.{HasPixel, HasPixelIfAny, IsNear}

between_edges-inside : (left top right bottom : ℤ) → left <ℤ right → top <ℤ bottom →
    between_edges left top right bottom ≡ Some (record { x = left; y = top; w = right -ℤ left; h = bottom -ℤ top })
between_edges-inside left top right bottom wide high = grind (arith, ints)

between_edges-narrow : (left top right bottom : ℤ) → right ≤ℤ left → between_edges left top right bottom ≡ None
between_edges-narrow left top right bottom narrow = grind (arith, ints)

between_edges-flat : (left top right bottom : ℤ) → bottom ≤ℤ top → between_edges left top right bottom ≡ None
between_edges-flat left top right bottom flat = grind (arith, ints)

-- a pixel is between four edges
record IsBetween (l t r b x y : ℤ) : Type 0 where
  left : l ≤ℤ x
  right : x <ℤ r
  top : t ≤ℤ y
  bottom : y <ℤ b

between : (l t r b x y : ℤ) → HasPixelIfAny (between_edges l t r b) x y ↔ IsBetween l t r b x y
between l t r b x y =
    by_lt_z l r
    (λ wide. by_lt_z t b
    (λ high. rw (between_edges-inside l t r b wide high) (
      (λ h. record { left = omega (arith, ints); right = omega (arith, ints); top = omega (arith, ints); bottom = omega (arith, ints) }),
      (λ h. record { left = omega (arith, ints); right = omega (arith, ints); top = omega (arith, ints); bottom = omega (arith, ints) }),
    ))
    (λ flat. rw (between_edges-flat l t r b flat) ((λ h. absurd h), (λ h. omega (arith, ints)))))
    (λ narrow. rw (between_edges-narrow l t r b narrow) ((λ h. absurd h), (λ h. omega (arith, ints))))

common_edges : (m n : Rect) (x y : ℤ) →
    IsBetween (int_max m.x n.x) (int_max m.y n.y) (int_min (m.x +ℤ m.w) (n.x +ℤ n.w)) (int_min (m.y +ℤ m.h) (n.y +ℤ n.h)) x y
    ↔ (HasPixel m x y × HasPixel n x y)
common_edges m n x y = (
  (λ h. (
    record {
      left = omega (arith, ints, clamps);
      right = omega (arith, ints, clamps);
      top = omega (arith, ints, clamps);
      bottom = omega
          (arith, ints, clamps);
    },
    record {
      left = omega (arith, ints, clamps);
      right = omega (arith, ints, clamps);
      top = omega (arith, ints, clamps);
      bottom = omega
          (arith, ints, clamps);
    },
  )),
  (λ h. record {
    left = omega (arith, ints, clamps);
    right = omega (arith, ints, clamps);
    top = omega (arith, ints, clamps);
    bottom = omega
        (arith, ints, clamps);
  }),
)

-- a pixel is in the clipped rectangle exactly where it is in both
pub common : (m n : Rect) (x y : ℤ) → HasPixelIfAny (clip m n) x y ↔ (HasPixel m x y × HasPixel n x y)
common m n x y =
    let edges = between (int_max m.x n.x) (int_max m.y n.y) (int_min (m.x +ℤ m.w) (n.x +ℤ n.w)) (int_min (m.y +ℤ m.h) (n.y +ℤ n.h)) x y in
    let both = common_edges m n x y in
    ((λ h. both.0 (edges.0 h)), (λ h. edges.1 (both.1 h)))

none_has : (r : Option Rect) (x y : ℤ) → IsNone r → HasPixelIfAny r x y → ⊥
none_has None x y none h = h
none_has (Some r) x y none h = cc

-- what has no pixel is not there
nowhere : (l t r b : ℤ) → ((x y : ℤ) → IsBetween l t r b x y → ⊥) → IsNone (between_edges l t r b)
nowhere l t r b none =
    by_lt_z l r
    (λ wide. by_lt_z t b
    (λ high. absurd (none l t (record { left = omega (arith, ints); right = wide; top = omega (arith, ints); bottom = high })))
    (λ flat. rw (between_edges-flat l t r b flat) refl))
    (λ narrow. rw (between_edges-narrow l t r b narrow) refl)

-- nothing is left exactly where no pixel is in both
pub nothing_common : (m n : Rect) → IsNone (clip m n) ↔ ((x y : ℤ) → HasPixel m x y → HasPixel n x y → ⊥)
nothing_common m n = (
  (λ h x y in_m in_n. none_has (clip m n) x y h ((common m n x y).1 (in_m, in_n))),
  (λ h. nowhere (int_max m.x n.x) (int_max m.y n.y) (int_min (m.x +ℤ m.w) (n.x +ℤ n.w)) (int_min (m.y +ℤ m.h) (n.y +ℤ n.h))
      (λ x y p. let both = (common_edges m n x y).0 p in h x y both.0 both.1)),
)

-- the size between two common edges fits
pub size_fits : (a a_size b b_size start end : ℤ) → IsNear a → IsNear a_size → IsNear b → IsNear b_size →
    start ≡ int_max a b → end ≡ int_min (a +ℤ a_size) (b +ℤ b_size) → FitsSigned w64 (end -ℤ start)
size_fits a a_size b b_size start end na nas nb nbs s e = omega (arith, ints, clamps)

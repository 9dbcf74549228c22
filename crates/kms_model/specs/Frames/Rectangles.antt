-- Rectangles, in pixels or in 16.16 fixed point. From: "Plane Composition Properties".
use Rattle.std.specs.Prelude.{ℕ, ◌+◌, ◌-◌, ◌*◌, ◌/◌, Bool, ◌&&◌, ℤ, pos, neg_ℤ, ◌+ℤ◌, ◌≤ℤ◌, ◌<ℤ◌, int_le, Option, Some, None, nat_le}
use Rattle.kms_model.specs.declared.pictures.Rect.{Rect}
use Rattle.kms_model.specs.Device.States.{natural}

-- a pixel is in a rectangle: from its left and upper edge up to, but not on, its right and lower edge
pub record HasPixel (r : Rect) (x y : ℤ) : Type 0 where
  pub left : r.x ≤ℤ x
  pub right : x <ℤ (r.x +ℤ r.w)
  pub top : r.y ≤ℤ y
  pub bottom : y <ℤ (r.y +ℤ r.h)

-- the same of a rectangle that may not be there
abbrev pub HasPixelIfAny : Option Rect → ℤ → ℤ → Type 0
HasPixelIfAny None x y = ⊥
HasPixelIfAny (Some r) x y = HasPixel r x y

-- a number between -4294967295 and 4294967295, as every place and every size that a property can have
pub record IsNear (z : ℤ) : Type 0 where
  pub low : neg_ℤ (pos 4294967295) ≤ℤ z
  pub high : z ≤ℤ pos 4294967295

-- a rectangle of such numbers
pub record IsNearRect (r : Rect) : Type 0 where
  pub x : IsNear r.x
  pub y : IsNear r.y
  pub w : IsNear r.w
  pub h : IsNear r.h

-- A source, in 16.16 fixed point, ends within a framebuffer of this width and height in pixels.
-- From: `drm_atomic_plane_check`.
abbrev pub fits_source : Rect → ℕ → ℕ → Bool
fits_source src width height = int_le (src.x +ℤ src.w) (pos (65536 * width)) && int_le (src.y +ℤ src.h) (pos (65536 * height))

-- A length in 16.16 fixed point is at least a quarter of a length in pixels, and at most four times it.
-- From: `drm_atomic_helper_check_plane_state`, whose caller gives the least and the greatest scale.
abbrev pub is_scaled_little : ℤ → ℤ → Bool
is_scaled_little long wide = nat_le (65536 * natural wide) (4 * natural long) && nat_le (natural long) (262144 * natural wide)

-- a quotient by an odd divisor, to the nearest number
abbrev pub rounded_quotient : ℕ → ℕ → ℕ
rounded_quotient n d = (n + (d - 1) / 2) / d

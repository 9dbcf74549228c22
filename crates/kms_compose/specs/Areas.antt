-- Rectangles of pixels that are drawn anew, and frames as functions of the place.
use Rattle.std.specs.Prelude.{◌≡◌, ◌≤◌, ◌≤ℤ◌, pos, ℕ, ◌+◌, ◌*◌, Bool, false, ◌&&◌, List, Option, Some, None, if◌then◌else◌}
use Rattle.std.specs.List.{flat_map, range_with_len}
use Rattle.kms_model.specs.declared.pictures.Colour.{Colour}
use Rattle.kms_model.specs.declared.pictures.Rect.{Rect}
use Rattle.kms_model.specs.Frames.FrameBytes.{channels}
use Rattle.kms_compose.specs.declared.areas.Area.{Area}
use Rattle.kms_compose.specs.Parts.{is_within}

-- the bytes of pixels of these colours, in a mode of this size, row by row
abbrev pub canvas : ℕ → ℕ → (ℕ → ℕ → Colour) → List ℕ
canvas width height colour = flat_map (λ y. flat_map (λ x. channels (colour x y)) (range_with_len 0 width)) (range_with_len 0 height)

-- a pixel is in a rectangle
abbrev pub is_in : Area → ℕ → ℕ → Bool
is_in a x y = is_within a.left a.width x && is_within a.top a.height y

-- a pixel is in one of the columns of a rectangle
abbrev pub in_columns : Area → ℕ → ℕ → Bool
in_columns a x y = is_within a.left a.width x

abbrev pub in_area : Option Area → ℕ → ℕ → Bool
in_area None x y = false
in_area (Some a) x y = is_in a x y

-- colours that are new in a part of the pixels
abbrev pub drawn : (ℕ → ℕ → Bool) → (ℕ → ℕ → Colour) → (ℕ → ℕ → Colour) → ℕ → ℕ → Colour
drawn anew new old x y = if anew x y then new x y else old x y

-- a rectangle within a mode of this size
pub record FitsIn (width height : ℕ) (a : Area) : Type 0 where
  pub across : a.left + a.width ≤ width
  pub down : a.top + a.height ≤ height

-- a rectangle of numbers that are not negative
pub record IsNatural (v : Rect) : Type 0 where
  pub x : pos 0 ≤ℤ v.x
  pub y : pos 0 ≤ℤ v.y
  pub w : pos 0 ≤ℤ v.w
  pub h : pos 0 ≤ℤ v.h

-- of so many rows of a frame, some that begin at this byte and have so many bytes
pub record AreRowsOf (width height start long : ℕ) : Type 0 where
  pub above : ℕ
  pub count : ℕ
  pub starts : start ≡ above * (3 * width)
  pub lasts : long ≡ count * (3 * width)
  pub within : above + count ≤ height

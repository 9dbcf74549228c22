-- The visible parts of layers in pixels of the mode, and what they put on a row.
use Rattle.std.specs.Prelude.{◌≡◌, ◌<◌, ◌≤◌, ℕ, ◌+◌, ◌-◌, ◌*◌, pos, ◌≤ℤ◌, ◌<ℤ◌, All, ⊤, Bool, true, false, not, ◌&&◌, ◌||◌, ◌==◌, nat_le}
use Rattle.std.specs.Prelude.{nat_lt, List, [], ◌∷◌, Option, Some, None, length, slice_index, if◌then◌else◌}
use Rattle.kms_model.specs.declared.objects.Format.{Format}
use Rattle.kms_model.specs.declared.objects.Format.TheVariants.{Xr24, Ar24, Rg16}
use Rattle.kms_model.specs.declared.pictures.Colour.{Colour}
use Rattle.kms_model.specs.declared.pictures.Layer.{Layer}
use Rattle.kms_model.specs.Frames.FrameBytes.{black, blended, channels, colour_of, mixed, through}
use Rattle.kms_model.specs.Frames.Rectangles.{fits_source}
use Rattle.kms_model.specs.Device.States.{natural}
use Rattle.kms_model.specs.declared.objects.Gamma.{Gamma}
use Rattle.kms_model.specs.declared.pictures.Rect.{Rect}
use Rattle.kms_model.specs.declared.things.Image.{Image}
use Rattle.kms_compose.specs.declared.parts.Places.{Places}
use Rattle.kms_compose.specs.declared.parts.Places.TheVariants.{From, At}
use Rattle.kms_compose.specs.declared.parts.VisiblePart.{VisiblePart}
use Rattle.kms_compose.specs.declared.sources.Reach.{Reach}
use Rattle.kms_compose.specs.Sources.{IsSeen, source_place}

-- from a place on, so many
abbrev pub is_within : ℕ → ℕ → ℕ → Bool
is_within start size at = nat_le start at && nat_lt at (start + size)

-- the colour of a word of a run of words that begins at a place
abbrev pub run_colour : Format → List ℕ → ℕ → ℕ → Option Colour
run_colour format words left x = if is_within left (length words) x then Some (colour_of format (slice_index words (x - left))) else None

-- the column, or row, of the image that a column, or row, of a part shows, by its place from the first on
abbrev pub shown_at : Places → ℕ → ℕ
shown_at (From first) k = first + k
shown_at (At columns) k = slice_index columns.items k

-- the words of a part on a row
abbrev pub part_word : VisiblePart → ℕ → ℕ → ℕ
part_word p x y = slice_index p.words.now (shown_at p.rows (y - p.top) * p.stride + shown_at p.columns (x - p.left))

-- the colour of a part at a pixel
abbrev pub part_colour : VisiblePart → ℕ → ℕ → Option Colour
part_colour p x y = if is_within p.left p.width x && is_within p.top p.height y then Some (colour_of p.layer.fb.format (part_word p x y))
    else None

-- the colour at a pixel of a layer whose visible part this is, where anything of it is visible
abbrev pub seen_colour : Option VisiblePart → ℕ → ℕ → Option Colour
seen_colour None x y = None
seen_colour (Some p) x y = part_colour p x y

-- the colour at a place of a row of a part, of whose image this is the row that it shows there
abbrev pub on_row : VisiblePart → Option (List ℕ) → ℕ → Option Colour
on_row p None x = None
on_row p (Some row) x = if is_within p.left p.width x
    then Some (colour_of p.layer.fb.format (slice_index row (shown_at p.columns (x - p.left)))) else None

-- what a layer shows from left to right, and from top to bottom
abbrev pub across : Layer → Reach
across l = record { src = l.src.x; long = l.src.w; dst = l.dst.x; wide = l.dst.w }

abbrev pub down : Layer → Reach
down l = record { src = l.src.y; long = l.src.h; dst = l.dst.y; wide = l.dst.h }

-- this is visible of a layer: some pixels of its destination
pub record IsVisible (l : Layer) (visible : Rect) : Type 0 where
  pub left : pos 0 ≤ℤ visible.x
  pub top : pos 0 ≤ℤ visible.y
  pub wide : pos 0 <ℤ visible.w
  pub high : pos 0 <ℤ visible.h
  pub columns : IsSeen (across l) (natural visible.x) (natural visible.w)
  pub rows : IsSeen (down l) (natural visible.y) (natural visible.h)

-- an image with a word for each pixel, in which a layer's source ends
pub record IsImageFor (l : Layer) (image : Image) : Type 0 where
  pub words : length image.words.now ≡ image.width * image.height
  pub fits : fits_source l.src image.width image.height ≡ true

-- so many columns or rows are told
abbrev pub HasCount : Places → ℕ → Type 0
HasCount (From first) count = ⊤
HasCount (At columns) count = length columns.items ≡ count

-- so many columns, each of an image of this width
abbrev pub AreColumns : Places → ℕ → ℕ → Type 0
AreColumns (From first) count width = first + count ≤ width
AreColumns (At columns) count width = (length columns.items ≡ count) × All (λ column. column < width) columns.items

-- the columns of a part are some of its image, one for each pixel of a row
abbrev pub HasColumns : VisiblePart → Type 0
HasColumns p = AreColumns p.columns p.width p.stride

-- the rows of a part are some of its image, one for each of its rows, and none of them is empty
pub record HasRows (p : VisiblePart) : Type 0 where
  pub count : HasCount p.rows p.height
  pub within : (k : ℕ) → k < p.height → shown_at p.rows k * p.stride + p.stride ≤ length p.words.now
  pub some : 0 < p.stride

-- the part of an image that a layer shows, of which this is visible
pub record IsCut (l : Layer) (visible : Rect) (image : Image) (p : VisiblePart) : Type 0 where
  pub layer : p.layer ≡ l
  pub left : p.left ≡ natural visible.x
  pub top : p.top ≡ natural visible.y
  pub width : p.width ≡ natural visible.w
  pub height : p.height ≡ natural visible.h
  pub columns : (k : ℕ) → k < p.width → shown_at p.columns k ≡ source_place (across l) (p.left + k)
  pub rows : (k : ℕ) → k < p.height → shown_at p.rows k ≡ source_place (down l) (p.top + k)
  pub stride : p.stride ≡ image.width
  pub words : p.words.now ≡ image.words.now
  pub has_columns : HasColumns p
  pub has_rows : HasRows p

-- a part whose rows and columns are those of its image, with numbers in their ranges
pub record IsPart (p : VisiblePart) : Type 0 where
  pub narrow : p.left + p.width < 65536
  pub words : HasRows p
  pub columns : HasColumns p
  pub alpha : p.layer.alpha ≤ 65535
  pub blend : p.layer.blend ≤ 2

-- the parts over a colour, from the lowest
abbrev pub parts_over : ℕ → ℕ → Colour → List VisiblePart → Colour
parts_over x y under [] = under
parts_over x y under (p ∷ ps) = parts_over x y (mixed p.layer under (part_colour p x y)) ps

-- the bytes of a pixel of the parts over black, through a gamma table
abbrev pub part_pixel : Option Gamma → List VisiblePart → ℕ → ℕ → List ℕ
part_pixel gamma parts y x = channels (through gamma (parts_over x y black parts))

-- a channel of a layer over a lower one
abbrev pub channel_over : Layer → (Colour → ℕ) → Option Colour → ℕ → ℕ
channel_over l channel None under = under
channel_over l channel (Some c) under = blended l.blend l.alpha c.alpha (channel c) under

-- formats with an alpha channel
abbrev pub has_alpha : Format → Bool
has_alpha Xr24 = false
has_alpha Ar24 = true
has_alpha Rg16 = false

-- a layer hides what lies below it: its plane is opaque, and so is each pixel, or its alpha is not looked at
abbrev pub is_opaque : Layer → Bool
is_opaque l = (l.alpha == 65535) && ((l.blend == 2) || not (has_alpha l.fb.format))

-- the colour at a place of three rows of channels
abbrev pub colour_at : List ℕ → List ℕ → List ℕ → ℕ → Colour
colour_at red green blue x = record { alpha = 255; red = slice_index red x; green = slice_index green x; blue = slice_index blue x }

-- The bytes of a frame, pixel by pixel. From: "Plane Composition Properties"; `drm_fourcc.h`.
use Rattle.std.specs.Prelude.{ℕ, ◌+◌, ◌-◌, ◌*◌, ◌/◌, ◌%◌, Bool, false, ◌&&◌, ◌==◌, min, ℤ, pos, ◌+ℤ◌, ◌-ℤ◌, int_lt, int_le, List, [], ◌∷◌}
use Rattle.std.specs.Prelude.{Option, Some, None, if◌then◌else◌, slice_index}
use Rattle.std.specs.List.{flat_map, range_with_len}
use Rattle.kms_model.specs.declared.objects.Format.{Format}
use Rattle.kms_model.specs.declared.objects.Format.TheVariants.{Xr24, Ar24, Rg16}
use Rattle.kms_model.specs.declared.objects.Gamma.{Gamma}
use Rattle.kms_model.specs.declared.pictures.Colour.{Colour}
use Rattle.kms_model.specs.declared.pictures.Layer.{Layer}
use Rattle.kms_model.specs.declared.pictures.Picture.{Picture}
use Rattle.kms_model.specs.declared.pictures.Picture.TheVariants.{Off, On}
use Rattle.kms_model.specs.declared.pictures.Rect.{Rect}
use Rattle.kms_model.specs.declared.pictures.Shown.{Shown}
use Rattle.kms_model.specs.declared.scripts.Pattern.{Pattern}
use Rattle.kms_model.specs.declared.scripts.Pattern.TheVariants.{Solid, Checker, Ramp, Pixels}
use Rattle.kms_model.specs.declared.worlds.Content.{Content}
use Rattle.kms_model.specs.declared.worlds.Content.TheVariants as content
use Rattle.kms_model.specs.declared.worlds.Thing.{Thing}
use Rattle.kms_model.specs.Script.Words.{◌>>=◌}
use Rattle.kms_model.specs.Device.World.{thing_with_id}
use Rattle.kms_model.specs.Device.States.{natural}

-- the word of a pattern at (x, y), in a buffer of this width
abbrev pub word_in : Pattern → Format → ℕ → ℕ → ℕ → ℕ
word_in (Solid p) format width x y = p
word_in (Checker p q n) format width x y = if (x / n + y / n) % 2 == 0 then p else q
word_in Ramp Rg16 width x y = (x % 32) * 2048 + (y % 64) * 32 + (x + y) % 32
word_in Ramp Xr24 width x y = 0xff000000 + (x % 256) * 65536 + (y % 256) * 256 + (x + y) % 256
word_in Ramp Ar24 width x y = 0xff000000 + (x % 256) * 65536 + (y % 256) * 256 + (x + y) % 256
word_in (Pixels words) format width x y = slice_index words (y * width + x)

-- five and six bits widened to eight
abbrev pub five_bits : ℕ → ℕ
five_bits v = v * 8 + v / 4

abbrev pub six_bits : ℕ → ℕ
six_bits v = v * 4 + v / 16

-- the colour of a word: alpha (255 for formats without one), red, green and blue
abbrev pub colour_of : Format → ℕ → Colour
colour_of Xr24 word = record { alpha = 255; red = word / 65536 % 256; green = word / 256 % 256; blue = word % 256 }
colour_of Ar24 word = record { alpha = word / 16777216; red = word / 65536 % 256; green = word / 256 % 256; blue = word % 256 }
colour_of Rg16 word = record {
  alpha = 255;
  red = five_bits (word / 2048 % 32);
  green = six_bits (word / 32 % 64);
  blue = five_bits
      (word % 32);
}

-- 65535 * 255: an opaque plane's alpha with an opaque pixel's
abbrev pub opaque : ℕ
opaque = 16711425

-- The numerator of a blended channel: a is the plane's alpha, q the pixel's, f the layer's channel and b the lower
-- one. Blend mode 0 is Pre-multiplied, 1 Coverage and 2 None.
abbrev pub numerator : ℕ → ℕ → ℕ → ℕ → ℕ → ℕ
numerator mode a q f b =
    if mode == 0 then a * 255 * f + (opaque - a * q) * b
    else (if mode == 1 then a * q * f + (opaque - a * q) * b
    else a * 255 * f + (opaque - a * 255) * b)

-- a blended channel: the nearest number, at most 255
abbrev pub blended : ℕ → ℕ → ℕ → ℕ → ℕ → ℕ
blended mode a q f b = min 255 ((numerator mode a q f b + 8355712) / opaque)

-- a pixel is in a rectangle
abbrev pub covers : Rect → ℕ → ℕ → Bool
covers r x y = int_le r.x (pos x) && (int_lt (pos x) (r.x +ℤ r.w) && (int_le r.y (pos y) && int_lt (pos y) (r.y +ℤ r.h)))

abbrev pub is_covered : Option Rect → ℕ → ℕ → Bool
is_covered None x y = false
is_covered (Some r) x y = covers r x y

-- The place in the framebuffer that a pixel of the destination shows, along one axis: of as many parts as the destination
-- has pixels, the middle of the pixel's part of the source. The source begins at `src` and is `long` (in 16.16 fixed
-- point), the destination begins at `dst` and is `wide` (in pixels); each quotient is rounded down.
abbrev pub source_at : ℤ → ℤ → ℤ → ℤ → ℕ → ℕ
source_at src long dst wide at =
    (natural src + (2 * natural (pos at -ℤ dst) + 1) * natural long / (2 * natural wide)) / 65536

abbrev pub buffer_id_in : Content → Option ℕ
buffer_id_in (content.Framebuffer info buffer) = Some buffer
buffer_id_in _ = None

abbrev pub pattern_word : ℕ → ℕ → Content → Option ℕ
pattern_word x y (content.Buffer width height format pattern) = Some (word_in pattern format width x y)
pattern_word x y _ = None

-- the word of a framebuffer at (x, y): its buffer's
abbrev pub word_of : List Thing → ℕ → ℕ → ℕ → Option ℕ
word_of things fb x y = do
  f ← thing_with_id things fb
  id ← buffer_id_in f.content
  b ← thing_with_id things id
  pattern_word x y b.content

-- The colour of a layer at a pixel that it covers. Here and below, the words of framebuffers are a function of the
-- framebuffer's id and the place (x, y) in it.
abbrev pub layer_colour : (ℕ → ℕ → ℕ → Option ℕ) → ℕ → ℕ → Layer → Option Colour
layer_colour words x y l =
    if is_covered l.visible x y then (do
      word ← words l.fb.id (source_at l.src.x l.src.w l.dst.x l.dst.w x) (source_at l.src.y l.src.h l.dst.y l.dst.h y)
      Some (colour_of l.fb.format word))
    else None

-- a layer's colour over what lies below
abbrev pub mixed : Layer → Colour → Option Colour → Colour
mixed l under None = under
mixed l under (Some c) = record {
  alpha = 255;
  red = blended l.blend l.alpha c.alpha c.red under.red;
  green = blended l.blend l.alpha c.alpha c.green under.green;
  blue = blended l.blend l.alpha c.alpha c.blue under.blue;
}

-- the layers over a colour, from the lowest
abbrev pub composed : (ℕ → ℕ → ℕ → Option ℕ) → ℕ → ℕ → Colour → List Layer → Colour
composed words x y under [] = under
composed words x y under (l ∷ ls) = composed words x y (mixed l under (layer_colour words x y l)) ls

abbrev pub black : Colour
black = record { alpha = 255; red = 0; green = 0; blue = 0 }

-- the three bytes of a pixel
abbrev pub channels : Colour → List ℕ
channels c = c.red ∷ c.green ∷ c.blue ∷ []

-- a colour through a gamma table, where there is one
abbrev pub through : Option Gamma → Colour → Colour
through None c = c
through (Some g) c = record {
  alpha = c.alpha;
  red = slice_index g.red c.red;
  green = slice_index g.green c.green;
  blue = slice_index g.blue c.blue;
}

abbrev pub pixel : (ℕ → ℕ → ℕ → Option ℕ) → Option Gamma → List Layer → ℕ → ℕ → List ℕ
pixel words gamma layers x y = channels (through gamma (composed words x y black layers))

-- one row of a frame
abbrev pub row_bytes : (ℕ → ℕ → ℕ → Option ℕ) → Shown → ℕ → List ℕ
row_bytes words p y = flat_map (λ x. pixel words p.gamma p.layers x y) (range_with_len 0 p.mode.hdisplay)

-- three bytes for each pixel, row by row; none where the CRTC is off
abbrev pub frame_of : (ℕ → ℕ → ℕ → Option ℕ) → Picture → List ℕ
frame_of words Off = []
frame_of words (On p) = flat_map (row_bytes words p) (range_with_len 0 p.mode.vdisplay)

-- the frame of framebuffers whose words are those of their buffers' patterns
abbrev pub frame_bytes : List Thing → Picture → List ℕ
frame_bytes things p = frame_of (word_of things) p

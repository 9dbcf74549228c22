-- Images of framebuffers: what is read of a buffer, word by word, and the layers that can be shown over them.
-- From: "Frame Buffer Abstraction"; "Plane Composition Properties".
use Rattle.std.specs.Prelude.{◌≡◌, ◌≤◌, ℕ, ◌+◌, ◌*◌, pos, ◌≤ℤ◌, true, List, Option, Some, None, slice_index}
use Rattle.kms_model.specs.declared.objects.Mode.{Mode}
use Rattle.kms_model.specs.declared.pictures.Layer.{Layer}
use Rattle.kms_model.specs.declared.worlds.Content.{Content}
use Rattle.kms_model.specs.declared.worlds.Content.TheVariants as content
use Rattle.kms_model.specs.declared.worlds.Thing.{Thing}
use Rattle.kms_model.specs.Script.Words.{◌>>=◌}
use Rattle.kms_model.specs.Device.World.{thing_with_id}
use Rattle.kms_model.specs.Frames.Pictures.{clip, mode_area}
use Rattle.kms_model.specs.Device.Sound.{IsBetween}
use Rattle.kms_model.specs.Frames.Rectangles.{fits_source, is_scaled_little}
use Rattle.kms_model.specs.Frames.FrameBytes.{buffer_id_in}
use Rattle.kms_model.specs.Things.Kept.{Seen, buffer_words}

-- the word at (x, y) of what is read of a buffer, row by row
abbrev pub seen_word : Seen → ℕ → ℕ → ℕ
seen_word s x y = slice_index s.words (y * s.width + x)

-- what is read of a thing that is a buffer: the words of its pattern
abbrev pub seen_in : Content → Option Seen
seen_in (content.Buffer width height format pattern) = Some
    (record { width = width; height = height; format = format; words = buffer_words pattern format width height })
seen_in _ = None

-- what is read of a framebuffer: its buffer
abbrev pub image_of : List Thing → ℕ → Option Seen
image_of things fb = do
  f ← thing_with_id things fb
  id ← buffer_id_in f.content
  b ← thing_with_id things id
  seen_in b.content

-- A layer as a check of the state lets it through: its source begins and ends in its framebuffer, its sizes are in their
-- ranges and neither is more than four times the other, and what is visible of it is the destination
-- clipped to the mode. From: `drm_atomic_plane_check`; how far planes scale is own.
pub record FitsMode (m : Mode) (l : Layer) : Type 0 where
  pub visible : l.visible ≡ clip l.dst (mode_area m)
  pub alpha : l.alpha ≤ 65535
  pub blend : l.blend ≤ 2
  pub left : pos 0 ≤ℤ l.src.x
  pub top : pos 0 ≤ℤ l.src.y
  pub fits : fits_source l.src l.fb.width l.fb.height ≡ true
  pub src_w : IsBetween (pos 0) (pos 4294967295) l.src.w
  pub src_h : IsBetween (pos 0) (pos 4294967295) l.src.h
  pub dst_w : IsBetween (pos 0) (pos 2147483647) l.dst.w
  pub dst_h : IsBetween (pos 0) (pos 2147483647) l.dst.h
  pub width : is_scaled_little l.src.w l.dst.w ≡ true
  pub height : is_scaled_little l.src.h l.dst.h ≡ true

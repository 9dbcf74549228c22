-- The frame of a picture is the same over the things that its things become: framebuffers and their buffers stay, with their
-- content.
use Rattle.std.proofs.Common.{◌≡◌, ℕ, List, [], ◌∷◌, Option, Some, None, refl, ap, ◌∙◌}
use Rattle.std.specs.Prelude.{All, if◌then◌else◌}
use Rattle.std.specs.List.{flat_map, range_with_len}
use Rattle.std.proofs.lemmas.List.Elements.{All-head, All-tail}
use Rattle.kms_model.specs.declared.objects.Mode.{Mode}
use Rattle.kms_model.specs.declared.pictures.Colour.{Colour}
use Rattle.kms_model.specs.declared.pictures.Layer.{Layer}
use Rattle.kms_model.specs.declared.pictures.Picture.{Picture}
use Rattle.kms_model.specs.declared.pictures.Picture.TheVariants.{Off, On}
use Rattle.kms_model.specs.declared.worlds.Thing.{Thing}
use Rattle.kms_model.specs.Device.World.{thing_with_id}
use Rattle.kms_model.specs.Frames.FrameBytes.{black, buffer_id_in, channels, colour_of, composed, frame_bytes, is_covered, layer_colour}
use Rattle.kms_model.specs.Frames.FrameBytes.{mixed, pattern_word, source_at, through, word_of}
use Rattle.kms_model.specs.Frames.Images.{image_of, seen_in}
use Rattle.kms_model.specs.Frames.Shown.{CanBeShown, EachCanBeShown, HasWords}
use Rattle.kms_model.specs.Script.Words.{◌>>=◌}
use Rattle.kms_model.specs.Things.Kept.{Seen}
use Rattle.kms_laws.proofs.Staying.{Stay}

module _ (old new : List Thing) (stay : Stay old new) where
  -- Words of a framebuffer that has an image

  abbrev seen_of : List Thing → Option ℕ → Option Seen
  seen_of things o = do
    id ← o
    b ← thing_with_id things id
    seen_in b.content

  abbrev word_from : List Thing → ℕ → ℕ → Option ℕ → Option ℕ
  word_from things x y o = do
    id ← o
    b ← thing_with_id things id
    pattern_word x y b.content

  of_thing : (x y id : ℕ) (seen : Seen) (o : Option Thing) → thing_with_id old id ≡ o → (o >>= (λ b. seen_in b.content)) ≡ Some seen
      → (thing_with_id new id >>= (λ b. pattern_word x y b.content)) ≡ (thing_with_id old id >>= (λ b. pattern_word x y b.content))
  of_thing x y id seen None found e = absurd cc
  of_thing x y id seen (Some b) found e = let k = stay id b found in rw (k.found, found) (ap (pattern_word x y) k.same)

  of_buffer : (x y : ℕ) (seen : Seen) (o : Option ℕ) → seen_of old o ≡ Some seen → word_from new x y o ≡ word_from old x y o
  of_buffer x y seen None e = absurd cc
  of_buffer x y seen (Some id) e = of_thing x y id seen (thing_with_id old id) refl e

  of_framebuffer : (x y fb : ℕ) (seen : Seen) (o : Option Thing) → thing_with_id old fb ≡ o
      → (o >>= (λ f. seen_of old (buffer_id_in f.content))) ≡ Some seen
      → (thing_with_id new fb >>= (λ f. word_from new x y (buffer_id_in f.content)))
      ≡ (thing_with_id old fb >>= (λ f. word_from old x y (buffer_id_in f.content)))
  of_framebuffer x y fb seen None found e = absurd cc
  of_framebuffer x y fb seen (Some f) found e =
      let k = stay fb f found in
      rw (k.found, found) (ap (word_from new x y) (ap buffer_id_in k.same) ∙ of_buffer x y seen (buffer_id_in f.content) e)

  word-stays : (x y fb : ℕ) (seen : Seen) → image_of old fb ≡ Some seen → word_of new fb x y ≡ word_of old fb x y
  word-stays x y fb seen e = of_framebuffer x y fb seen (thing_with_id old fb) refl e

  -- Layers

  layer-stays : (l : Layer) → HasWords old l.fb → (x y : ℕ) → layer_colour (word_of new) x y l ≡ layer_colour (word_of old) x y l
  layer-stays l has x y =
      ap (λ w. if is_covered l.visible x y then (w >>= (λ word. Some (colour_of l.fb.format word))) else None)
      (word-stays (source_at l.src.x l.src.w l.dst.x l.dst.w x) (source_at l.src.y l.src.h l.dst.y l.dst.h y) l.fb.id has.seen has.found)

  composed-stays : (m : Mode) (ls : List Layer) → All (CanBeShown old m) ls → (x y : ℕ) (under : Colour)
      → composed (word_of new) x y under ls ≡ composed (word_of old) x y under ls
  composed-stays m [] all x y under = refl
  composed-stays m (l ∷ ls) all x y under =
      ap (λ c. composed (word_of new) x y (mixed l under c) ls) (layer-stays l (All-head (CanBeShown old m) l ls all).words x y)
      ∙ composed-stays m ls (All-tail (CanBeShown old m) l ls all) x y (mixed l under (layer_colour (word_of old) x y l))

  -- Frames

  pub frame-stays : (p : Picture) → EachCanBeShown old p → frame_bytes new p ≡ frame_bytes old p
  frame-stays Off can = refl
  frame-stays (On p) can = λ i.
      flat_map (λ y. flat_map (λ x. channels (through p.gamma (composed-stays p.mode p.layers can x y black i)))
      (range_with_len 0 p.mode.hdisplay)) (range_with_len 0 p.mode.vdisplay)

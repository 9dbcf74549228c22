-- The words of what is read of a framebuffer are those of its buffer's pattern.
use Rattle.std.proofs.Common.{◌≡◌, ◌<◌, ℕ, ◌+◌, ◌*◌, zero, suc, List, ◌++◌, slice_index, Option, Some, None, ap, sym, ◌∙◌, arith}
use Rattle.std.specs.Prelude.{map}
use Rattle.std.specs.List.{flat_map, range_with_len}
use Rattle.std.proofs.lemmas.List.{get_or_append_left, get_or-append-add}
use Rattle.std.proofs.lemmas.List.FromFn.{length-map-range_with_len, get_or-map-range_with_len}
use Rattle.std.proofs.lemmas.Option.{same_Some}
use Rattle.kms_model.specs.declared.objects.Format.{Format}
use Rattle.kms_model.specs.declared.scripts.Pattern.{Pattern}
use Rattle.kms_model.specs.declared.worlds.Content.{Content}
use Rattle.kms_model.specs.declared.worlds.Content.TheVariants as content
use Rattle.kms_model.specs.declared.worlds.Thing.{Thing}
use Rattle.kms_model.specs.Script.Words.{◌>>=◌}
use Rattle.kms_model.specs.Device.World.{thing_with_id}
use Rattle.kms_model.specs.Frames.FrameBytes.{buffer_id_in, pattern_word, word_in, word_of}
use Rattle.kms_model.specs.Frames.Images.{image_of, seen_in, seen_word}
use Rattle.kms_model.specs.Things.Kept.{Seen, buffer_words}

-- rows of one length, one after the other
module _ (f : ℕ → ℕ → ℕ) (width : ℕ) where
  in_first : (rest : List ℕ) (x y k : ℕ) → x < width → k ≡ x → slice_index (map (λ x. f x y) (range_with_len 0 width) ++ rest) k ≡ f x y
  in_first rest x y k left e =
      let long = length-map-range_with_len (λ x. f x y) 0 width in
      get_or_append_left (map (λ x. f x y) (range_with_len 0 width)) rest 0 k (omega arith)
      ∙ get_or-map-range_with_len (λ x. f x y) 0 width k x 0 (omega arith) (omega arith)

  behind_first : (rest : List ℕ) (x y k i : ℕ) → width + i ≡ k → slice_index (map (λ x. f x y) (range_with_len 0 width) ++ rest) k
      ≡ slice_index rest i
  behind_first rest x y k i e =
      let long = length-map-range_with_len (λ x. f x y) 0 width in
      ap (slice_index (map (λ x. f x y) (range_with_len 0 width) ++ rest)) (omega (arith, long))
      ∙ get_or-append-add (map (λ x. f x y) (range_with_len 0 width)) rest i 0

  pub place : (a n x y z : ℕ) → x < width → y < n → a + y ≡ z
      → slice_index (flat_map (λ y. map (λ x. f x y) (range_with_len 0 width)) (range_with_len a n)) (y * width + x) ≡ f x z
  place a zero x y z left low e = absurd (omega arith)
  place a (suc n) x zero z left low e =
      in_first _ x a (0 * width + x) left (omega arith) ∙ ap (f x) (omega arith)
  place a (suc n) x (suc y) z left low e =
      behind_first _ x a (suc y * width + x) (y * width + x) (omega arith) ∙ place (a + 1) n x y z left (omega arith) (omega arith)

-- a word of a pattern
word_at : (pattern : Pattern) (format : Format) (width height x y : ℕ) → x < width → y < height →
    slice_index (buffer_words pattern format width height) (y * width + x) ≡ word_in pattern format width x y
word_at pattern format width height x y left low = place (λ x y. word_in pattern format width x y) width 0 height x y y left low
    (omega arith)

module _ (s : Seen) (x y : ℕ) (left : x < s.width) (low : y < s.height) where
  word_of_content : (c : Content) → seen_in c ≡ Some s → pattern_word x y c ≡ Some (seen_word s x y)
  word_of_content (content.Buffer width height format pattern) e =
      let same = same_Some (record { width = width; height = height; format = format; words = buffer_words pattern format width height }) s
      e in
      let wide : width ≡ s.width = ap (λ (s : Seen). s.width) same in
      let high : height ≡ s.height = ap (λ (s : Seen). s.height) same in
      ap Some (sym (word_at pattern format width height x y (omega arith) (omega arith))) ∙ ap (λ (s : Seen). Some (seen_word s x y)) same
  word_of_content (content.Framebuffer info buffer) e = cc
  word_of_content (content.Mode m) e = cc
  word_of_content (content.Blob bytes) e = cc
  word_of_content content.Fence e = cc
  word_of_content content.OutFence e = cc

  word_of_buffer : (b : Option Thing) → (b >>= λ b. seen_in b.content) ≡ Some s → (b >>= λ b. pattern_word x y b.content)
      ≡ Some (seen_word s x y)
  word_of_buffer None e = cc
  word_of_buffer (Some b) e = word_of_content b.content e

  word_of_id : (things : List Thing) (id : Option ℕ) →
      (id >>= λ id. thing_with_id things id >>= λ b. seen_in b.content) ≡ Some s
      → (id >>= λ id. thing_with_id things id >>= λ b. pattern_word x y b.content) ≡ Some (seen_word s x y)
  word_of_id things None e = cc
  word_of_id things (Some id) e = word_of_buffer (thing_with_id things id) e

  word_of_fb : (things : List Thing) (f : Option Thing) →
      (f >>= λ f. buffer_id_in f.content >>= λ id. thing_with_id things id >>= λ b. seen_in b.content) ≡ Some s →
      (f >>= λ f. buffer_id_in f.content >>= λ id. thing_with_id things id >>= λ b. pattern_word x y b.content) ≡ Some (seen_word s x y)
  word_of_fb things None e = cc
  word_of_fb things (Some f) e = word_of_id things (buffer_id_in f.content) e

-- the word of a framebuffer at a place of its image
pub word_of-image : (things : List Thing) (fb x y : ℕ) (s : Seen) → image_of things fb ≡ Some s → x < s.width → y < s.height →
    word_of things fb x y ≡ Some (seen_word s x y)
word_of-image things fb x y s e left low = word_of_fb s x y left low things (thing_with_id things fb) e

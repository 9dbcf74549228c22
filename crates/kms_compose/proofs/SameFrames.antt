-- Over images of framebuffers among the things, a frame is that of the things.
use Rattle.std.proofs.Common.{◌≡◌, ◌<◌, ℕ, Bool, true, false, ◌==◌, cond, ◌*◌, pos, ◌+ℤ◌, int_le, List, [], ◌∷◌, suc, length}
use Rattle.std.proofs.Common.{slice_index_or, Option, Some, None, Result, Ok, Err, refl, ap, ◌∙◌, arith}
use Rattle.std.specs.Prelude.{All, IfOk, OnOk}
use Rattle.std.proofs.lemmas.Bool.{and_parts, eqb-true}
use Rattle.kms_model.specs.declared.copying.NoMemory.{NoMemory}
use Rattle.kms_model.specs.declared.objects.Mode.{Mode}
use Rattle.kms_model.specs.declared.pictures.Colour.{Colour}
use Rattle.kms_model.specs.declared.pictures.Layer.{Layer}
use Rattle.kms_model.specs.declared.pictures.Picture.{Picture}
use Rattle.kms_model.specs.declared.pictures.Picture.TheVariants.{Off, On}
use Rattle.kms_model.specs.declared.pictures.Rect.{Rect}
use Rattle.kms_model.specs.declared.pictures.Shown.{Shown}
use Rattle.kms_model.specs.declared.worlds.Thing.{Thing}
use Rattle.kms_model.specs.Frames.FrameBytes.{black, channels, composed, covers, frame_bytes, frame_of, layer_colour, mixed, source_at}
use Rattle.kms_model.specs.Frames.FrameBytes.{through, word_of}
use Rattle.kms_model.specs.Frames.Images.{image_of}
use Rattle.kms_model.specs.Things.Kept.{Seen}
use Rattle.kms_model.proofs.ImageWords.{word_of-image}
use Rattle.kms_model.proofs.SourcePlaces.{covers-at, source-within}
use Rattle.kms_model.proofs.Spans.{flat_map-range_same}
use Rattle.kms_compose.specs.declared.images.FbImage.{FbImage}
use Rattle.kms_compose.specs.Images.{AreImagesIn, CanShow, IsShowable, image_seen, seen_under, word_under}
use Rattle.kms_compose.proofs.Visible.{axes, clipped_at, cond_under}

-- the layers' colours decide a frame
composed-same : (words words' : ℕ → ℕ → ℕ → Option ℕ) (x y : ℕ) (under : Colour) (layers : List Layer) →
    ((k : ℕ) (d : Layer) → k < length layers → layer_colour words x y (slice_index_or layers k d)
    ≡ layer_colour words' x y (slice_index_or layers k d)) →
    composed words x y under layers ≡ composed words' x y under layers
composed-same words words' x y under [] same = refl
composed-same words words' x y under (l ∷ layers) same =
    ap (λ (c : Option Colour). composed words x y (mixed l under c) layers) (same 0 l (omega arith))
    ∙ composed-same words words' x y (mixed l under (layer_colour words' x y l)) layers (λ k d below. same (suc k) d (omega arith))

-- the image of a framebuffer that is among the images
image_among : (things : List Thing) (images : List FbImage) (fb : ℕ) (s : Seen) →
    ((k : ℕ) (d : FbImage) → k < length images → image_of things (slice_index_or images k d).fb
    ≡ Some (image_seen (slice_index_or images k d).image)) →
    seen_under images fb ≡ Some s → image_of things fb ≡ Some s
image_among things [] fb s are found = cc
image_among things (i ∷ images) fb s are found =
    among (i.fb == fb) refl
    (λ same. rw (← same) (are 0 i (omega arith)))
    (λ rest. image_among things images fb s (λ k d below. are (suc k) d (omega arith)) rest)
    found
  where
    among : (b : Bool) → (i.fb == fb) ≡ b → (i.fb ≡ fb → image_of things fb ≡ Some (image_seen i.image))
        → (seen_under images fb ≡ Some s → image_of things fb ≡ Some s) →
        cond b (Some (image_seen i.image)) (seen_under images fb) ≡ Some s → image_of things fb ≡ Some s
    among true e here there h = here (eqb-true i.fb fb e) ∙ h
    among false e here there h = there h

-- a layer has the same colour over the images and over the things
layer_same : (m : Mode) (things : List Thing) (images : List FbImage) (l : Layer) (x y : ℕ) → IsShowable m images l
    → AreImagesIn things images →
    layer_colour (word_under images) x y l ≡ layer_colour (word_of things) x y l
layer_same m things images l x y showable are = visible_same l.visible refl
  where
    visible_same : (v : Option Rect) → l.visible ≡ v →
        layer_colour (word_under images) x y l ≡ layer_colour (word_of things) x y l
    visible_same None e = rw e refl
    visible_same (Some v) e = rw e (cond_under (covers v x y) _ _ None (λ h.
        let image = showable.image in
        let p = showable.placed in
        let at = covers-at v x y h in
        let both = axes m l v p e in
        let ends = and_parts (int_le (l.src.x +ℤ l.src.w) (pos (65536 * l.fb.width)))
        (int_le (l.src.y +ℤ l.src.h) (pos (65536 * l.fb.height))) p.fits in
        let left = source-within l.src.x l.src.w l.dst.x l.dst.w l.fb.width x p.left p.src_w.low p.width ends.0
        (clipped_at _ _ _ _ _ x both.x at.column) in
        let low = source-within l.src.y l.src.h l.dst.y l.dst.h l.fb.height y p.top p.src_h.low p.height ends.1
        (clipped_at _ _ _ _ _ y both.y at.row) in
        let word = word_of-image things l.fb.id (source_at l.src.x l.src.w l.dst.x l.dst.w x) (source_at l.src.y l.src.h l.dst.y l.dst.h y)
        image.seen (image_among things images l.fb.id image.seen are image.found) (omega (arith, left, image.width))
        (omega (arith, low, image.height)) in
        rw (image.found, word) refl))

shown_same : (things : List Thing) (images : List FbImage) (p : Shown) → All (IsShowable p.mode images) p.layers → AreImagesIn things images
    →
    frame_of (word_under images) (On p) ≡ frame_of (word_of things) (On p)
shown_same things images p showable are = flat_map-range_same _ _ p.mode.vdisplay
    (λ y low. flat_map-range_same _ _ p.mode.hdisplay (λ x left.
    ap (λ (c : Colour). channels (through p.gamma c))
    (composed-same (word_under images) (word_of things) x y black p.layers
    (λ k d below. layer_same p.mode things images (slice_index_or p.layers k d) x y (showable k d below) are))))

pub frame_same : (things : List Thing) (images : List FbImage) (p : Picture) → CanShow images p → AreImagesIn things images
    → frame_of (word_under images) p ≡ frame_bytes things p
frame_same things images Off can are = refl
frame_same things images (On p) can are = shown_same things images p can are

-- where the images are those of framebuffers among the things, so are frames that a call made over them
pub made_of_things : (r : Result (List ℕ) NoMemory) (images : List FbImage) (p : Picture) → CanShow images p
    → IfOk r (λ bytes. bytes ≡ frame_of (word_under images) p) →
    IfOk r (λ bytes. (things : List Thing) → AreImagesIn things images → bytes ≡ frame_bytes things p)
made_of_things (Ok bytes) images p can exact = λ things are. exact ∙ frame_same things images p can are
made_of_things (Err e) images p can exact = exact

-- and so are those that it left
pub left_of_things : {T : Type 0} (r : Result T NoMemory) (images : List FbImage) (p : Picture) (bytes : List ℕ) → CanShow images p
    → OnOk r (bytes ≡ frame_of (word_under images) p) →
    OnOk r ((things : List Thing) → AreImagesIn things images → bytes ≡ frame_bytes things p)
left_of_things (Ok done) images p bytes can exact = λ things are. exact ∙ frame_same things images p can are
left_of_things (Err e) images p bytes can exact = exact

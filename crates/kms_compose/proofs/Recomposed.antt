-- A frame in which what changed layers cover was drawn anew is the new picture's.
use Rattle.std.proofs.Common.{◌≡◌, ◌<◌, ◌≤◌, ℕ, ◌*◌, length, take, Bool, true, false, ◌&&◌, ◌||◌, cond, List, [], ◌∷◌, ◌++◌, slice_index_or}
use Rattle.std.proofs.Common.{Option, refl, sym, ap, ◌∙◌}
use Rattle.std.specs.Prelude.{All}
use Rattle.kms_model.specs.declared.objects.Mode.{Mode}
use Rattle.kms_model.specs.declared.pictures.Colour.{Colour}
use Rattle.kms_model.specs.declared.pictures.Layer.{Layer}
use Rattle.kms_model.specs.declared.pictures.Picture.TheVariants.{On}
use Rattle.kms_model.specs.declared.pictures.Shown.{Shown}
use Rattle.kms_model.specs.Frames.FrameBytes.{black, composed, frame_of, is_covered, through}
use Rattle.kms_model.specs.Frames.Images.{FitsMode}
use Rattle.kms_model.specs.Frames.Pictures.{clip, mode_area}
use Rattle.kms_compose.specs.declared.images.FbImage.{FbImage}
use Rattle.kms_compose.specs.declared.parts.VisiblePart.{VisiblePart}
use Rattle.kms_compose.specs.declared.areas.Area.{Area}
use Rattle.kms_compose.specs.Areas.{canvas, drawn, is_in}
use Rattle.kms_compose.specs.Changes.{DifferIn, IsSameSize, covered_by}
use Rattle.kms_compose.specs.Images.{IsShowable}
use Rattle.kms_compose.specs.Parts.{is_within, parts_over}
use Rattle.kms_compose.proofs.Canvas.{before_run, canvas-front, canvas-length, canvas-same}
use Rattle.kms_compose.proofs.Differing.{covered_by-append}

area_same : (m m' : Mode) → m.hdisplay ≡ m'.hdisplay → m.vdisplay ≡ m'.vdisplay → mode_area m ≡ mode_area m'
area_same m m' w h = rw (w, h) refl

-- a layer fits each mode of the same size
fits_other : (m m' : Mode) (l : Layer) → m.hdisplay ≡ m'.hdisplay → m.vdisplay ≡ m'.vdisplay → FitsMode m l → FitsMode m' l
fits_other m m' l w h p = let area = area_same m m' w h in record {
  visible = p.visible ∙ ap (clip l.dst) area;
  alpha = p.alpha;
  blend = p.blend;
  left = p.left;
  top = p.top;
  fits = p.fits;
  src_w = p.src_w;
  src_h = p.src_h;
  dst_w = p.dst_w;
  dst_h = p.dst_h;
  width = p.width;
  height = p.height;
}

all_fit : (m : Mode) (images : List FbImage) (ls : List Layer) → All (IsShowable m images) ls → All (FitsMode m) ls
all_fit m images ls all = λ k d below. (all k d below).placed

all_fit_other : (m m' : Mode) (images : List FbImage) (ls : List Layer) → m.hdisplay ≡ m'.hdisplay → m.vdisplay ≡ m'.vdisplay
    → All (IsShowable m images) ls → All (FitsMode m') ls
all_fit_other m m' images ls w h all = λ k d below. fits_other m m' (slice_index_or ls k d) w h (all k d below).placed

-- the layers of both pictures on the mode of the new one
pub old_on : (images : List FbImage) (old new : Shown) (ls : List Layer) → IsSameSize old.mode new.mode
    → All (IsShowable old.mode images) old.layers → ls ≡ old.layers → All (FitsMode new.mode) ls
old_on images old new ls size all e = rw e (all_fit_other old.mode new.mode images old.layers size.width size.height all)

pub new_on : (images : List FbImage) (new : Shown) (ls : List Layer) → All (IsShowable new.mode images) new.layers → ls ≡ new.layers
    → All (FitsMode new.mode) ls
new_on images new ls all e = rw e (all_fit new.mode images new.layers all)

pub differ_in : (changed xs ys changed' xs' ys' : List Layer) → changed' ≡ changed → xs ≡ xs' → ys ≡ ys' → DifferIn changed xs ys
    → DifferIn changed' xs' ys'
differ_in changed xs ys changed' xs' ys' e f g differ = rw (e, ← f, ← g) differ

-- Frames of pictures in modes of one size

-- the colour of a picture at a pixel
abbrev pub colour_shown : (ℕ → ℕ → ℕ → Option ℕ) → Shown → ℕ → ℕ → Colour
colour_shown words p x y = through p.gamma (composed words x y black p.layers)

pub frame-size : (words : ℕ → ℕ → ℕ → Option ℕ) (old new : Shown) (bytes : List ℕ) → IsSameSize old.mode new.mode → bytes
    ≡ frame_of words (On old) →
    bytes ≡ canvas new.mode.hdisplay new.mode.vdisplay (colour_shown words old)
frame-size words old new bytes size was =
    was
    ∙ ap (λ (w : ℕ). canvas w old.mode.vdisplay (colour_shown words old)) size.width
    ∙ ap (λ (h : ℕ). canvas new.mode.hdisplay h (colour_shown words old)) size.height

pub frame-length : (words : ℕ → ℕ → ℕ → Option ℕ) (old new : Shown) (bytes : List ℕ) → IsSameSize old.mode new.mode → bytes
    ≡ frame_of words (On old) →
    length bytes ≡ new.mode.vdisplay * (new.mode.hdisplay * 3)
frame-length words old new bytes size was =
    ap length (frame-size words old new bytes size was) ∙ canvas-length new.mode.hdisplay new.mode.vdisplay (colour_shown words old)

-- where each pixel was drawn
pub drawn_each : (words : ℕ → ℕ → ℕ → Option ℕ) (new : Shown) (parts : List VisiblePart) (made : List ℕ)
    → ((x y : ℕ) → parts_over x y black parts ≡ composed words x y black new.layers) →
    made ≡ canvas new.mode.hdisplay new.mode.vdisplay (λ x y. through new.gamma (parts_over x y black parts)) → made
    ≡ frame_of words (On new)
drawn_each words new parts made colours drew =
    drew ∙ canvas-same new.mode.hdisplay new.mode.vdisplay (λ x y. through new.gamma (parts_over x y black parts)) (colour_shown words new)
    (λ x y _ _. ap (through new.gamma) (colours x y))

-- where only those were drawn that some layers cover
module _ (words : ℕ → ℕ → ℕ → Option ℕ) (old new : Shown) (changed : List Layer) (parts : List VisiblePart) (bytes made : List ℕ)
    (size : IsSameSize old.mode new.mode) (was : bytes ≡ frame_of words (On old))
    (drew : (before : ℕ → ℕ → Colour) → bytes ≡ canvas new.mode.hdisplay new.mode.vdisplay before
    → made ≡ canvas new.mode.hdisplay new.mode.vdisplay
    (drawn (covered_by changed) (λ x y. through new.gamma (parts_over x y black parts)) before)) where
  abbrev anew : ℕ → ℕ → Colour
  anew x y = through new.gamma (parts_over x y black parts)

  -- the frame is that of the new picture, as both have one table
  pub recomposed : old.gamma ≡ new.gamma → DifferIn changed old.layers new.layers
      → ((x y : ℕ) → parts_over x y black parts ≡ composed words x y black new.layers) → made ≡ frame_of words (On new)
  recomposed table differ colours =
      drew (colour_shown words old) (frame-size words old new bytes size was)
      ∙ canvas-same new.mode.hdisplay new.mode.vdisplay (drawn (covered_by changed) anew (colour_shown words old)) (colour_shown words new)
      (λ x y _ _. pixel x y (covered_by changed x y) refl)
    where
      pixel : (x y : ℕ) (b : Bool) → covered_by changed x y ≡ b → cond b (anew x y) (colour_shown words old x y)
          ≡ colour_shown words new x y
      pixel x y true e = ap (through new.gamma) (colours x y)
      pixel x y false e =
          ap (λ g. through g (composed words x y black old.layers)) table
          ∙ ap (through new.gamma) (differ.agree words x y black e)

  -- its first rows stay, which no layer covers
  pub front_stays : (rows count : ℕ) → rows ≤ new.mode.vdisplay → count ≡ 3 * new.mode.hdisplay * rows
      → ((x y : ℕ) → y < rows → covered_by changed x y ≡ false) → take count made ≡ take count bytes
  front_stays rows count low long above =
      ap (take count) (drew (colour_shown words old) (frame-size words old new bytes size was))
      ∙ canvas-front new.mode.hdisplay new.mode.vdisplay rows count (drawn (covered_by changed) anew (colour_shown words old))
      (colour_shown words old) low long (λ x y high. rw (above x y high) refl)
      ∙ ap (take count) (sym (frame-size words old new bytes size was))

-- the layers before one, and then that one

module _ (new before : ℕ → ℕ → Colour) where
  drawn_both : (a b : Bool) (n o : Colour) → cond b n (cond a n o) ≡ cond (a || (b || false)) n o
  drawn_both true true n o = refl
  drawn_both true false n o = refl
  drawn_both false true n o = refl
  drawn_both false false n o = refl

  pub layer_more : (width height : ℕ) (ls : List Layer) (l : Layer)
      → canvas width height (drawn (is_covered l.visible) new (drawn (covered_by ls) new before))
      ≡ canvas width height (drawn (covered_by (ls ++ l ∷ [])) new before)
  layer_more width height ls l = canvas-same width height (drawn (is_covered l.visible) new (drawn (covered_by ls) new before))
      (drawn (covered_by (ls ++ l ∷ [])) new before) (λ x y _ _.
      drawn_both (covered_by ls x y) (is_covered l.visible x y) (new x y) (before x y)
      ∙ ap (λ (b : Bool). cond b (new x y) (before x y)) (sym (covered_by-append ls (l ∷ []) x y)))

  -- no layer covers anything
  pub layers_none : (width height : ℕ) → canvas width height before ≡ canvas width height (drawn (covered_by []) new before)
  layers_none width height = refl

-- layers and one more cover no pixel that none of them covers
pub covered_none : (ls : List Layer) (l : Layer) (x y : ℕ) → covered_by ls x y ≡ false → is_covered l.visible x y ≡ false
    → covered_by (ls ++ l ∷ []) x y ≡ false
covered_none ls l x y off own = covered_by-append ls (l ∷ []) x y ∙ rw (off, own) refl

-- a rectangle has no pixel above it
pub above_area : (a : Area) (x y : ℕ) → y < a.top → is_in a x y ≡ false
above_area a x y high = above (is_within a.left a.width x) (before_run a.top a.height y high)
  where
    above : (b : Bool) {c : Bool} → c ≡ false → (b && c) ≡ false
    above true e = e
    above false e = refl

-- What is visible of a layer along one axis, and over both.
use Rattle.std.proofs.Common.{◌≡◌, ◌<◌, ◌≤◌, ℕ, ◌+◌, ◌-◌, ◌*◌, Bool, true, false, cond, ◌&&◌, ℤ, pos, ◌+ℤ◌, ◌-ℤ◌, ◌≤ℤ◌, ◌<ℤ◌, int_le}
use Rattle.std.proofs.Common.{int_lt, nat_le, nat_lt, List, Some, None, length, arith, refl, ap, sym, ◌∙◌}
use Rattle.std.specs.Int.{int_max, int_min}
use Rattle.std.proofs.Math.Nat.{mul-le-mul_right}
use Rattle.std.proofs.lemmas.Bool.{and_parts, leb-true}
use Rattle.std.proofs.lemmas.Bool.Decides.{nat_tests}
use Rattle.std.proofs.lemmas.List.{get_or_default}
use Rattle.std.proofs.lemmas.Option.{cond_some}
use Rattle.std.proofs.lemmas.Int.{ints, clamps}
use Rattle.kms_model.specs.declared.objects.Mode.{Mode}
use Rattle.kms_model.specs.declared.pictures.Layer.{Layer}
use Rattle.kms_model.specs.declared.pictures.Rect.{Rect}
use Rattle.kms_model.specs.declared.things.Image.{Image}
use Rattle.kms_model.specs.Device.Sound.{IsBetween}
use Rattle.kms_model.specs.Device.States.{natural}
use Rattle.kms_model.specs.Frames.FrameBytes.{covers, layer_colour}
use Rattle.kms_model.specs.Frames.Images.{FitsMode}
use Rattle.kms_model.specs.Frames.Pictures.{between_edges, clip, mode_area}
use Rattle.kms_model.specs.Frames.Rectangles.{is_scaled_little}
use Rattle.kms_model.proofs.SourcePlaces.{IsAt, natural_pos}
use Rattle.kms_compose.specs.declared.areas.Area.{Area}
use Rattle.kms_compose.specs.declared.images.FbImage.{FbImage}
use Rattle.kms_compose.specs.declared.parts.Places.{Places}
use Rattle.kms_compose.specs.declared.parts.Places.TheVariants.{From, At}
use Rattle.kms_compose.specs.declared.parts.VisiblePart.{VisiblePart}
use Rattle.kms_compose.specs.declared.sources.Reach.{Reach}
use Rattle.kms_compose.specs.Areas.{FitsIn, IsNatural, is_in}
use Rattle.kms_compose.specs.Images.{image_seen, seen_under, word_under}
use Rattle.kms_compose.specs.Parts.{AreColumns, HasCount, IsCut, IsImageFor, IsPart, IsVisible, across, shown_at, down, is_within}
use Rattle.kms_compose.specs.Parts.{part_colour}
use Rattle.kms_compose.specs.Sources.{IsReach, IsSeen, source_place}
use Rattle.kms_compose.proofs.Places.{place_below, seen_at}

-- what is visible along an axis: from the greater of both starts to the lesser of both ends, and not empty
pub record IsClipped (dst length start size : ℤ) (limit : ℕ) : Type 0 where
  pub first : start ≡ int_max dst (pos 0)
  pub last : (start +ℤ size) ≡ int_min (dst +ℤ length) (pos limit)
  pub some : pos 0 <ℤ size

-- a rectangle is that between these edges
record HasEdges (left top right bottom : ℤ) (v : Rect) : Type 0 where
  wide : left <ℤ right
  high : top <ℤ bottom
  x : left ≡ v.x
  y : top ≡ v.y
  w : (right -ℤ left) ≡ v.w
  h : (bottom -ℤ top) ≡ v.h

between : (left top right bottom : ℤ) (v : Rect) → between_edges left top right bottom ≡ Some v → HasEdges left top right bottom v
between left top right bottom v e =
    let both = cond_some (int_lt left right && int_lt top bottom) (record { x = left; y = top; w = right -ℤ left; h = bottom -ℤ top }) v e
    in
    let tests = and_parts (int_lt left right) (int_lt top bottom) both.0 in record {
      wide = grind (arith, ints, tests.0);
      high = grind (arith, ints, tests.1);
      x = ap (λ (r : Rect). r.x) both.1;
      y = ap (λ (r : Rect). r.y) both.1;
      w = ap (λ (r : Rect). r.w) both.1;
      h = ap (λ (r : Rect). r.h) both.1;
    }

visible : (dst length left right start size : ℤ) (limit : ℕ) → left ≡ int_max dst (pos 0) → right
    ≡ int_min (dst +ℤ length) (pos 0 +ℤ pos limit) →
    left <ℤ right → left ≡ start → (right -ℤ left) ≡ size → IsClipped dst length start size limit
visible dst length left right start size limit l r some s e = record {
  first = sym s ∙ l;
  last = omega (arith, ints, clamps);
  some = omega (arith, ints);
}

-- a clipped destination, along both axes
clipped : (d : Rect) (m : Mode) (v : Rect) → clip d (mode_area m) ≡ Some v →
    IsClipped d.x d.w v.x v.w m.hdisplay × IsClipped d.y d.h v.y v.h m.vdisplay
clipped d m v e =
    let edges = between (int_max d.x (pos 0)) (int_max d.y (pos 0)) (int_min (d.x +ℤ d.w) (pos 0 +ℤ pos m.hdisplay))
    (int_min (d.y +ℤ d.h) (pos 0 +ℤ pos m.vdisplay)) v e in
    (visible _ _ _ _ _ _ _ refl refl edges.wide edges.x edges.w, visible _ _ _ _ _ _ _ refl refl edges.high edges.y edges.h)

-- what is visible of a layer along both axes
pub record HasAxes (m : Mode) (l : Layer) (v : Rect) : Type 0 where
  pub x : IsClipped l.dst.x l.dst.w v.x v.w m.hdisplay
  pub y : IsClipped l.dst.y l.dst.h v.y v.h m.vdisplay

pub axes : (m : Mode) (l : Layer) (v : Rect) → FitsMode m l → l.visible ≡ Some v → HasAxes m l v
axes m l v p e = let both = clipped l.dst m v (sym p.visible ∙ e) in record { x = both.0; y = both.1 }

-- a visible pixel is one of the destination
pub clipped_at : (dst length start size : ℤ) (limit at : ℕ) → IsClipped dst length start size limit → IsAt start size at
    → IsAt dst length at
clipped_at dst length start size limit at v is = record {
  first = omega (arith, ints, clamps, v.first, is.first);
  last = omega (arith, ints, clamps, v.last, is.last);
}

start_low : (dst length start size : ℤ) (limit : ℕ) → IsClipped dst length start size limit → pos 0 ≤ℤ start
start_low dst length start size limit v = omega (arith, ints, clamps, v.first)

size_low : (dst length start size : ℤ) (limit : ℕ) → IsClipped dst length start size limit → pos 0 ≤ℤ size
size_low dst length start size limit v = omega (arith, ints, v.some)

-- it ends on the mode
mode_end : (dst length start size : ℤ) (limit : ℕ) → IsClipped dst length start size limit → natural start + natural size ≤ limit
mode_end dst length start size limit v =
    let first = natural_pos start (start_low dst length start size limit v) in
    let count = natural_pos size (size_low dst length start size limit v) in
    omega (arith, ints, clamps, v.last, first, count)

seen_from : (r : Reach) (start size : ℤ) (limit : ℕ) → IsReach r → limit < 65536 → IsClipped r.dst r.wide start size limit
    → IsSeen r (natural start) (natural size)
seen_from r start size limit is few v =
    let first = natural_pos start (start_low r.dst r.wide start size limit v) in
    let count = natural_pos size (size_low r.dst r.wide start size limit v) in
    let ends = mode_end r.dst r.wide start size limit v in record {
      reach = is;
      from = omega (arith, ints, clamps, v.first, first);
      to = omega (arith, ints, clamps, v.last, first, count);
      few = omega (arith, few, ends);
    }

reach_from : (r : Reach) (side : ℕ) → side < 4294967296 → pos 0 ≤ℤ r.src → IsBetween (pos 0) (pos 4294967295) r.long
    → IsBetween (pos 0) (pos 2147483647) r.wide →
    is_scaled_little r.long r.wide ≡ true → int_le (r.src +ℤ r.long) (pos (65536 * side)) ≡ true → IsReach r
reach_from r side small src long wide little fits =
    record { src = src; long = long; wide = wide; little = little; ends = ends_at (r.src +ℤ r.long) side small fits }
  where
    ends_at : (z : ℤ) (n : ℕ) → n < 4294967296 → int_le z (pos (65536 * n)) ≡ true → z ≤ℤ pos 281474976645120
    ends_at z n few e = grind (arith, ints, nat_tests)

-- a layer that fits a mode, with the ranges of its framebuffer's sizes
pub is_visible : (m : Mode) (l : Layer) (v : Rect) → m.hdisplay < 65536 → m.vdisplay < 65536 → l.fb.width < 4294967296 → l.fb.height
    < 4294967296 →
    FitsMode m l → l.visible ≡ Some v → IsVisible l v
is_visible m l v narrow low wide high p e =
    let a = axes m l v p e in
    let ends = and_parts (int_le (l.src.x +ℤ l.src.w) (pos (65536 * l.fb.width))) (int_le (l.src.y +ℤ l.src.h) (pos (65536 * l.fb.height)))
    p.fits in record {
      left = start_low _ _ _ _ _ a.x;
      top = start_low _ _ _ _ _ a.y;
      wide = a.x.some;
      high = a.y.some;
      columns = seen_from (across l) v.x v.w m.hdisplay (reach_from (across l) l.fb.width wide p.left p.src_w p.dst_w p.width ends.0) narrow
          a.x;
      rows = seen_from (down l) v.y v.h m.vdisplay (reach_from (down l) l.fb.height high p.top p.src_h p.dst_h p.height ends.1) low a.y;
    }

-- within a number of places from one on
pub record IsInside (start size at : ℕ) : Type 0 where
  pub low : start ≤ at
  pub high : at < start + size

pub inside_from : (start size at : ℕ) → is_within start size at ≡ true → IsInside start size at
inside_from start size at e =
    let both = and_parts (nat_le start at) (nat_lt at (start + size)) e in
    record { low = leb-true start at both.0; high = less at (start + size) both.1 }
  where
    less : (a b : ℕ) → nat_lt a b ≡ true → a < b
    less a b e = grind (arith, nat_tests)

-- a choice may be changed where it is taken
pub cond_under : {A : Type 0} (b : Bool) (p q r : A) → (b ≡ true → p ≡ q) → cond b p r ≡ cond b q r
cond_under true p q r h = h refl
cond_under false p q r h = refl

-- The part that is cut out of an image

row_end : (place stride side total : ℕ) → place < side → total ≡ stride * side → place * stride + stride ≤ total
row_end place stride side total below long =
    let rows : (place + 1) * stride ≤ side * stride = mul-le-mul_right stride (omega (arith, below)) in
    omega (arith, rows, long)

are_columns : (c : Places) (count width : ℕ) → HasCount c count → 0 < count → ((k : ℕ) → k < count → shown_at c k < width)
    → AreColumns c count width
are_columns (From first) count width has some below = let last = below (count - 1) (omega (arith, some)) in omega (arith, last, some)
are_columns (At columns) count width has some below =
    (has, λ k d inside. let default = get_or_default columns.items k d 0 inside in rw default (below k (omega (arith, has, inside))))

pub size_some : (z : ℤ) → pos 0 <ℤ z → 0 < natural z
size_some z some = let same = natural_pos z (omega (arith, ints, some)) in omega (arith, ints, same, some)

-- a part of what is visible of a layer, with some columns and rows of its image
pub cut_is : (l : Layer) (v : Rect) (image : Image) (p : VisiblePart) → IsVisible l v → IsImageFor l image
    → p.layer ≡ l → p.left ≡ natural v.x → p.top ≡ natural v.y → p.width ≡ natural v.w → p.height ≡ natural v.h
    → HasCount p.columns p.width → ((k : ℕ) → k < p.width → shown_at p.columns k ≡ source_place (across l) (p.left + k))
    → HasCount p.rows p.height → ((k : ℕ) → k < p.height → shown_at p.rows k ≡ source_place (down l) (p.top + k))
    → p.stride ≡ image.width → p.words.now ≡ image.words.now → IsCut l v image p
cut_is l v image p shown its layer left top width height count places counted rows stride words =
    let ends = and_parts (int_le (l.src.x +ℤ l.src.w) (pos (65536 * image.width)))
    (int_le (l.src.y +ℤ l.src.h) (pos (65536 * image.height))) its.fits in
    let some = size_some v.w shown.wide in
    let below : (k : ℕ) → k < p.width → shown_at p.columns k < image.width = λ k within.
    (let seen = seen_at (across l) (natural v.x) (natural v.w) (p.left + k) shown.columns (omega (arith, left))
    (omega (arith, left, width, within)) in
    let small = place_below (across l) (p.left + k) image.width seen ends.0 in
    omega (arith, places k within, small)) in
    let low : (k : ℕ) → k < p.height → shown_at p.rows k < image.height = λ k within.
    (let seen = seen_at (down l) (natural v.y) (natural v.h) (p.top + k) shown.rows (omega (arith, top))
    (omega (arith, top, height, within)) in
    let small = place_below (down l) (p.top + k) image.height seen ends.1 in
    omega (arith, rows k within, small)) in
    let wide : 0 < image.width = (let first = below 0 (omega (arith, width, some)) in omega (arith, first)) in
    record {
      layer = layer;
      left = left;
      top = top;
      width = width;
      height = height;
      columns = places;
      rows = rows;
      stride = stride;
      words = words;
      has_columns = rw stride (are_columns p.columns p.width image.width count (omega (arith, width, some)) below);
      has_rows = record {
        count = counted;
        within = λ k within. rw (stride, words) (row_end (shown_at p.rows k) image.width image.height (length image.words.now)
            (low k within) its.words);
        some = rw stride wide;
      };
    }

and_regrouped : (a b c d : Bool) → (a && (b && (c && d))) ≡ ((a && b) && (c && d))
and_regrouped true b c d = refl
and_regrouped false b c d = refl

-- a visible rectangle of natural numbers covers what is within both
covered : (v : Rect) (left width top height x y : ℕ) → pos left ≡ v.x → pos width ≡ v.w → pos top ≡ v.y → pos height ≡ v.h →
    covers v x y ≡ (is_within left width x && is_within top height y)
covered v left width top height x y l w t h = rw (← l, ← w, ← t, ← h)
    (and_regrouped (nat_le left x) (nat_lt x (left + width)) (nat_le top y) (nat_lt y (top + height)))

number_is : (z : ℤ) (n : ℕ) → n ≡ natural z → pos 0 ≤ℤ z → pos n ≡ z
number_is z n same low = ap pos same ∙ sym (natural_pos z low)

-- the column that a pixel of a part shows
column_is : (l : Layer) (v : Rect) (image : Image) (p : VisiblePart) (x : ℕ) → IsCut l v image p → IsInside p.left p.width x
    → shown_at p.columns (x - p.left) ≡ source_place (across l) x
column_is l v image p x cut inside =
    cut.columns (x - p.left) (omega (arith, inside.low, inside.high)) ∙ ap (source_place (across l)) (omega (arith, inside.low))

-- and the row
row_is : (l : Layer) (v : Rect) (image : Image) (p : VisiblePart) (y : ℕ) → IsCut l v image p → IsInside p.top p.height y
    → shown_at p.rows (y - p.top) ≡ source_place (down l) y
row_is l v image p y cut inside =
    cut.rows (y - p.top) (omega (arith, inside.low, inside.high)) ∙ ap (source_place (down l)) (omega (arith, inside.low))

-- a layer has the colours of the part that is cut out of its image
pub cut_colour : (images : List FbImage) (l : Layer) (v : Rect) (image : Image) (p : VisiblePart) → seen_under images l.fb.id
    ≡ Some (image_seen image) → l.visible ≡ Some v →
    IsVisible l v → IsCut l v image p → (x y : ℕ) → layer_colour (word_under images) x y l ≡ part_colour p x y
cut_colour images l v image p found seen shown cut x y =
    let left = number_is v.x p.left cut.left shown.left in
    let width = number_is v.w p.width cut.width (omega (arith, ints, shown.wide)) in
    let top = number_is v.y p.top cut.top shown.top in
    let height = number_is v.h p.height cut.height (omega (arith, ints, shown.high)) in
    rw (seen, found, covered v p.left p.width p.top p.height x y left width top height)
    (cond_under (is_within p.left p.width x && is_within p.top p.height y) _ _ None (λ both.
    let parts = and_parts (is_within p.left p.width x) (is_within p.top p.height y) both in
    let column = column_is l v image p x cut (inside_from p.left p.width x parts.0) in
    let row = row_is l v image p y cut (inside_from p.top p.height y parts.1) in
    rw (cut.layer, row, cut.stride, cut.words, column) refl))

-- and that part's rows and columns are those of its image
pub cut_part : (m : Mode) (l : Layer) (v : Rect) (image : Image) (p : VisiblePart) → FitsMode m l → IsVisible l v → IsCut l v image p
    → IsPart p
cut_part m l v image p placed shown cut = record {
  narrow = omega (arith, shown.columns.few, cut.left, cut.width);
  words = cut.has_rows;
  columns = cut.has_columns;
  alpha = rw cut.layer placed.alpha;
  blend = rw cut.layer placed.blend;
}

-- what is visible of a layer begins on the mode
pub is_natural : (m : Mode) (l : Layer) (v : Rect) → FitsMode m l → l.visible ≡ Some v → IsNatural v
is_natural m l v placed seen = let both = axes m l v placed seen in record {
  x = start_low _ _ _ _ _ both.x;
  y = start_low _ _ _ _ _ both.y;
  w = size_low _ _ _ _ _ both.x;
  h = size_low _ _ _ _ _ both.y;
}

-- what is visible of a layer, in natural numbers, is what it covers, and within the mode
pub record IsArea (m : Mode) (v : Rect) (a : Area) : Type 0 where
  pub covers : (x y : ℕ) → is_in a x y ≡ covers v x y
  pub fits : FitsIn m.hdisplay m.vdisplay a

pub area_is : (m : Mode) (l : Layer) (v : Rect) (a : Area) → FitsMode m l → l.visible ≡ Some v →
    a.left ≡ natural v.x → a.width ≡ natural v.w → a.top ≡ natural v.y → a.height ≡ natural v.h → IsArea m v a
area_is m l v a placed seen left width top height =
    let both = axes m l v placed seen in
    let x = number_is v.x a.left left (start_low _ _ _ _ _ both.x) in
    let w = number_is v.w a.width width (size_low _ _ _ _ _ both.x) in
    let y = number_is v.y a.top top (start_low _ _ _ _ _ both.y) in
    let h = number_is v.h a.height height (size_low _ _ _ _ _ both.y) in
    let right = mode_end _ _ _ _ _ both.x in
    let bottom = mode_end _ _ _ _ _ both.y in record {
      covers = λ i j. sym (covered v a.left a.width a.top a.height i j x w y h);
      fits = record { across = omega (arith, right, left, width); down = omega (arith, bottom, top, height) };
    }

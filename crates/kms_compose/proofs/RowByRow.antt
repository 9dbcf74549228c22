-- A rectangle of a frame that is drawn row by row.
use Rattle.std.proofs.Common.{◌≡◌, ◌<◌, ◌≤◌, ℕ, zero, suc, ◌+◌, ◌-◌, ◌*◌, Bool, true, false, ◌&&◌, ◌||◌, ◌==◌, cond, nat_le, nat_lt, List}
use Rattle.std.proofs.Common.{◌++◌, take, length, replicate, refl, sym, ap, ◌∙◌, ⊎_elim, arith}
use Rattle.std.specs.List.{flat_map, range_with_len}
use Rattle.std.proofs.lemmas.Bool.{cases_lt}
use Rattle.std.proofs.lemmas.Bool.Decides.{nat_tests}
use Rattle.std.proofs.lemmas.List.{replicate-append-replicate}
use borrow.Rule.Slice.PartMut.{put_mid}
use Rattle.kms_model.specs.declared.pictures.Colour.{Colour}
use Rattle.kms_model.specs.Frames.FrameBytes.{black, channels}
use Rattle.kms_compose.specs.declared.areas.Area.{Area}
use Rattle.kms_compose.specs.Areas.{FitsIn, canvas, drawn, in_columns, is_in}
use Rattle.kms_compose.specs.Parts.{is_within}
use Rattle.kms_compose.proofs.Canvas.{canvas-same, in_run, inside_run, range_split, run_drawn, take-put_mid}

-- a pixel is in one of the rows of a rectangle before this one
abbrev pub in_rows : Area → ℕ → ℕ → ℕ → Bool
in_rows a end x y = is_within a.left a.width x && is_within a.top (end - a.top) y

-- a rectangle in a frame that has its rows alone
abbrev pub at_top : Area → Area
at_top a = record {
  left = a.left;
  top = 0;
  width = a.width;
  height = a.height;
}

-- some pixels of a row more
pub pixels_more : (f : ℕ → List ℕ) (old run : List ℕ) (left done more at n end : ℕ) → at ≡ 3 * done → n ≡ 3 * more →
    end ≡ 3 * (done + more) → length run ≡ n → at + n ≤ length old →
    take (3 * done) old ≡ flat_map f (range_with_len left done) → run ≡ flat_map f (range_with_len (left + done) more) →
    take end (put_mid at n old run) ≡ flat_map f (range_with_len left (done + more))
pixels_more f old run left done more at n end first size last long fits before now =
    take-put_mid old run at n end long fits (omega (arith, first, size, last))
    ∙ ap (λ (k : ℕ). take k old ++ run) first
    ∙ ap (λ (xs : List ℕ). xs ++ run) before ∙ ap (λ (xs : List ℕ). flat_map f (range_with_len left done) ++ xs) now
    ∙ sym (range_split f left done more (left + done) refl)

no_row : (a : Area) (x y : ℕ) → in_rows a a.top x y ≡ false
no_row a x y = none (is_within a.left a.width x) (is_within a.top (a.top - a.top) y) (grind (arith, nat_tests))
  where
    none : (b c : Bool) → c ≡ false → (b && c) ≡ false
    none true c e = e
    none false c e = refl

module _ (new before : ℕ → ℕ → Colour) where
  -- before the first row nothing is drawn
  pub rows_none : (a : Area) (width height : ℕ) → canvas width height before ≡ canvas width height (drawn (in_rows a a.top) new before)
  rows_none a width height = canvas-same width height before (drawn (in_rows a a.top) new before)
      (λ x y _ _. let off = no_row a x y in rw off refl)

  -- one row more
  row_more : (top y j : ℕ) → top ≤ y → ((j == y) || is_within top (y - top) j) ≡ is_within top (y + 1 - top) j
  row_more top y j h =
      ⊎_elim
      (λ below.
      let off : (j == y) ≡ false = grind (arith, nat_tests) in
      let one : nat_lt j (top + (y - top)) ≡ true = grind (arith, nat_tests) in
      let two : nat_lt j (top + (y + 1 - top)) ≡ true = grind (arith, nat_tests) in
      rw (off, one, two) refl)
      (λ above. ⊎_elim
      (λ here.
      let on : (j == y) ≡ true = grind (arith, nat_tests) in
      let low : nat_le top j ≡ true = grind (arith, nat_tests) in
      let two : nat_lt j (top + (y + 1 - top)) ≡ true = grind (arith, nat_tests) in
      rw (on, low, two) refl)
      (λ behind.
      let off : (j == y) ≡ false = grind (arith, nat_tests) in
      let low : nat_le top j ≡ true = grind (arith, nat_tests) in
      let one : nat_lt j (top + (y - top)) ≡ false = grind (arith, nat_tests) in
      let two : nat_lt j (top + (y + 1 - top)) ≡ false = grind (arith, nat_tests) in
      rw (off, low, one, two) refl)
      (cases_lt j (y + 1)))
      (cases_lt j y)

  drawn_twice : (a b c : Bool) (n o : Colour) → cond (a && b) n (cond (a && c) n o) ≡ cond (a && (b || c)) n o
  drawn_twice true true c n o = refl
  drawn_twice true false c n o = refl
  drawn_twice false b c n o = refl

  pub rows_more : (a : Area) (width height y at n : ℕ) (bytes row : List ℕ) → FitsIn width height a → a.top ≤ y → y < a.top + a.height →
      at ≡ 3 * (y * width + a.left) → n ≡ 3 * a.width →
      bytes ≡ canvas width height (drawn (in_rows a y) new before) →
      row ≡ flat_map (λ x. channels (new x y)) (range_with_len a.left a.width) →
      put_mid at n bytes row ≡ canvas width height (drawn (in_rows a (y + 1)) new before)
  rows_more a width height y at n bytes row fits low high start size now made =
      let start' : at ≡ y * (width * 3) + a.left * 3 = omega (arith, start) in
      let size' : n ≡ a.width * 3 = omega (arith, size) in
      ap (λ (xs : List ℕ). put_mid at n xs row) now
      ∙ ap (put_mid at n (canvas width height (drawn (in_rows a y) new before))) made
      ∙ run_drawn new (drawn (in_rows a y) new before) a.left a.width y width height at n
      (omega (arith, high, fits.down)) fits.across start' size'
      ∙ canvas-same width height (drawn (in_run a.left a.width y) new (drawn (in_rows a y) new before))
      (drawn (in_rows a (y + 1)) new before) (λ i j _ _.
      drawn_twice (is_within a.left a.width i) (j == y) (is_within a.top (y - a.top) j) (new i j) (before i j)
      ∙ ap (λ (t : Bool). cond (is_within a.left a.width i && t) (new i j) (before i j)) (row_more a.top y j low))

  -- all rows are the columns of the rectangle
  pub rows_all : (a : Area) (width end : ℕ) → end ≡ a.height →
      canvas width a.height (drawn (in_rows (at_top a) end) new before) ≡ canvas width a.height (drawn (in_columns a) new before)
  rows_all a width end e = canvas-same width a.height (drawn (in_rows (at_top a) end) new before) (drawn (in_columns a) new before)
      (λ x y _ low.
      both (is_within a.left a.width x) (is_within 0 (end - 0) y) (new x y) (before x y)
      (inside_run 0 (end - 0) y (omega arith) (omega (arith, low, e))))
    where
      both : (b c : Bool) (n o : Colour) → c ≡ true → cond (b && c) n o ≡ cond b n o
      both true true n o e = refl
      both true false n o e = cc
      both false c n o e = refl

-- The whole frame

-- zeros are black
zeros : (f : ℕ → List ℕ) (size a n : ℕ) → ((k : ℕ) → f k ≡ replicate size 0) → flat_map f (range_with_len a n) ≡ replicate (n * size) 0
zeros f size a zero h = let none : 0 ≡ zero * size = omega arith in ap (λ (n : ℕ). replicate n 0) none
zeros f size a (suc n) h =
    let more : size + n * size ≡ suc n * size = omega arith in
    ap (λ (xs : List ℕ). xs ++ flat_map f (range_with_len (a + 1) n)) (h a)
    ∙ ap (λ (xs : List ℕ). replicate size 0 ++ xs) (zeros f size (a + 1) n h)
    ∙ replicate-append-replicate size (n * size) 0
    ∙ ap (λ (n : ℕ). replicate n 0) more

pub blank : (width height n : ℕ) → n ≡ 3 * width * height → replicate n 0 ≡ canvas width height (λ x y. black)
blank width height n e =
    let same : 3 * width * height ≡ height * (width * 3) = omega arith in
    ap (λ (n : ℕ). replicate n 0) (e ∙ same)
    ∙ sym (zeros (λ y. flat_map (λ x. channels black) (range_with_len 0 width)) (width * 3) 0 height
    (λ y. zeros (λ x. channels black) 3 0 width (λ x. refl)))

on_both : (a b : Bool) (n o : Colour) → a ≡ true → b ≡ true → cond (a && b) n o ≡ n
on_both a b n o e f = rw (e, f) refl

pub drawn_whole : (new before : ℕ → ℕ → Colour) (a : Area) (width height : ℕ) → a.left ≡ 0 → a.top ≡ 0 → a.width ≡ width →
    a.height ≡ height →
    canvas width height (drawn (is_in a) new before) ≡ canvas width height new
drawn_whole new before a width height left top wide high = canvas-same width height (drawn (is_in a) new before) new (λ x y h k.
    on_both (is_within a.left a.width x) (is_within a.top a.height y) (new x y) (before x y) (inside a.left a.width x width left wide h)
    (inside a.top a.height y height top high k))
  where
    inside : (start size at end : ℕ) → start ≡ 0 → size ≡ end → at < end → is_within start size at ≡ true
    inside start size at end e f h = grind (arith, nat_tests)

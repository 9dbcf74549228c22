-- Frames as functions of the place: a part of a row drawn anew.
use Rattle.std.proofs.Common.{◌≡◌, ◌<◌, ◌≤◌, ℕ, zero, suc, ◌+◌, ◌-◌, ◌*◌, Bool, true, false, ◌&&◌, ◌==◌, cond, List, ◌++◌, length, take}
use Rattle.std.proofs.Common.{drop, refl, sym, ap, subst, ◌∙◌, ◌⊎◌, inl, inr, append_assoc, arith}
use Rattle.std.specs.List.{flat_map, range_with_len}
use Rattle.std.proofs.lemmas.Bool.Decides.{nat_tests}
use Rattle.std.proofs.lemmas.List.{drop_at, length-append, length-take-le, take_at}
use borrow.Rule.Slice.PartMut.{put_mid}
use Rattle.kms_model.specs.declared.pictures.Colour.{Colour}
use Rattle.kms_model.specs.Frames.FrameBytes.{channels}
use Rattle.kms_compose.specs.Areas.{canvas, drawn}
use Rattle.kms_compose.specs.Parts.{is_within}

-- Lists made of a range

-- only the numbers of a range count
pub range_same : (f g : ℕ → List ℕ) (a n : ℕ) → ((k : ℕ) → a ≤ k → k < a + n → f k ≡ g k) → flat_map f (range_with_len a n)
    ≡ flat_map g (range_with_len a n)
range_same f g a zero h = refl
range_same f g a (suc n) h =
    ap (λ (xs : List ℕ). xs ++ flat_map f (range_with_len (a + 1) n)) (h a (omega arith) (omega arith))
    ∙ ap (λ (xs : List ℕ). g a ++ xs) (range_same f g (a + 1) n (λ k low below. h k (omega (arith, low)) (omega (arith, below))))

-- where a range begins does not count
pub range_moved : (f g : ℕ → List ℕ) (a b n : ℕ) → ((k i j : ℕ) → i ≡ a + k → j ≡ b + k → k < n → f i ≡ g j)
    → flat_map f (range_with_len a n) ≡ flat_map g (range_with_len b n)
range_moved f g a b zero h = refl
range_moved f g a b (suc n) h =
    ap (λ (xs : List ℕ). xs ++ flat_map f (range_with_len (a + 1) n)) (h 0 a b (omega arith) (omega arith) (omega arith))
    ∙ ap (λ (xs : List ℕ). g b ++ xs) (range_moved f g (a + 1) (b + 1) n
    (λ k i j e e' below. h (k + 1) i j (omega (arith, e)) (omega (arith, e')) (omega (arith, below))))

-- a range in two parts
pub range_split : (f : ℕ → List ℕ) (a m n j : ℕ) → a + m ≡ j → flat_map f (range_with_len a (m + n)) ≡ flat_map f (range_with_len a m)
    ++ flat_map f (range_with_len j n)
range_split f a zero n j e = ap (λ (k : ℕ). flat_map f (range_with_len k (zero + n))) (omega (arith, e)) ∙ ap
    (λ (k : ℕ). flat_map f (range_with_len j k)) (omega arith)
range_split f a (suc m) n j e =
    let more : suc m + n ≡ suc (m + n) = omega arith in
    ap (λ (k : ℕ). flat_map f (range_with_len a k)) more
    ∙ ap (λ (xs : List ℕ). f a ++ xs) (range_split f (a + 1) m n j (omega (arith, e)))
    ∙ sym (append_assoc (f a) (flat_map f (range_with_len (a + 1) m)) (flat_map f (range_with_len j n)))

-- lists of one length
pub range_length : (f : ℕ → List ℕ) (size a n : ℕ) → ((k : ℕ) → length (f k) ≡ size) → length (flat_map f (range_with_len a n)) ≡ n * size
range_length f size a zero h = omega arith
range_length f size a (suc n) h =
    let first = length-append (f a) (flat_map f (range_with_len (a + 1) n)) in
    let rest = range_length f size (a + 1) n h in
    let more : suc n * size ≡ size + n * size = omega arith in
    omega (arith, first, rest, h a, more)

-- A part of a list put in the place of another

pub put_between : (before middle behind new : List ℕ) (at n : ℕ) → length before ≡ at → length middle ≡ n
    → put_mid at n (before ++ (middle ++ behind)) new ≡ before ++ (new ++ behind)
put_between before middle behind new at n first count =
    let front = take_at before (middle ++ behind) at first in
    let back = drop_at before (middle ++ behind) at first in
    rw (front, back, drop_at middle behind n count) refl

joined : (a a' b b' m m' l l' d d' : List ℕ) → a ≡ a' → b ≡ b' → m ≡ m' → l ≡ l' → d ≡ d' → (a ++ b) ++ (m ++ (l ++ d)) ≡ (a' ++ b')
    ++ (m' ++ (l' ++ d'))
joined a a' b b' m m' l l' d d' e f g h i = rw (e, f, g, h, i) refl

-- what stands before the end of such a part
pub take-put_mid : (old run : List ℕ) (at n end : ℕ) → length run ≡ n → at + n ≤ length old → end ≡ at + n → take end (put_mid at n old run)
    ≡ take at old ++ run
take-put_mid old run at n end count fits is =
    let all = append_assoc (take at old) run (drop n (drop at old)) in
    let front = length-take-le at old (omega (arith, fits)) in
    let long : length (take at old ++ run) ≡ end = length-append (take at old) run ∙ omega (arith, front, count, is) in
    ap (take end) (sym all) ∙ take_at (take at old ++ run) (drop n (drop at old)) end long

-- Frames

abbrev pub row_of : ℕ → (ℕ → ℕ → Colour) → ℕ → List ℕ
row_of width colour y = flat_map (λ x. channels (colour x y)) (range_with_len 0 width)

pub row-length : (width : ℕ) (colour : ℕ → ℕ → Colour) (y : ℕ) → length (row_of width colour y) ≡ width * 3
row-length width colour y = range_length (λ x. channels (colour x y)) 3 0 width (λ k. refl)

pub canvas-length : (width height : ℕ) (colour : ℕ → ℕ → Colour) → length (canvas width height colour) ≡ height * (width * 3)
canvas-length width height colour = range_length (row_of width colour) (width * 3) 0 height (row-length width colour)

-- only the pixels of the mode count
pub canvas-same : (width height : ℕ) (c d : ℕ → ℕ → Colour) → ((x y : ℕ) → x < width → y < height → c x y ≡ d x y) → canvas width height c
    ≡ canvas width height d
canvas-same width height c d h =
    range_same (row_of width c) (row_of width d) 0 height (λ y _ low.
    range_same (λ x. channels (c x y)) (λ x. channels (d x y)) 0 width
    (λ x _ left. ap channels (h x y (omega (arith, left)) (omega (arith, low)))))

-- the first rows of a frame
canvas-rows : (width rows rest count : ℕ) (c : ℕ → ℕ → Colour) → count ≡ 3 * width * rows → take count (canvas width (rows + rest) c)
    ≡ canvas width rows c
canvas-rows width rows rest count c size =
    let long : rows * (width * 3) ≡ count = omega (arith, size) in
    ap (take count) (range_split (row_of width c) 0 rows rest rows (omega arith))
    ∙ take_at (canvas width rows c) (flat_map (row_of width c) (range_with_len rows rest)) count (canvas-length width rows c ∙ long)

-- are the same where their pixels are
pub canvas-front : (width height rows count : ℕ) (c d : ℕ → ℕ → Colour) → rows ≤ height → count ≡ 3 * width * rows
    → ((x y : ℕ) → y < rows → c x y ≡ d x y) →
    take count (canvas width height c) ≡ take count (canvas width height d)
canvas-front width height rows count c d low size same =
    let whole : rows + (height - rows) ≡ height = omega (arith, low) in
    subst (λ (h : ℕ). take count (canvas width h c) ≡ take count (canvas width h d)) whole
    (canvas-rows width rows (height - rows) count c size
    ∙ canvas-same width rows c d (λ x y _ above. same x y above)
    ∙ sym (canvas-rows width rows (height - rows) count d size))

-- some pixels of a row, from one on
abbrev pub in_run : ℕ → ℕ → ℕ → ℕ → ℕ → Bool
in_run left count row x y = is_within left count x && (y == row)

beside : (y row : ℕ) → (y < row) ⊎ (row < y) → (y == row) ≡ false
beside y row (inl h) = grind (arith, nat_tests)
beside y row (inr h) = grind (arith, nat_tests)

pub before_run : (left count x : ℕ) → x < left → is_within left count x ≡ false
before_run left count x h = grind (arith, nat_tests)

pub behind_run : (left count x : ℕ) → left + count ≤ x → is_within left count x ≡ false
behind_run left count x h = grind (arith, nat_tests)

pub inside_run : (left count x : ℕ) → left ≤ x → x < left + count → is_within left count x ≡ true
inside_run left count x h k = grind (arith, nat_tests)

here : (row : ℕ) → (row == row) ≡ true
here row = grind (arith, nat_tests)

-- colours are the same before, within and behind a part of a row that is drawn anew
module _ (new old : ℕ → ℕ → Colour) (left count row : ℕ) where
  abbrev now : ℕ → ℕ → Colour
  now = drawn (in_run left count row) new old

  off_row : (x y : ℕ) → (y == row) ≡ false → now x y ≡ old x y
  off_row x y off = off_both (is_within left count x) (y == row) off
    where
      off_both : (b r : Bool) → r ≡ false → cond (b && r) (new x y) (old x y) ≡ old x y
      off_both true false e = refl
      off_both true true e = cc
      off_both false r e = refl

  off_run : (x : ℕ) → is_within left count x ≡ false → now x row ≡ old x row
  off_run x off = rw off refl

  on_run : (x : ℕ) → is_within left count x ≡ true → now x row ≡ new x row
  on_run x on = rw (on, here row) refl

  abbrev pixels : (ℕ → ℕ → Colour) → ℕ → List ℕ
  pixels c x = channels (c x row)

  abbrev run : List ℕ
  run = flat_map (pixels new) (range_with_len left count)

  module _ (more rest : ℕ) where
    abbrev wide : ℕ
    wide = left + (count + more)

    -- what stands before, within and behind the part, in its row
    abbrev first : (ℕ → ℕ → Colour) → List ℕ
    first c = flat_map (pixels c) (range_with_len 0 left)

    abbrev middle : (ℕ → ℕ → Colour) → List ℕ
    middle c = flat_map (pixels c) (range_with_len left count)

    abbrev last : (ℕ → ℕ → Colour) → List ℕ
    last c = flat_map (pixels c) (range_with_len (left + count) more)

    row_parts : (c : ℕ → ℕ → Colour) → row_of wide c row ≡ first c ++ (middle c ++ last c)
    row_parts c =
        range_split (pixels c) 0 left (count + more) left (omega arith)
        ∙ ap (λ (xs : List ℕ). first c ++ xs) (range_split (pixels c) left count more (left + count) refl)

    first_same : first now ≡ first old
    first_same = range_same (pixels now) (pixels old) 0 left
        (λ x _ below. ap channels (off_run x (before_run left count x (omega (arith, below)))))

    middle_new : middle now ≡ run
    middle_new = range_same (pixels now) (pixels new) left count (λ x low below. ap channels (on_run x (inside_run left count x low below)))

    last_same : last now ≡ last old
    last_same = range_same (pixels now) (pixels old) (left + count) more (λ x low _. ap channels (off_run x (behind_run left count x low)))

    -- the rows above and below
    abbrev above : (ℕ → ℕ → Colour) → List ℕ
    above c = flat_map (row_of wide c) (range_with_len 0 row)

    abbrev below : (ℕ → ℕ → Colour) → List ℕ
    below c = flat_map (row_of wide c) (range_with_len (row + 1) rest)

    same_row : (y : ℕ) → (y == row) ≡ false → row_of wide now y ≡ row_of wide old y
    same_row y off = range_same (λ x. channels (now x y)) (λ x. channels (old x y)) 0 wide (λ x _ _. ap channels (off_row x y off))

    above_same : above now ≡ above old
    above_same = range_same (row_of wide now) (row_of wide old) 0 row (λ y _ low. same_row y (beside y row (inl (omega (arith, low)))))

    below_same : below now ≡ below old
    below_same = range_same (row_of wide now) (row_of wide old) (row + 1) rest
        (λ y low _. same_row y (beside y row (inr (omega (arith, low)))))

    canvas_parts : (c : ℕ → ℕ → Colour) → canvas wide (row + suc rest) c ≡ (above c ++ first c) ++ (middle c ++ (last c ++ below c))
    canvas_parts c =
        range_split (row_of wide c) 0 row (suc rest) row (omega arith)
        ∙ ap (λ (xs : List ℕ). above c ++ (xs ++ below c)) (row_parts c)
        ∙ simp append_assoc

    drawn_parts : (at n : ℕ) → at ≡ row * (wide * 3) + left * 3 → n ≡ count * 3 →
        put_mid at n (canvas wide (row + suc rest) old) run ≡ canvas wide (row + suc rest) now
    drawn_parts at n start size =
        let high = range_length (row_of wide old) (wide * 3) 0 row (row-length wide old) in
        let long = range_length (pixels old) 3 0 left (λ k. refl) in
        let front : length (above old ++ first old) ≡ at = length-append (above old) (first old) ∙ omega (arith, high, long, start) in
        let part : length (middle old) ≡ n = range_length (pixels old) 3 left count (λ k. refl) ∙ sym size in
        ap (λ (xs : List ℕ). put_mid at n xs run) (canvas_parts old)
        ∙ put_between (above old ++ first old) (middle old) (last old ++ below old) run at n front part
        ∙ joined _ _ _ _ _ _ _ _ _ _ (sym above_same) (sym first_same) (sym middle_new) (sym last_same) (sym below_same)
        ∙ sym (canvas_parts now)

  -- a frame with a part of a row drawn anew
  pub run_drawn : (width height at n : ℕ) → row < height → left + count ≤ width → at ≡ row * (width * 3) + left * 3 → n ≡ count * 3 →
      put_mid at n (canvas width height old) run ≡ canvas width height now
  run_drawn width height at n low fits start size =
      let wide : left + (count + (width - (left + count))) ≡ width = omega (arith, fits) in
      let high : row + suc (height - (row + 1)) ≡ height = omega (arith, low) in
      subst (λ (w : ℕ). at ≡ row * (w * 3) + left * 3 → put_mid at n (canvas w height old) run ≡ canvas w height now) wide
      (λ there. subst (λ (h : ℕ). put_mid at n (canvas (left + (count + (width - (left + count)))) h old) run
      ≡ canvas (left + (count + (width - (left + count)))) h now) high
      (drawn_parts (width - (left + count)) (height - (row + 1)) at n there size))
      start

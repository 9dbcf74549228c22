-- Two lists of layers, put beside one another from the lowest: what is left of both, and those that are in one alone.
use Rattle.std.proofs.Common.{◌≡◌, ◌<◌, ℕ, zero, suc, ◌+◌, ◌-◌, Bool, true, false, ◌||◌, List, [], ◌∷◌, ◌++◌, take, drop, length}
use Rattle.std.proofs.Common.{slice_index_or, Option, refl, sym, ap, ◌∙◌, arith}
use Rattle.std.specs.Prelude.{All}
use Rattle.std.proofs.lemmas.Bool.{or_parts}
use Rattle.std.proofs.lemmas.List.{at_drop_more, length-drop, take_all, take_more}
use Rattle.std.proofs.lemmas.List.Elements.{All-append, All-drop, All-push}
use Rattle.kms_model.specs.declared.objects.Mode.{Mode}
use Rattle.kms_model.specs.declared.pictures.Colour.{Colour}
use Rattle.kms_model.specs.declared.pictures.Layer.{Layer}
use Rattle.kms_model.specs.Frames.FrameBytes.{composed, is_covered, layer_colour, mixed}
use Rattle.kms_model.specs.Frames.Images.{FitsMode}
use Rattle.kms_compose.specs.Changes.{DifferIn, Lists, covered_by}

or_grouped : (a b c : Bool) → (a || (b || c)) ≡ ((a || b) || c)
or_grouped true b c = refl
or_grouped false b c = refl

pub covered_by-append : (ls more : List Layer) (x y : ℕ) → covered_by (ls ++ more) x y ≡ (covered_by ls x y || covered_by more x y)
covered_by-append [] more x y = refl
covered_by-append (l ∷ ls) more x y =
    ap (λ (b : Bool). is_covered l.visible x y || b) (covered_by-append ls more x y)
    ∙ or_grouped (is_covered l.visible x y) (covered_by ls x y) (covered_by more x y)

-- where a layer of a list covers a pixel, the list does
pub covered_at : (ls : List Layer) (i : ℕ) (d : Layer) (x y : ℕ) → i < length ls → is_covered (slice_index_or ls i d).visible x y ≡ true
    → covered_by ls x y ≡ true
covered_at [] i d x y below on = absurd (omega (arith, below))
covered_at (l ∷ ls) zero d x y below on = rw on refl
covered_at (l ∷ ls) (suc i) d x y below on = behind (is_covered l.visible x y) (covered_by ls x y)
    (covered_at ls i d x y (omega (arith, below)) on)
  where
    behind : (a b : Bool) → b ≡ true → (a || b) ≡ true
    behind true b e = refl
    behind false b e = e

-- Layers that are listed

one_fits : (m : Mode) (l : Layer) → FitsMode m l → All (FitsMode m) (l ∷ [])
one_fits m l fits = All-push (FitsMode m) [] l (λ k d below. absurd (omega (arith, below))) fits

-- a layer behind the others
pub listed_last : (old : List Layer) (l : Layer) → Lists old (l ∷ []) (old ++ l ∷ [])
listed_last old l = record {
  covers = λ x y. covered_by-append old (l ∷ []) x y;
  fit = λ m olds one. All-append (FitsMode m) old (l ∷ []) olds one;
}

-- a layer that covers nothing which those that are listed do not
pub listed_already : (old : List Layer) (l : Layer) → ((x y : ℕ) → is_covered l.visible x y ≡ true → covered_by old x y ≡ true)
    → Lists old (l ∷ []) old
listed_already old l there = record {
  covers = λ x y. both (is_covered l.visible x y) (covered_by old x y) (there x y);
  fit = λ m olds one. olds;
}
  where
    both : (a b : Bool) → (a ≡ true → b ≡ true) → b ≡ (b || (a || false))
    both a true h = refl
    both true false h = h refl
    both false false h = refl

-- no layer more
pub lists_none : (old : List Layer) → Lists old [] old
lists_none old = record { covers = λ x y. unchanged (covered_by old x y); fit = λ m olds none. olds }
  where
    unchanged : (b : Bool) → b ≡ (b || false)
    unchanged true = refl
    unchanged false = refl

-- one layer more
pub lists_more : (old ls between new : List Layer) (i : ℕ) (d : Layer) → i < length ls → Lists old (take i ls) between
    → Lists between (slice_index_or ls i d ∷ []) new → Lists old (take (i + 1) ls) new
lists_more old ls between new i d below before one = rw (take_more ls i d below) record {
  covers = λ x y.
      one.covers x y
      ∙ ap (λ (b : Bool). b || covered_by (slice_index_or ls i d ∷ []) x y) (before.covers x y)
      ∙ sym (or_grouped (covered_by old x y) (covered_by (take i ls) x y) (covered_by (slice_index_or ls i d ∷ []) x y))
      ∙ ap (λ (b : Bool). covered_by old x y || b) (sym (covered_by-append (take i ls) (slice_index_or ls i d ∷ []) x y));
  fit = λ m olds all.
      let parts = front_and_last m (take i ls) (slice_index_or ls i d) all in
      one.fit m (before.fit m olds parts.0) parts.1;
}
  where
    front_and_last : (m : Mode) (front : List Layer) (l : Layer) → All (FitsMode m) (front ++ l ∷ []) → All (FitsMode m) front
        × All (FitsMode m) (l ∷ [])
    front_and_last m [] l all = ((λ k d below. absurd (omega (arith, below))), all)
    front_and_last m (f ∷ front) l all =
        let rest = front_and_last m front l (λ k d below. all (suc k) d (omega (arith, below))) in
        (cons m f front (all zero f (omega arith)) rest.0, rest.1)
      where
        cons : (m : Mode) (f : Layer) (front : List Layer) → FitsMode m f → All (FitsMode m) front → All (FitsMode m) (f ∷ front)
        cons m f front first rest zero d below = first
        cons m f front first rest (suc k) d below = rest k d (omega (arith, below))

-- where the layers that are listed cover nothing, neither did the others
off_parts : (old more new : List Layer) (x y : ℕ) → Lists old more new → covered_by new x y ≡ false → (covered_by old x y ≡ false)
    × (covered_by more x y ≡ false)
off_parts old more new x y lists off = or_parts (covered_by old x y) (covered_by more x y) (sym (lists.covers x y) ∙ off)

-- a layer changes nothing where it covers nothing
uncovered : (words : ℕ → ℕ → ℕ → Option ℕ) (x y : ℕ) (under : Colour) (l : Layer) → is_covered l.visible x y ≡ false
    → mixed l under (layer_colour words x y l) ≡ under
uncovered words x y under l off = rw off refl

-- nor do all layers where none does
none_of : (words : ℕ → ℕ → ℕ → Option ℕ) (x y : ℕ) (under : Colour) (ls : List Layer) → covered_by ls x y ≡ false
    → composed words x y under ls ≡ under
none_of words x y under [] off = refl
none_of words x y under (l ∷ ls) off =
    let parts = or_parts (is_covered l.visible x y) (covered_by ls x y) off in
    ap (λ (u : Colour). composed words x y u ls) (uncovered words x y under l parts.0) ∙ none_of words x y under ls parts.1

-- what is left of both lists decides whether they agree where no layer covers that is in one alone
pub record IsApart (old new changed : List Layer) (left came : ℕ) : Type 0 where
  pub agree : (words : ℕ → ℕ → ℕ → Option ℕ) (x y : ℕ) (under : Colour) → covered_by changed x y ≡ false
      → ((u : Colour) → composed words x y u (drop left old) ≡ composed words x y u (drop came new))
      → composed words x y under old ≡ composed words x y under new
  pub fit : (m : Mode) → All (FitsMode m) old → All (FitsMode m) new → All (FitsMode m) changed

-- the first layer of a rest
first_of : (words : ℕ → ℕ → ℕ → Option ℕ) (x y : ℕ) (u : Colour) (ls : List Layer) (i : ℕ) (d : Layer) → i < length ls →
    composed words x y u (drop i ls) ≡ composed words x y (mixed (slice_index_or ls i d) u (layer_colour words x y (slice_index_or ls i d)))
    (drop (i + 1) ls)
first_of words x y u ls i d below = at_drop_more (composed words x y u) ls i d below

-- which covers nothing
skipped : (words : ℕ → ℕ → ℕ → Option ℕ) (x y : ℕ) (u : Colour) (ls : List Layer) (i : ℕ) (d : Layer) → i < length ls
    → is_covered (slice_index_or ls i d).visible x y ≡ false →
    composed words x y u (drop i ls) ≡ composed words x y u (drop (i + 1) ls)
skipped words x y u ls i d below off =
    first_of words x y u ls i d below ∙ ap (λ (c : Colour). composed words x y c (drop (i + 1) ls))
    (uncovered words x y u (slice_index_or ls i d) off)

rest_whole : (ls : List Layer) (n : ℕ) → take (length ls - n) (drop n ls) ≡ drop n ls
rest_whole ls n = take_all (length ls - n) (drop n ls) (omega (arith, length-drop n ls))

module _ (old new changed : List Layer) (left came : ℕ) (a : IsApart old new changed left came) where
  -- both rests begin with one layer
  pub same_more : (d : Layer) → left < length old → came < length new → slice_index_or old left d ≡ slice_index_or new came d
      → IsApart old new changed (left + 1) (came + 1)
  same_more d low below same = record {
    agree = λ words x y under off rest. a.agree words x y under off (λ u.
        first_of words x y u old left d low
        ∙ ap (λ (l : Layer). composed words x y (mixed l u (layer_colour words x y l)) (drop (left + 1) old)) same
        ∙ rest (mixed (slice_index_or new came d) u (layer_colour words x y (slice_index_or new came d)))
        ∙ sym (first_of words x y u new came d below));
    fit = a.fit;
  }

  -- the first layer of the new rest came
  pub came_more : (all : List Layer) (d : Layer) → came < length new → Lists changed (slice_index_or new came d ∷ []) all
      → IsApart old new all left (came + 1)
  came_more all d below lists = record {
    agree = λ words x y under off rest.
        let parts = off_parts changed (slice_index_or new came d ∷ []) all x y lists off in
        let own = (or_parts (is_covered (slice_index_or new came d).visible x y) false parts.1).0 in
        a.agree words x y under parts.0 (λ u. rest u ∙ sym (skipped words x y u new came d below own));
    fit = λ m was is. lists.fit m (a.fit m was is) (one_fits m (slice_index_or new came d) (is came d below));
  }

  -- the first layer of the old rest left
  pub left_more : (all : List Layer) (d : Layer) → left < length old → Lists changed (slice_index_or old left d ∷ []) all
      → IsApart old new all (left + 1) came
  left_more all d low lists = record {
    agree = λ words x y under off rest.
        let parts = off_parts changed (slice_index_or old left d ∷ []) all x y lists off in
        let own = (or_parts (is_covered (slice_index_or old left d).visible x y) false parts.1).0 in
        a.agree words x y under parts.0 (λ u. skipped words x y u old left d low own ∙ rest u);
    fit = λ m was is. lists.fit m (a.fit m was is) (one_fits m (slice_index_or old left d) (was left d low));
  }

  -- both rests left or came
  pub rests_listed : (between all : List Layer) → Lists changed (take (length old - left) (drop left old)) between
      → Lists between (take (length new - came) (drop came new)) all → DifferIn all old new
  rests_listed between all first second = record {
    agree = λ words x y under off.
        let parts = off_parts between (take (length new - came) (drop came new)) all x y second off in
        let before = off_parts changed (take (length old - left) (drop left old)) between x y first parts.0 in
        let gone = ap (λ (ls : List Layer). covered_by ls x y) (sym (rest_whole old left)) ∙ before.1 in
        let there = ap (λ (ls : List Layer). covered_by ls x y) (sym (rest_whole new came)) ∙ parts.1 in
        a.agree words x y under before.0 (λ u. none_of words x y u (drop left old) gone ∙ sym (none_of words x y u (drop came new) there));
    fit = λ m was is.
        second.fit m
        (first.fit m (a.fit m was is) (rw (rest_whole old left) (All-drop (FitsMode m) left old was)))
        (rw (rest_whole new came) (All-drop (FitsMode m) came new is));
  }

pub apart_first : (old new : List Layer) → IsApart old new [] 0 0
apart_first old new = record { agree = λ words x y under off rest. rest under; fit = λ m was is k d below. absurd (omega arith) }

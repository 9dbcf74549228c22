-- How far what a CRTC shows agrees with its L lines: the first line that is not met, and whether all is told.
use Rattle.std.proofs.Common.{◌≡◌, ℕ, zero, suc, ◌+◌, ◌<◌, ◌≤◌, Bool, true, false, List, [], ◌∷◌, ◌++◌, length, drop, Option, Some, None}
use Rattle.std.proofs.Common.{refl, sym, ap, ◌∙◌, arith}
use Rattle.std.proofs.lemmas.Bool.{and_right, cond-false, cond-true, eqb-false, eqb-true, le-ltb, lt-ltb, ne_eqb, not_from_false, or_left}
use Rattle.std.proofs.lemmas.Bool.Decides.{nat_tests}
use Rattle.std.proofs.lemmas.List.FromFn.{map-range_with_len_more}
use Rattle.std.proofs.lemmas.Option.{slice_get_past}
use Rattle.std.specs.Prelude.{◌&&◌, ◌||◌, ◌==◌, map, nat_le, nat_lt, not, option_map, slice_get, if◌then◌else◌}
use Rattle.std.specs.List.{list_all, position, range_with_len}
use Rattle.std.specs.Option.{option_map_or}
use Rattle.kms_audit.proofs.Apart.{and_true}
use Rattle.kms_audit.proofs.Firsts.{earliest-assoc, earliest-none, off-both, off-fail, off-pass, off-rest, off-same}
use Rattle.kms_told.proofs.Items.{position-cons}
use Rattle.kms_audit.specs.declared.latches.Track.{Track}
use Rattle.kms_audit.specs.Latching.{LatchFields, first_of_all, first_unmet, line_from, line_tells, no_track, track_of, track_on}
use Rattle.kms_audit.specs.Latching.{track_with, unmet}
use Rattle.kms_audit.specs.Sections.{earliest, is_pictured, tells_picture}
use Rattle.kms_model.specs.declared.objects.Kind.TheVariants.{Crtc}
use Rattle.kms_model.specs.declared.reports.Report.{Report}
use Rattle.kms_model.specs.declared.scripts.Script.{Script}
use Rattle.kms_model.specs.Device.Objects.{object_id}
use Rattle.kms_model.specs.Device.Serial.{Pictured, show}
use Rattle.kms_model.specs.Report.Right.{LatchLine, latch_from, latches_in, lines_of_crtc, number_at}
use Rattle.kms_model.specs.Report.RightAnswers.{entries_in, first_off}

-- Lists

pub drop_none : {A : Type 0} (xs : List A) (m : ℕ) → drop m xs ≡ [] → length xs ≤ m
drop_none [] m d = omega arith
drop_none (x ∷ xs) zero d = absurd cc
drop_none (x ∷ xs) (suc m) d = omega (arith, drop_none xs m d)

pub drop_get : {A : Type 0} (xs : List A) (m : ℕ) (x : A) (rest : List A) → drop m xs ≡ x ∷ rest → slice_get xs m ≡ Some x
drop_get [] zero x rest d = absurd cc
drop_get [] (suc m) x rest d = absurd cc
drop_get (y ∷ ys) zero x rest d = let same : y ≡ x = cc in ap Some same
drop_get (y ∷ ys) (suc m) x rest d = drop_get ys m x rest d

drop_next : {A : Type 0} (xs : List A) (m : ℕ) (x : A) (rest : List A) → drop m xs ≡ x ∷ rest → drop (suc m) xs ≡ rest
drop_next [] zero x rest d = absurd cc
drop_next [] (suc m) x rest d = absurd cc
drop_next (y ∷ ys) zero x rest d = let same : ys ≡ rest = cc in same
drop_next (y ∷ ys) (suc m) x rest d = drop_next ys m x rest d

pub drop_more_is : {A : Type 0} (xs : List A) (m : ℕ) (x : A) (rest : List A) → drop m xs ≡ x ∷ rest → drop (m + 1) xs ≡ rest
drop_more_is xs m x rest d = let next : m + 1 ≡ suc m = omega arith in ap (λ n. drop n xs) next ∙ drop_next xs m x rest d

drop_within : {A : Type 0} (xs : List A) (m : ℕ) (x : A) (rest : List A) → drop m xs ≡ x ∷ rest → m < length xs
drop_within [] zero x rest d = absurd cc
drop_within [] (suc m) x rest d = absurd cc
drop_within (y ∷ ys) zero x rest d = omega arith
drop_within (y ∷ ys) (suc m) x rest d = omega (arith, drop_within ys m x rest d)

-- Lines of a CRTC

pub counted-cons : (crtc : ℕ) (l : LatchLine) (lines : List LatchLine) (b : Bool) → (l.crtc == crtc) ≡ b
    → length (lines_of_crtc crtc (l ∷ lines)) ≡ (if b then suc (length (lines_of_crtc crtc lines)) else length (lines_of_crtc crtc lines))
counted-cons crtc l lines true e = ap length (cond-true (l.crtc == crtc) (l ∷ lines_of_crtc crtc lines) (lines_of_crtc crtc lines) e)
counted-cons crtc l lines false e = ap length (cond-false (l.crtc == crtc) (l ∷ lines_of_crtc crtc lines) (lines_of_crtc crtc lines) e)

-- one more line
counted-push : (crtc : ℕ) (before : List LatchLine) (l : LatchLine) (b : Bool) → (l.crtc == crtc) ≡ b
    → length (lines_of_crtc crtc (before ++ l ∷ [])) ≡ (if b then length (lines_of_crtc crtc before) + 1 else length
    (lines_of_crtc crtc before))
counted-push crtc [] l true e = counted-cons crtc l [] true e
counted-push crtc [] l false e = counted-cons crtc l [] false e
counted-push crtc (x ∷ xs) l b e = pushed (x.crtc == crtc) b refl (counted-push crtc xs l b e) where
  pushed : (own last : Bool) → (x.crtc == crtc) ≡ own
      → length (lines_of_crtc crtc (xs ++ l ∷ [])) ≡ (if last then length (lines_of_crtc crtc xs) + 1 else length (lines_of_crtc crtc xs))
      → length (lines_of_crtc crtc (x ∷ (xs ++ l ∷ []))) ≡ (if last then length (lines_of_crtc crtc (x ∷ xs)) + 1 else length
      (lines_of_crtc crtc (x ∷ xs)))
  pushed true true o ih = omega (arith, ih, counted-cons crtc x (xs ++ l ∷ []) true o, counted-cons crtc x xs true o)
  pushed true false o ih = omega (arith, ih, counted-cons crtc x (xs ++ l ∷ []) true o, counted-cons crtc x xs true o)
  pushed false true o ih = omega (arith, ih, counted-cons crtc x (xs ++ l ∷ []) false o, counted-cons crtc x xs false o)
  pushed false false o ih = omega (arith, ih, counted-cons crtc x (xs ++ l ∷ []) false o, counted-cons crtc x xs false o)

-- a line of a CRTC tells of the picture of its number
abbrev pub is_met : ℕ → List Pictured → List LatchLine → LatchLine → Bool
is_met crtc shown before l = not (l.crtc == crtc) || tells_picture l (slice_get shown (length (lines_of_crtc crtc before)))

-- Tracks

module _ (lines : List LatchFields) (crtc : ℕ) (shown : List Pictured) where
  abbrev at : ℕ → List LatchFields → ℕ
  at m rest = option_map_or (λ p. m + p) (position (λ l. l.0 == crtc) rest) (length lines)

  abbrev track_at : ℕ → Bool → Track
  track_at line agrees = record { line = line; agrees = agrees }

  abbrev followed : Track → List Pictured → Track
  followed t ps = track_of lines crtc t ps

  pub apart : (ps : List Pictured) (m : ℕ) → followed (track_at m false) ps ≡ track_at m false
  unfolding track_of
  apart [] m = refl
  apart (p ∷ ps) m = apart ps m

  -- behind the last line
  ended_with : (p : Pictured) (b : Bool) → track_with lines crtc p (track_at (length lines) b) ≡ track_at (length lines) false
  ended_with p b =
      ap (λ o. if b && line_tells o p then track_at (line_from lines crtc (length lines + 1)) true else track_at (length lines) false)
      (slice_get_past lines (length lines) (omega arith))
      ∙ cond-false (b && false) (track_at (line_from lines crtc (length lines + 1)) true)
      (track_at (length lines) false) (and_right b false refl)

  unmet_past : (b : Bool) → unmet (length lines) (track_at (length lines) b) ≡ None
  unmet_past b = cond-false (nat_lt (length lines) (length lines)) (Some (length lines)) None
      (le-ltb (length lines) (length lines) (omega arith))

  unmet_at : (m : ℕ) (b : Bool) → m < length lines → unmet (length lines) (track_at m b) ≡ Some m
  unmet_at m b within = cond-true (nat_lt m (length lines)) (Some m) None (lt-ltb m (length lines) within)

  ended : (ps : List Pictured) (b : Bool) → unmet (length lines) (followed (track_at (length lines) b) ps) ≡ None
  unfolding track_of
  ended [] b = unmet_past b
  ended (p ∷ ps) b = ap (λ t. unmet (length lines) (followed t ps)) (ended_with p b) ∙ ended ps false

  ended_agrees : (ps : List Pictured) → (followed (track_at (length lines) true) ps).agrees ≡ (0 == length ps)
  unfolding track_of
  ended_agrees [] = refl
  ended_agrees (p ∷ ps) =
      ap (λ t. (followed t ps).agrees) (ended_with p true)
      ∙ (ap (λ (t : Track). t.agrees) (apart ps (length lines)) ∙ sym (ne_eqb 0 (length (p ∷ ps)) (λ e. omega arith)))

  -- one line
  pub at_other : (m : ℕ) (l : LatchFields) (rest : List LatchFields) → (l.0 == crtc) ≡ false → at m (l ∷ rest) ≡ at (m + 1) rest
  at_other m l rest e =
      ap (λ o. option_map_or (λ p. m + p) o (length lines))
      (position-cons (λ x. x.0 == crtc) l rest
      ∙ cond-false (l.0 == crtc) (Some 0) (option_map (λ place. place + 1) (position (λ x. x.0 == crtc) rest)) e)
      ∙ later (position (λ x. x.0 == crtc) rest) where
        later : (o : Option ℕ) → option_map_or (λ p. m + p) (option_map (λ place. place + 1) o) (length lines) ≡ option_map_or
            (λ p. m + 1 + p) o (length lines)
        later None = refl
        later (Some k) = omega arith

  pub at_own : (m : ℕ) (l : LatchFields) (rest : List LatchFields) → (l.0 == crtc) ≡ true → at m (l ∷ rest) ≡ m
  at_own m l rest e =
      ap (λ o. option_map_or (λ p. m + p) o (length lines))
      (position-cons (λ x. x.0 == crtc) l rest
      ∙ cond-true (l.0 == crtc) (Some 0) (option_map (λ place. place + 1) (position (λ x. x.0 == crtc) rest)) e)
      ∙ here where
        here : m + 0 ≡ m
        here = omega arith

  -- What the lines from a place on come to, behind some lines, with pictures that are left
  record Follows (rest : List LatchFields) (m : ℕ) (before : List LatchLine) (ps : List Pictured) : Type 0 where
    unmet_is : unmet (length lines) (followed (track_at (at m rest) true) ps) ≡ number_at m
        (first_off (is_met crtc shown) before (map latch_from rest))
    agrees_is : first_off (is_met crtc shown) before (map latch_from rest) ≡ None
        → (followed (track_at (at m rest) true) ps).agrees ≡ (length (lines_of_crtc crtc (map latch_from rest)) == length ps)

  -- what follows behind a line, whatever was before
  abbrev FollowBehind : List LatchFields → ℕ → Type 0
  FollowBehind rest m = (before : List LatchLine) (n : ℕ) (ps : List Pictured) → length (lines_of_crtc crtc before) ≡ n → drop n shown ≡ ps
      → Follows rest m before ps

  module _ (l : LatchFields) (rest : List LatchFields) (m : ℕ) (before : List LatchLine) (n : ℕ) (is : drop m lines ≡ l ∷ rest)
      (count : length (lines_of_crtc crtc before) ≡ n) (behind : FollowBehind rest (m + 1)) where
    other_line : (l.0 == crtc) ≡ false → (ps : List Pictured) → drop n shown ≡ ps → Follows (l ∷ rest) m before ps
    other_line e ps left =
        let f = behind (before ++ latch_from l ∷ []) n ps (counted-push crtc before (latch_from l) false e ∙ count) left in
        let met = or_left (not (l.0 == crtc)) (tells_picture (latch_from l) (slice_get shown (length (lines_of_crtc crtc before))))
        (not_from_false (l.0 == crtc) e) in
        let there = at_other m l rest e in
        record {
          unmet_is =
              ap (λ k. unmet (length lines) (followed (track_at k true) ps)) there
              ∙ (f.unmet_is ∙ off-pass (is_met crtc shown) before (latch_from l) (map latch_from rest) m met);
          agrees_is = λ none.
              ap (λ k. (followed (track_at k true) ps).agrees) there
              ∙ (f.agrees_is (off-rest (is_met crtc shown) before (latch_from l) (map latch_from rest) none)
              ∙ ap (λ k. k == length ps) (sym (counted-cons crtc (latch_from l) (map latch_from rest) false e)));
        }

    -- a line of the CRTC that is not met
    unmet_line : (ps : List Pictured) → unmet (length lines) (followed (track_at (at m (l ∷ rest)) true) ps) ≡ Some m
        → is_met crtc shown before (latch_from l) ≡ false → Follows (l ∷ rest) m before ps
    unmet_line ps first fails =
        let off = off-fail (is_met crtc shown) before (latch_from l) (map latch_from rest) m fails in
        record {
          unmet_is = first ∙ sym off;
          agrees_is = λ none. (let no : None ≡ Some m = sym (ap (number_at m) none) ∙ off in absurd cc);
        }

    own_met : (l.0 == crtc) ≡ true → (o : Option Pictured) → slice_get shown n ≡ o
        → is_met crtc shown before (latch_from l) ≡ tells_picture (latch_from l) o
    own_met e o g =
        ap (λ b. not b || tells_picture (latch_from l) (slice_get shown (length (lines_of_crtc crtc before)))) e
        ∙ (ap (λ k. tells_picture (latch_from l) (slice_get shown k)) count ∙ ap (tells_picture (latch_from l)) g)

    own_line : (l.0 == crtc) ≡ true → (ps : List Pictured) → drop n shown ≡ ps → Follows (l ∷ rest) m before ps
    unfolding track_of
    own_line e [] left =
        unmet_line [] (ap (λ k. unmet (length lines) (track_at k true)) (at_own m l rest e)
        ∙ unmet_at m true (drop_within lines m l rest is))
        (own_met e None (slice_get_past shown n (drop_none shown n left)))
    own_line e (p ∷ ps) left = by_tells (tells_picture (latch_from l) (Some p)) refl where
      met : is_met crtc shown before (latch_from l) ≡ tells_picture (latch_from l) (Some p)
      met = own_met e (Some p) (drop_get shown n p ps left)

      -- the track behind the picture
      behind_it : (b : Bool) → tells_picture (latch_from l) (Some p) ≡ b
          → track_with lines crtc p (track_at (at m (l ∷ rest)) true) ≡ (if b then track_at
          (line_from lines crtc (m + 1)) true else track_at m false)
      behind_it b t =
          ap (λ k. track_with lines crtc p (track_at k true)) (at_own m l rest e)
          ∙ (ap (λ o. if line_tells o p then track_at (line_from lines crtc (m + 1)) true else track_at m false)
          (drop_get lines m l rest is)
          ∙ ap (λ c. if c then track_at (line_from lines crtc (m + 1)) true else track_at m false) t)

      by_tells : (b : Bool) → tells_picture (latch_from l) (Some p) ≡ b → Follows (l ∷ rest) m before (p ∷ ps)
      by_tells false t =
          unmet_line (p ∷ ps)
          (ap (λ x. unmet (length lines) (followed x ps)) (behind_it false t)
          ∙ (ap (unmet (length lines)) (apart ps m) ∙ unmet_at m false (drop_within lines m l rest is)))
          (met ∙ t)
      by_tells true t =
          let f = behind (before ++ latch_from l ∷ []) (n + 1) ps (counted-push crtc before (latch_from l) true e ∙ ap (λ k. k + 1) count)
          (drop_more_is shown n p ps left) in
          let there : line_from lines crtc (m + 1) ≡ at (m + 1) rest =
          ap (λ xs. option_map_or (λ k. m + 1 + k) (position (λ x. x.0 == crtc) xs) (length lines)) (drop_more_is lines m l rest is) in
          let track : track_with lines crtc p (track_at (at m (l ∷ rest)) true) ≡ track_at (at (m + 1) rest) true =
          behind_it true t ∙ ap (λ k. track_at k true) there in
          record {
            unmet_is =
                ap (λ x. unmet (length lines) (followed x ps)) track
                ∙ (f.unmet_is ∙ off-pass (is_met crtc shown) before (latch_from l) (map latch_from rest) m (met ∙ t));
            agrees_is = λ none.
                ap (λ x. (followed x ps).agrees) track
                ∙ (f.agrees_is (off-rest (is_met crtc shown) before (latch_from l) (map latch_from rest) none)
                ∙ (grind (arith, nat_tests)
                ∙ ap (λ k. k == length (p ∷ ps)) (sym (counted-cons crtc (latch_from l) (map latch_from rest) true e))));
          }

    one_line : (b : Bool) → (l.0 == crtc) ≡ b → (ps : List Pictured) → drop n shown ≡ ps → Follows (l ∷ rest) m before ps
    one_line true e ps left = own_line e ps left
    one_line false e ps left = other_line e ps left

  follow : (rest : List LatchFields) (m : ℕ) → drop m lines ≡ rest → FollowBehind rest m
  unfolding first_off
  follow [] m is before n ps count left = record { unmet_is = ended ps true; agrees_is = λ none. ended_agrees ps }
  follow (l ∷ rest) m is before n ps count left =
      one_line l rest m before n is count (follow rest (m + 1) (drop_more_is lines m l rest is)) (l.0 == crtc) refl ps left

  from_first : Follows lines 0 [] shown
  from_first = follow lines 0 refl [] 0 shown refl refl

  -- the first line that is not met is the first that does not tell of its picture
  pub unmet-first : unmet (length lines) (track_of lines crtc (no_track lines crtc) shown) ≡ first_off
      (is_met crtc shown) [] (map latch_from lines)
  unmet-first = from_first.unmet_is ∙ from_0 (first_off (is_met crtc shown) [] (map latch_from lines)) where
    from_0 : (o : Option ℕ) → number_at 0 o ≡ o
    from_0 None = refl
    from_0 (Some k) = ap Some (omega arith)

  -- where none is, all pictures are told exactly where there are as many lines
  pub agrees-all : first_off (is_met crtc shown) [] (map latch_from lines) ≡ None
      → (track_of lines crtc (no_track lines crtc) shown).agrees ≡ (length (lines_of_crtc crtc (map latch_from lines)) == length shown)
  agrees-all none = from_first.agrees_is none

pub track-last : (lines : List LatchFields) (crtc : ℕ) (t : Track) (ps : List Pictured) (p : Pictured)
    → track_of lines crtc t (ps ++ p ∷ []) ≡ track_with lines crtc p (track_of lines crtc t ps)
unfolding track_of
track-last lines crtc t [] p = refl
track-last lines crtc t (q ∷ ps) p = track-last lines crtc (track_with lines crtc q t) ps p

-- The first line that is not met, on any CRTC

earlier-push : (xs : List (Option ℕ)) (x : Option ℕ) → first_of_all (xs ++ x ∷ []) ≡ earliest (first_of_all xs) x
earlier-push [] x = earliest-none x
earlier-push (y ∷ ys) x = ap (earliest y) (earlier-push ys x) ∙ sym (earliest-assoc y (first_of_all ys) x)

pub first_unmet-next : (count : ℕ) (tracks : List Track) (crtc : ℕ)
    → first_unmet count tracks (crtc + 1) ≡ earliest (first_unmet count tracks crtc) (unmet count (track_on tracks crtc))
first_unmet-next count tracks crtc =
    ap first_of_all (map-range_with_len_more (λ c. unmet count (track_on tracks c)) 0 crtc crtc (omega arith))
    ∙ earlier-push (map (λ c. unmet count (track_on tracks c)) (range_with_len 0 crtc)) (unmet count (track_on tracks crtc))

-- all tests of some numbers at once
nothing-off : {A : Type 0} (before xs : List A) → first_off (λ b x. true) before xs ≡ None
unfolding first_off
nothing-off before [] = refl
nothing-off before (x ∷ xs) = ap (option_map (λ place. place + 1)) (nothing-off (before ++ x ∷ []) xs)

all-off : {A : Type 0} (test : ℕ → List A → A → Bool) (ns : List ℕ) (xs : List A)
    → first_of_all (map (λ n. first_off (test n) [] xs) ns) ≡ first_off (λ b x. list_all (λ n. test n b x) ns) [] xs
all-off test [] xs = sym (nothing-off [] xs)
all-off test (n ∷ ns) xs =
    ap (earliest (first_off (test n) [] xs)) (all-off test ns xs)
    ∙ sym (off-both (test n) (λ b x. list_all (λ k. test k b x) ns) [] xs)

apart_from : (x a n : ℕ) → (x ≡ a → ⊥) → (nat_le (a + 1) x && nat_lt x (a + 1 + n)) ≡ (nat_le a x && nat_lt x (a + suc n))
apart_from x a n e = grind (arith, nat_tests)

-- a test of one number alone, among those from one on
one_of : (f : ℕ → Bool) (x a n : ℕ)
    → list_all (λ c. not (x == c) || f c) (range_with_len a n) ≡ (if nat_le a x && nat_lt x (a + n) then f x else true)
one_of f x a zero = sym (cond-false (nat_le a x && nat_lt x (a + 0)) (f x) true (grind (arith, nat_tests)))
one_of f x a (suc n) = by_first (x == a) refl (one_of f x (a + 1) n) where
  by_first : (b : Bool) → (x == a) ≡ b
      → list_all (λ c. not (x == c) || f c) (range_with_len (a + 1) n) ≡ (if nat_le (a + 1) x && nat_lt x (a + 1 + n) then f x else true)
      → ((not (x == a) || f a) && list_all (λ c. not (x == c) || f c) (range_with_len (a + 1) n)) ≡ (if nat_le a x && nat_lt x
      (a + suc n) then f x else true)
  by_first true e rest =
      let same : x ≡ a = eqb-true x a e in
      let none : list_all (λ c. not (x == c) || f c) (range_with_len (a + 1) n) ≡ true =
      rest ∙ cond-false (nat_le (a + 1) x && nat_lt x (a + 1 + n)) (f x) true (grind (arith, nat_tests)) in
      let all : (if nat_le a x && nat_lt x (a + suc n) then f x else true) ≡ f x =
      cond-true (nat_le a x && nat_lt x (a + suc n)) (f x) true (grind (arith, nat_tests)) in
      ap (λ b. (not b || f a) && list_all (λ c. not (x == c) || f c) (range_with_len (a + 1) n)) e
      ∙ (ap (λ b. f a && b) none ∙ (and_true (f a) ∙ (ap f (sym same) ∙ sym all)))
  by_first false e rest =
      let same : (nat_le (a + 1) x && nat_lt x (a + 1 + n)) ≡ (nat_le a x && nat_lt x (a + suc n)) = apart_from x a n (eqb-false x a e) in
      ap (λ b. (not b || f a) && list_all (λ c. not (x == c) || f c) (range_with_len (a + 1) n)) e
      ∙ (rest ∙ ap (λ b. if b then f x else true) same)

module _ (s : Script) (r : Report) (tracks : List Track) where
  abbrev shown_on : ℕ → List Pictured
  shown_on crtc = show s (entries_in r) (object_id Crtc crtc)

  -- each track is that of what its CRTC shows
  abbrev AreOfShown : Type 0
  AreOfShown = (crtc : ℕ) → crtc < s.topology.crtcs → track_on tracks crtc ≡ track_of r.latches crtc
      (no_track r.latches crtc) (shown_on crtc)

  met-pictured : (before : List LatchLine) (l : LatchLine)
      → list_all (λ crtc. is_met crtc (shown_on crtc) before l) (range_with_len 0 s.topology.crtcs) ≡ is_pictured s r before l
  met-pictured before l =
      one_of (λ crtc. tells_picture l (slice_get (shown_on crtc) (length (lines_of_crtc crtc before)))) l.crtc 0 s.topology.crtcs
      ∙ ap (λ b. if b then tells_picture l (slice_get (shown_on l.crtc) (length (lines_of_crtc l.crtc before))) else true) within where
        within : (nat_le 0 l.crtc && nat_lt l.crtc (0 + s.topology.crtcs)) ≡ nat_lt l.crtc s.topology.crtcs
        within = grind (arith, nat_tests)

  unmet-each : AreOfShown → (n : ℕ) → n ≤ s.topology.crtcs
      → map (λ crtc. unmet (length r.latches) (track_on tracks crtc)) (range_with_len 0 n)
      ≡ map (λ crtc. first_off (is_met crtc (shown_on crtc)) [] (latches_in r)) (range_with_len 0 n)
  unmet-each are n few = mapped 0 n (omega arith) where
    mapped : (a k : ℕ) → a + k ≤ s.topology.crtcs
        → map (λ crtc. unmet (length r.latches) (track_on tracks crtc)) (range_with_len a k)
        ≡ map (λ crtc. first_off (is_met crtc (shown_on crtc)) [] (latches_in r)) (range_with_len a k)
    mapped a zero l = refl
    mapped a (suc k) l =
        let here = ap (unmet (length r.latches)) (are a (omega arith)) ∙ unmet-first r.latches a (shown_on a) in
        ap (λ o. o ∷ map (λ crtc. unmet (length r.latches) (track_on tracks crtc)) (range_with_len (a + 1) k)) here
        ∙ ap (λ os. first_off (is_met a (shown_on a)) [] (latches_in r) ∷ os) (mapped (a + 1) k (omega arith))

  pub all-unmet : AreOfShown → first_unmet (length r.latches) tracks s.topology.crtcs ≡ first_off (is_pictured s r) [] (latches_in r)
  all-unmet are =
      ap first_of_all (unmet-each are s.topology.crtcs (omega arith))
      ∙ (all-off (λ crtc. is_met crtc (shown_on crtc)) (range_with_len 0 s.topology.crtcs) (latches_in r)
      ∙ off-same (λ b l. list_all (λ crtc. is_met crtc (shown_on crtc) b l) (range_with_len 0 s.topology.crtcs))
      (is_pictured s r) met-pictured [] (latches_in r))

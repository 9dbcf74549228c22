-- What CRTCs show, one CRTC after the other, and what is kept of it.
use Rattle.std.proofs.Common.{◌≡◌, ℕ, zero, suc, ◌+◌, ◌-◌, ◌<◌, ◌≤◌, Bool, true, false, List, [], ◌∷◌, length, get_or, Option, Some, None}
use Rattle.std.proofs.Common.{sym, ap, ◌∙◌, subst, arith, inl, inr}
use Rattle.std.proofs.lemmas.Bool.{and_from, and_left, and_right, cases_eq, cases_lt, cond-false, cond-true, eq-eqb, le-ltb, lt-ltb, ne_eqb}
use Rattle.std.proofs.lemmas.Bool.Decides.{nat_tests}
use Rattle.std.proofs.lemmas.List.{get_or-set_other, get_or-set_same, length-set}
use Rattle.std.proofs.lemmas.Option.{get_or_from_slice_get, same_Some, slice_get-get_or, slice_get_within}
use Rattle.std.specs.List.{list_all, range_with_len}
use Rattle.std.specs.Prelude.{◌&&◌, ◌==◌, nat_lt, replicate, slice_get, slice_set, if◌then◌else◌}
use Rattle.kms_audit.proofs.Seeking.{line-within}
use Rattle.kms_audit.specs.declared.frames.LastTwo.{LastTwo}
use Rattle.kms_audit.specs.declared.latches.Showing.{Showing}
use Rattle.kms_audit.specs.declared.latches.Track.{Track}
use Rattle.kms_audit.specs.Framed.{AreKept}
use Rattle.kms_audit.specs.Latching.{AreWithin, LatchFields, ShowsAll, line_from, line_tells, no_track, pictured_now, track_on, track_with}
use Rattle.kms_audit.specs.Sections.{tells_picture}
use Rattle.kms_model.specs.declared.objects.Kind.TheVariants.{Crtc}
use Rattle.kms_model.specs.declared.pictures.Picture.{Picture}
use Rattle.kms_model.specs.declared.worlds.Thing.{Thing}
use Rattle.kms_model.specs.Device.Masks.{has_bit}
use Rattle.kms_model.specs.Device.Objects.{object_id}
use Rattle.kms_model.specs.Device.Serial.{Pictured}
use Rattle.kms_model.specs.Frames.FrameBytes.{frame_bytes}
use Rattle.kms_model.specs.Frames.Pictures.{picture}
use Rattle.kms_model.specs.Report.Right.{latch_from, same_digest}
use Rattle.kms_model.specs.Report.SeenReport.{digest_shown}
use Rattle.kms_serial.specs.Device.{Device}

-- One track, behind a picture more

pub line-at : (lines : List LatchFields) (place : ℕ) (l : LatchFields) → place < length lines → l ≡ get_or lines place l
    → slice_get lines place ≡ Some l
line-at lines place l within is = slice_get-get_or lines place l within ∙ ap Some (sym is)

module _ (lines : List LatchFields) (crtc : ℕ) (p : Pictured) (t : Track) where
  abbrev met : Track
  met = record { line = line_from lines crtc (t.line + 1); agrees = true }

  abbrev unmet_it : Track
  unmet_it = record { line = t.line; agrees = false }

  pub track-apart : t.agrees ≡ false → unmet_it ≡ track_with lines crtc p t
  track-apart off =
      sym (cond-false (t.agrees && line_tells (slice_get lines t.line) p) met unmet_it
      (and_left t.agrees (line_tells (slice_get lines t.line) p) off))

  pub track-past : slice_get lines t.line ≡ None → unmet_it ≡ track_with lines crtc p t
  track-past none =
      sym (cond-false (t.agrees && line_tells (slice_get lines t.line) p) met unmet_it
      (and_right t.agrees (line_tells (slice_get lines t.line) p) (ap (λ o. line_tells o p) none)))

  module _ (l : LatchFields) (there : slice_get lines t.line ≡ Some l) (meets : Bool)
      (is : meets ≡ tells_picture (latch_from l) (Some p)) where
    pub track-unmet : meets ≡ false → unmet_it ≡ track_with lines crtc p t
    track-unmet off =
        sym (cond-false (t.agrees && line_tells (slice_get lines t.line) p) met unmet_it
        (and_right t.agrees (line_tells (slice_get lines t.line) p) (ap (λ o. line_tells o p) there ∙ (sym is ∙ off))))

    pub track-met : t.agrees ≡ true → meets ≡ true → (line : ℕ) → line ≡ line_from lines crtc (t.line + 1)
        → record { line = line; agrees = true } ≡ track_with lines crtc p t
    track-met agrees on line found =
        ap (λ n. record { line = n; agrees = true }) found
        ∙ sym (cond-true (t.agrees && line_tells (slice_get lines t.line) p) met unmet_it
        (and_from t.agrees (line_tells (slice_get lines t.line) p) agrees (ap (λ o. line_tells o p) there ∙ (sym is ∙ on))))

-- a line meets a picture where its commit and its digest are those of it
pub meets-not : (l : LatchFields) (p : Pictured) → (l.1 ≡ p.commit → ⊥) → false ≡ tells_picture (latch_from l) (Some p)
meets-not l p off = sym (and_left (l.1 == p.commit) (same_digest l.3 (digest_shown p.picture p.frame)) (ne_eqb l.1 p.commit off))

pub meets-as : (d : Device) (l : LatchFields) (crtc commit : ℕ) (p : Picture) (digest : Option (List ℕ))
    (same : Bool) → l.1 ≡ commit
    → p ≡ picture d.topology d.world.things d.world.values (object_id Crtc crtc) → digest ≡ digest_shown p (frame_bytes d.world.things p)
    → same ≡ same_digest l.3 digest → same ≡ tells_picture (latch_from l) (Some (pictured_now d crtc commit))
meets-as d l crtc commit p digest same commits is told e =
    let shown = pictured_now d crtc commit in
    e
    ∙ (ap (same_digest l.3) told
    ∙ (ap (λ x. same_digest l.3 (digest_shown x (frame_bytes d.world.things x))) is
    ∙ ap (λ b. b && same_digest l.3 (digest_shown shown.picture shown.frame)) (sym (eq-eqb l.1 commit commits))))

-- All CRTCs, one after the other

same_bit : (c crtc : ℕ) (b : Bool) → (c ≡ crtc → b ≡ false) → (nat_lt c crtc && b) ≡ (nat_lt c (crtc + 1) && b)
same_bit c crtc b off =
    elim (cases_eq c crtc) [
      | inl here ↦ and_right (nat_lt c crtc) b (off here) ∙ sym (and_right (nat_lt c (crtc + 1)) b (off here))
      | inr apart ↦ ap (λ x. x && b) (same c crtc apart)
    ] where
      same : (m n : ℕ) → (m ≡ n → ⊥) → nat_lt m n ≡ nat_lt m (n + 1)
      same m n e = grind (arith, nat_tests)

module _ (lines : List LatchFields) (d : Device) (named commit : ℕ) (first : List Track) where
  -- what a CRTC's track is where it has shown what it shows, or not yet
  abbrev shown_if : Bool → ℕ → Track
  shown_if b c = if b then track_with lines c (pictured_now d c commit) (track_on first c) else track_on first c

  abbrev AreShown : ℕ → List Track → Type 0
  AreShown upto tracks = (c : ℕ) → c < 4 → track_on tracks c ≡ shown_if (nat_lt c upto && has_bit named c) c

  pub show-first : AreShown 0 first
  show-first c few =
      sym (cond-false (nat_lt c 0 && has_bit named c) (track_with lines c (pictured_now d c commit) (track_on first c)) (track_on first c)
      (and_left (nat_lt c 0) (has_bit named c) (le-ltb c 0 (omega arith))))

  module _ (crtc : ℕ) (old : List Track) (was : AreShown crtc old) where
    -- a CRTC that is not named
    pub show-skip : has_bit named crtc ≡ false → AreShown (crtc + 1) old
    show-skip off c few = was c few ∙ ap (λ b. shown_if b c) (same_bit c crtc (has_bit named c) (λ e. ap (has_bit named) e ∙ off))

    -- and one that is
    pub show-one : has_bit named crtc ≡ true → crtc < 4 → (new : List Track)
        → track_on new crtc ≡ track_with lines crtc (pictured_now d crtc commit) (track_on old crtc)
        → ((other : ℕ) → other < 4 → (other ≡ crtc → ⊥) → track_on new other ≡ track_on old other) → AreShown (crtc + 1) new
    show-one on within new here others c few =
        elim (cases_eq c crtc) [
          | inl same ↦ subst (λ n. track_on new n ≡ shown_if (nat_lt n (crtc + 1) && has_bit named n) n) (sym same) at_crtc
          | inr apart ↦
              others c few apart
              ∙ (was c few ∙ ap (λ b. shown_if b c) (same_bit c crtc (has_bit named c) (λ e. absurd (apart e))))
        ] where
          before : track_on old crtc ≡ track_on first crtc
          before =
              was crtc within
              ∙ cond-false (nat_lt crtc crtc && has_bit named crtc)
              (track_with lines crtc (pictured_now d crtc commit) (track_on first crtc)) (track_on first crtc)
              (and_left (nat_lt crtc crtc) (has_bit named crtc) (le-ltb crtc crtc (omega arith)))

          at_crtc : track_on new crtc ≡ shown_if (nat_lt crtc (crtc + 1) && has_bit named crtc) crtc
          at_crtc =
              here
              ∙ (ap (track_with lines crtc (pictured_now d crtc commit)) before
              ∙ sym (cond-true (nat_lt crtc (crtc + 1) && has_bit named crtc)
              (track_with lines crtc (pictured_now d crtc commit) (track_on first crtc)) (track_on first crtc)
              (and_from (nat_lt crtc (crtc + 1)) (has_bit named crtc) (lt-ltb crtc (crtc + 1) (omega arith)) on)))

    pub show-all : 4 ≤ crtc → ShowsAll lines d named commit first old
    show-all past c few = was c few ∙ ap (λ b. shown_if (b && has_bit named c) c) (lt-ltb c crtc (omega arith))

-- a CRTC that is named is one of the device
pub named-there : (count crtc named : ℕ) → ((c : ℕ) → count ≤ c → has_bit named c ≡ false) → has_bit named crtc ≡ true → crtc < count
named-there count crtc named out on =
    elim (cases_lt crtc count) [
      | inl within ↦ within
      | inr past ↦ (let off = out crtc past in absurd (let no : false ≡ true = sym off ∙ on in cc))
    ]

-- One CRTC's track and pictures, in their place

pub kept-set : (things : List Thing) (old new : List LastTwo) (at : ℕ) (x : LastTwo) → at < length old → new ≡ slice_set old at x
    → ((c : ℕ) (l : LastTwo) → c < 4 → slice_get old c ≡ Some l → AreKept things l) → AreKept things x
    → (c : ℕ) (l : LastTwo) → c < 4 → slice_get new c ≡ Some l → AreKept things l
kept-set things old new at x within set kept own c l few g =
    let here : slice_get (slice_set old at x) c ≡ Some l = ap (λ ls. slice_get ls c) (sym set) ∙ g in
    let item : get_or (slice_set old at x) c l ≡ l = get_or_from_slice_get (slice_set old at x) c l l here in
    elim (cases_eq c at) [
      | inl same ↦ (
          let is : x ≡ l = sym (ap (λ n. get_or (slice_set old at x) n l) same ∙ get_or-set_same old at x l within) ∙ item in
          subst (AreKept things) is own)
      | inr apart ↦ (
          let size : c < length old = omega (arith, slice_get_within (slice_set old at x) c l here, length-set old at x) in
          kept c l few (slice_get-get_or old c l size ∙ ap Some (sym (get_or-set_other old at c x l apart) ∙ item)))
    ]

pub track-set : (old new : List Track) (at : ℕ) (x : Track) → at < length old → new ≡ slice_set old at x → track_on new at ≡ x
track-set old new at x within set = ap (λ ts. track_on ts at) set ∙ get_or-set_same old at x (record { line = 0; agrees = false }) within

pub track-others : (old new : List Track) (at : ℕ) (x : Track) → new ≡ slice_set old at x → (other : ℕ) → (other ≡ at → ⊥)
    → track_on new other ≡ track_on old other
track-others old new at x set other apart = ap (λ ts. track_on ts other) set
    ∙ get_or-set_other old at other x (record { line = 0; agrees = false }) apart

pub within-set : (count : ℕ) (old new : Showing) (at : ℕ) (x : Track) (two : LastTwo) → at < 4 → AreWithin count old
    → new.tracks ≡ slice_set old.tracks at x
    → new.kept ≡ slice_set old.kept at two → x.line ≤ count → AreWithin count new
within-set count old new at x two few was tracks kept line = record {
  tracks = ap length tracks ∙ (length-set old.tracks at x ∙ was.tracks);
  kept = ap length kept ∙ (length-set old.kept at two ∙ was.kept);
  line = λ c within.
      elim (cases_eq c at) [
        | inl same ↦ (
            let here = track-set old.tracks new.tracks at x (omega (arith, few, was.tracks)) tracks in
            let moved = ap (λ n. (track_on new.tracks n).line) same in
            omega (arith, moved, ap (λ (t : Track). t.line) here, line))
        | inr apart ↦ (
            let there = track-others old.tracks new.tracks at x tracks c apart in
            omega (arith, ap (λ (t : Track). t.line) there, was.line c within))
      ];
}

-- Nothing was shown yet

pub four-tracks : (lines : List LatchFields) (a b c d : Track) → a ≡ no_track lines 0 → b ≡ no_track lines 1
    → c ≡ no_track lines 2 → d ≡ no_track lines 3
    → (n : ℕ) → n < 4 → track_on (a ∷ b ∷ c ∷ d ∷ []) n ≡ no_track lines n
four-tracks lines a b c d e f g h zero l = e
four-tracks lines a b c d e f g h (suc zero) l = f
four-tracks lines a b c d e f g h (suc (suc zero)) l = g
four-tracks lines a b c d e f g h (suc (suc (suc zero))) l = h
four-tracks lines a b c d e f g h (suc (suc (suc (suc n)))) l = absurd (omega arith)

pub within-first : (lines : List LatchFields) (showing : Showing) → length showing.tracks ≡ 4 → length showing.kept ≡ 4
    → ((n : ℕ) → n < 4 → track_on showing.tracks n ≡ no_track lines n) → AreWithin (length lines) showing
within-first lines showing tracks kept each = record {
  tracks = tracks;
  kept = kept;
  line = λ c few. omega (arith, ap (λ (t : Track). t.line) (each c few), line-within lines c 0);
}

pub kept-first-two : (things : List Thing) (dark : LastTwo) (kept : List LastTwo) → kept ≡ replicate 4 dark → AreKept things dark
    → (c : ℕ) (l : LastTwo) → c < 4 → slice_get kept c ≡ Some l → AreKept things l
kept-first-two things dark kept is own c l few g = subst (AreKept things) (same_one 4 c (ap (λ ls. slice_get ls c) (sym is) ∙ g)) own where
  same_one : (n k : ℕ) → slice_get (replicate n dark) k ≡ Some l → dark ≡ l
  same_one zero k e = absurd cc
  same_one (suc n) zero e = same_Some dark l e
  same_one (suc n) (suc k) e = same_one n k e

-- All of the first CRTCs

pub all-next : (p : ℕ → Bool) (i n : ℕ) → i < n
    → list_all p (range_with_len i (n - i)) ≡ (p i && list_all p (range_with_len (i + 1) (n - (i + 1))))
all-next p i n l = let less : n - i ≡ suc (n - (i + 1)) = omega arith in ap (λ k. list_all p (range_with_len i k)) less

pub all-wrong : (p : ℕ → Bool) (i n : ℕ) → i < n → p i ≡ false → false ≡ list_all p (range_with_len i (n - i))
all-wrong p i n l off = sym (all-next p i n l ∙ and_left (p i) (list_all p (range_with_len (i + 1) (n - (i + 1)))) off)

pub all-step : (p : ℕ → Bool) (i n : ℕ) → i < n → p i ≡ true → list_all p (range_with_len (i + 1) (n - (i + 1))) ≡ list_all p
    (range_with_len i (n - i))
all-step p i n l on = sym (all-next p i n l ∙ ap (λ b. b && list_all p (range_with_len (i + 1) (n - (i + 1)))) on)

pub all-done : (p : ℕ → Bool) (i n : ℕ) → n ≤ i → true ≡ list_all p (range_with_len i (n - i))
all-done p i n past = let none : n - i ≡ 0 = omega arith in sym (ap (λ k. list_all p (range_with_len i k)) none)

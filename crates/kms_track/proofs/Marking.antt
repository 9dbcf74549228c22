-- A tracker that stands for commits stands for them after a step of one of them is marked.
use Rattle.std.proofs.Common.{◌≡◌, ℕ, ◌+◌, ◌<◌, List, ◌∷◌, length, Bool, true, false, Option, Some, None, inl, inr, arith, refl, sym, ap}
use Rattle.std.proofs.Common.{◌∙◌, subst}
use Rattle.std.specs.Prelude.{◌==◌, ◌&&◌, ◌||◌, is_some}
use Rattle.std.proofs.lemmas.Bool.{eq-eqb, ne_eqb}
use Rattle.std.proofs.lemmas.Bool.Decides.{eqb_tells}
use Rattle.kms_model.specs.declared.objects.Topology.{Topology}
use Rattle.kms_model.specs.declared.runs.Latch.{Latch}
use Rattle.kms_model.specs.declared.tables.Slot.{Slot}
use Rattle.kms_model.specs.Machine.Commits.{has_latched, has_number, has_pair}
use Rattle.kms_model.specs.Machine.State.{Commit, Marks}
use Rattle.kms_model.specs.Things.Tables.{AreBelow, value_with_id, without_id}
use Rattle.kms_model.proofs.Facts.{other_number}
use Rattle.kms_model.proofs.TableLemmas.{IsRising-without_id}
use Rattle.kms_signal.proofs.SlotLemmas.{below-with_value, below-without_id, value_left, value_other, value_removed, value_same}
use Rattle.kms_track.specs.declared.progress.Mark.{Mark}
use Rattle.kms_track.specs.declared.progress.Mark.TheVariants.{Claimed, WroteCrtc, WrotePlane, Flushed, Done, Latched}
use Rattle.kms_track.specs.declared.progress.Progress.{Progress}
use Rattle.kms_track.specs.declared.tail.Tail.{Tail}
use Rattle.kms_track.specs.InStep.{IsKept, IsOver, IsProgressOf, IsTrackerOf}
use Rattle.kms_track.specs.Tails.{marked_slots, marked_tail, with_mark}
use Rattle.kms_track.specs.Tracking.{Tracking, marked, tail_of}
use Rattle.kms_track.proofs.Bits.{bit_marked, other_marked}
use Rattle.kms_track.proofs.Kept.{SameDone, kept_same, over_still, tail_with, untouched_same}
use Rattle.kms_track.proofs.TailPlaces.{marked_rises}

pub apart_from : (n k : ℕ) → n < k → (n == k) ≡ false
apart_from n k less = ne_eqb n k (λ e. absurd (omega (arith, e)))

-- One commit's tail is marked

abbrev pub marked_option : Mark → Option Tail → Option Tail
marked_option mark None = None
marked_option mark (Some x) = Some (marked_tail mark x)

marked_same : (slots : List (Slot Tail)) (n : ℕ) (mark : Mark) (o : Option Tail) → value_with_id slots n ≡ o
    → value_with_id (marked_slots slots n mark o) n ≡ marked_option mark o
marked_same slots n mark None is = is
marked_same slots n mark (Some x) is = value_same slots n (marked_tail mark x) (ap (λ (o : Option Tail). is_some o) is)

marked_apart : (slots : List (Slot Tail)) (n k : ℕ) (mark : Mark) (o : Option Tail) → (n == k) ≡ false
    → value_with_id (marked_slots slots n mark o) k ≡ value_with_id slots k
marked_apart slots n k mark None apart = refl
marked_apart slots n k mark (Some x) apart = value_other slots n k (marked_tail mark x) apart

pub marked_below : (slots : List (Slot Tail)) (m n : ℕ) (mark : Mark) (o : Option Tail)
    → AreBelow m slots → AreBelow m (marked_slots slots n mark o)
marked_below slots m n mark None below = below
marked_below slots m n mark (Some x) below = below-with_value slots m n (marked_tail mark x) below

same_number : (n : ℕ) (b : Bool) → true ≡ ((n == n) || b)
same_number n b = sym (ap (λ x. x || b) (eq-eqb n n refl))

other_pair : (n k object other : ℕ) (b : Bool) → (n == k) ≡ false → (((n == k) && (object == other)) || b) ≡ b
other_pair n k object other b apart = rw apart refl

or_still : (a b : Bool) → b ≡ true → (a || b) ≡ true
or_still true b is = refl
or_still false b is = is

module _ (t : Topology) (cs : List Commit) (marks : Marks) (latches : List Latch) where
  -- what a step of the commit n changes: this commit as the mark says, and no other
  record Changes (others : Marks) (more : List Latch) (n : ℕ) (mark : Mark) : Type 0 where
    this : (p : Progress) → IsProgressOf marks latches n p → IsProgressOf others more n (with_mark mark p)
    over : IsOver t cs marks latches n → IsOver t cs others more n
    cleaned : has_number others.cleaned n ≡ has_number marks.cleaned n
    apart : (k : ℕ) → (n == k) ≡ false → SameDone marks others latches more k

  module _ (v : Tracking) (n : ℕ) (within : n < length cs) (stand : IsTrackerOf t cs marks latches v) where
    stands : (others : Marks) (more : List Latch) (mark : Mark) → Changes others more n mark
        → IsTrackerOf t cs others more (marked v n mark)
    stands others more mark change = record {
      count = stand.count;
      rising = marked_rises v.tails.slots n mark (tail_of v n) stand.rising;
      below = marked_below v.tails.slots (length cs) n mark (tail_of v n) stand.below;
      lasts = stand.lasts;
      kept = λ k low.
          elim (eqb_tells n k) [
            | inl same ↦ (
                let P : ℕ → Type 0 = λ m. IsKept t cs others more m (tail_of (marked v n mark) m) in
                subst P same.1 (rw (marked_same v.tails.slots n mark (tail_of v n) refl) (here (tail_of v n) (stand.kept n within)))
                )
            | inr other ↦ rw (marked_apart v.tails.slots n k mark (tail_of v n) other.0)
                (kept_same t cs marks others latches more k (tail_of v k) (change.apart k other.0) (stand.kept k low))
          ];
      untouched = λ k above.
          untouched_same t cs marks others latches more k (change.apart k (apart_from n k (omega (arith, within, above))))
          (stand.untouched k above);
    } where
      here : (o : Option Tail) → IsKept t cs marks latches n o → IsKept t cs others more n (marked_option mark o)
      here None kept = (change.cleaned ∙ kept.0, change.over kept.1)
      here (Some x) kept = (
        change.cleaned ∙ kept.0,
        tail_with t cs marks others latches more n x (with_mark mark x.progress) kept.1 (change.this x.progress kept.1.progress),
      )

    pub claimed_stands : IsTrackerOf t cs (record marks { claimed = n ∷ marks.claimed }) latches (marked v n Claimed)
    claimed_stands = stands (record marks { claimed = n ∷ marks.claimed }) latches Claimed (record {
      this = λ p is. record {
        claimed = same_number n (has_number marks.claimed n);
        crtcs = is.crtcs;
        planes = is.planes;
        flushed = is.flushed;
        done = is.done;
        latched = is.latched;
      };
      over = over_still t cs marks _ latches latches n (or_still (n == n) (has_number marks.claimed n)) (λ is. is) (λ crtc is. is);
      cleaned = refl;
      apart = λ k apart. record {
        claimed = other_number n k (has_number marks.claimed k) apart;
        written = λ object. refl;
        flushed = λ crtc. refl;
        done = refl;
        latched = λ crtc. refl;
        cleaned = refl;
      };
    })

    pub done_stands : IsTrackerOf t cs (record marks { done = n ∷ marks.done }) latches (marked v n Done)
    done_stands = stands (record marks { done = n ∷ marks.done }) latches Done (record {
      this = λ p is. record {
        claimed = is.claimed;
        crtcs = is.crtcs;
        planes = is.planes;
        flushed = is.flushed;
        done = same_number n (has_number marks.done n);
        latched = is.latched;
      };
      over = over_still t cs marks _ latches latches n (λ is. is) (or_still (n == n) (has_number marks.done n)) (λ crtc is. is);
      cleaned = refl;
      apart = λ k apart. record {
        claimed = refl;
        written = λ object. refl;
        flushed = λ crtc. refl;
        done = other_number n k (has_number marks.done k) apart;
        latched = λ crtc. refl;
        cleaned = refl;
      };
    })

    -- an object is written
    wrote_stands : (object : ℕ) (mark : Mark)
        → ((p : Progress) → IsProgressOf marks latches n p
        → IsProgressOf (record marks { written = (n, object) ∷ marks.written }) latches n (with_mark mark p))
        → IsTrackerOf t cs (record marks { written = (n, object) ∷ marks.written }) latches (marked v n mark)
    wrote_stands object mark this = stands (record marks { written = (n, object) ∷ marks.written }) latches mark (record {
      this = this;
      over = over_still t cs marks _ latches latches n (λ is. is) (λ is. is) (λ crtc is. is);
      cleaned = refl;
      apart = λ k apart. record {
        claimed = refl;
        written = λ other. other_pair n k object other (has_pair marks.written k other) apart;
        flushed = λ crtc. refl;
        done = refl;
        latched = λ crtc. refl;
        cleaned = refl;
      };
    })

    pub wrote_crtc_stands : (index : ℕ) → index < 4
        → IsTrackerOf t cs (record marks { written = (n, 100 + index) ∷ marks.written }) latches (marked v n (WroteCrtc index))
    wrote_crtc_stands index low = wrote_stands (100 + index) (WroteCrtc index) (λ p is. record {
      claimed = is.claimed;
      crtcs = λ i few.
          bit_marked p.crtcs n 100 index i (has_pair marks.written n (100 + i)) (omega (arith, low)) (is.crtcs i few);
      planes = λ i few.
          is.planes i few
          ∙ other_marked n (100 + index) (200 + i) (has_pair marks.written n (200 + i)) (λ e. absurd (omega (arith, low, e)));
      flushed = is.flushed;
      done = is.done;
      latched = is.latched;
    })

    pub wrote_plane_stands : (index : ℕ) → index < 16
        → IsTrackerOf t cs (record marks { written = (n, 200 + index) ∷ marks.written }) latches (marked v n (WrotePlane index))
    wrote_plane_stands index low = wrote_stands (200 + index) (WrotePlane index) (λ p is. record {
      claimed = is.claimed;
      crtcs = λ i few.
          is.crtcs i few
          ∙ other_marked n (200 + index) (100 + i) (has_pair marks.written n (100 + i)) (λ e. absurd (omega (arith, few, e)));
      planes = λ i few.
          bit_marked p.planes n 200 index i (has_pair marks.written n (200 + i)) (omega (arith, low)) (is.planes i few);
      flushed = is.flushed;
      done = is.done;
      latched = is.latched;
    })

    pub flushed_stands : (index : ℕ) → index < 4
        → IsTrackerOf t cs (record marks { flushed = (n, 100 + index) ∷ marks.flushed }) latches (marked v n (Flushed index))
    flushed_stands index low = stands (record marks { flushed = (n, 100 + index) ∷ marks.flushed }) latches (Flushed index) (record {
      this = λ p is. record {
        claimed = is.claimed;
        crtcs = is.crtcs;
        planes = is.planes;
        flushed = λ i few.
            bit_marked p.flushed n 100 index i (has_pair marks.flushed n (100 + i)) (omega (arith, low)) (is.flushed i few);
        done = is.done;
        latched = is.latched;
      };
      over = over_still t cs marks _ latches latches n (λ is. is) (λ is. is) (λ crtc is. is);
      cleaned = refl;
      apart = λ k apart. record {
        claimed = refl;
        written = λ object. refl;
        flushed = λ crtc. other_pair n k (100 + index) crtc (has_pair marks.flushed k crtc) apart;
        done = refl;
        latched = λ crtc. refl;
        cleaned = refl;
      };
    })

    pub latched_stands : (l : Latch) → l.commit ≡ n → l.crtc < 4 → IsTrackerOf t cs marks (l ∷ latches) (marked v n (Latched l.crtc))
    unfolding has_latched
    latched_stands l is_n low = stands marks (l ∷ latches) (Latched l.crtc) (record {
      this = λ p is. record {
        claimed = is.claimed;
        crtcs = is.crtcs;
        planes = is.planes;
        flushed = is.flushed;
        done = is.done;
        latched = λ i few.
            rw is_n (bit_marked p.latched n 100 l.crtc i (has_latched latches n (100 + i)) (omega (arith, low)) (is.latched i few));
      };
      over = over_still t cs marks _ latches (l ∷ latches) n (λ is. is) (λ is. is)
          (λ crtc is. or_still ((l.commit == n) && (100 + l.crtc == crtc)) (has_latched latches n crtc) is);
      cleaned = refl;
      apart = λ k apart. record {
        claimed = refl;
        written = λ object. refl;
        flushed = λ crtc. refl;
        done = refl;
        latched = λ crtc. rw is_n (other_pair n k (100 + l.crtc) crtc (has_latched latches k crtc) apart);
        cleaned = refl;
      };
    })

    -- it is cleaned, and over
    pub cleaned_stands : (w : Tracking) → IsOver t cs marks latches n
        → w.count ≡ v.count → w.lasts ≡ v.lasts → w.tails.slots ≡ without_id v.tails.slots n
        → IsTrackerOf t cs (record marks { cleaned = n ∷ marks.cleaned }) latches w
    cleaned_stands w over count lasts is = record {
      count = count ∙ stand.count;
      rising = rw is (IsRising-without_id v.tails.slots n stand.rising);
      below = rw is (below-without_id v.tails.slots (length cs) n stand.below);
      lasts = rw lasts stand.lasts;
      kept = λ k low.
          elim (eqb_tells n k) [
            | inl same ↦ (
                let P : ℕ → Type 0 = λ m. IsKept t cs (record marks { cleaned = n ∷ marks.cleaned }) latches m (tail_of w m) in
                let gone : tail_of w n ≡ None = rw is (value_removed v.tails.slots n) in
                subst P same.1 (rw gone (sym (same_number n (has_number marks.cleaned n)), still over))
                )
            | inr other ↦ (
                let left : tail_of w k ≡ tail_of v k = rw is (value_left v.tails.slots n k other.0) in
                rw left (kept_same t cs marks (record marks { cleaned = n ∷ marks.cleaned }) latches latches k (tail_of v k)
                (others k other.0) (stand.kept k low))
                )
          ];
      untouched = λ k above.
          untouched_same t cs marks (record marks { cleaned = n ∷ marks.cleaned }) latches latches k
          (others k (apart_from n k (omega (arith, within, above))))
          (stand.untouched k above);
    } where
      still : IsOver t cs marks latches n → IsOver t cs (record marks { cleaned = n ∷ marks.cleaned }) latches n
      still = over_still t cs marks (record marks { cleaned = n ∷ marks.cleaned }) latches latches n (λ is. is) (λ is. is) (λ crtc is. is)

      others : (k : ℕ) → (n == k) ≡ false → SameDone marks (record marks { cleaned = n ∷ marks.cleaned }) latches latches k
      others k apart = record {
        claimed = refl;
        written = λ object. refl;
        flushed = λ crtc. refl;
        done = refl;
        latched = λ crtc. refl;
        cleaned = other_number n k (has_number marks.cleaned k) apart;
      }

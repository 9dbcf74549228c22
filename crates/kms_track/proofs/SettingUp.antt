-- A tracker that stands for commits stands for them and a further one after that is set up.
use Rattle.std.proofs.Common.{◌≡◌, ℕ, suc, ◌+◌, ◌<◌, List, [], ◌∷◌, ◌++◌, length, cond, Bool, true, false, Option, Some, None, inl, inr}
use Rattle.std.proofs.Common.{arith, refl, sym, ap, ◌∙◌, subst, add-one}
use Rattle.std.proofs.lemmas.Bool.{eq-eqb}
use Rattle.std.proofs.lemmas.Bool.Decides.{eqb_tells}
use Rattle.std.proofs.lemmas.List.{get_or-replicate}
use Rattle.kms_model.specs.declared.objects.Topology.{Topology}
use Rattle.kms_model.specs.declared.runs.Latch.{Latch}
use Rattle.kms_model.specs.declared.states.Checked.{Checked}
use Rattle.kms_model.specs.Firsts.{or_else}
use Rattle.kms_model.specs.Machine.Commits.{commit_touches, has_latched, last_below, previous, waited_fences}
use Rattle.kms_model.specs.Machine.State.{Commit, Marks, no_marks}
use Rattle.kms_model.specs.Things.Tables.{slot, value_with_id}
use Rattle.kms_model.proofs.CommitFacts.{commit_new, touches_new}
use Rattle.kms_model.proofs.TableLemmas.{IsRising-push}
use Rattle.kms_model.proofs.UnionLemmas.{has_bit-zero}
use Rattle.kms_signal.proofs.SlotLemmas.{below-push, value_above, value_pushed}
use Rattle.kms_track.specs.declared.lasts.Last.{Last}
use Rattle.kms_track.specs.declared.tail.Signals.{Signals}
use Rattle.kms_track.specs.declared.tail.Tail.{Tail}
use Rattle.kms_track.specs.InStep.{AreLastOf, AreSignalsOf, IsCheckedFor, IsKept, IsTailOf, IsTrackerOf, IsUntouched, is_of_device}
use Rattle.kms_track.specs.Places.{mask_has, object_at_place}
use Rattle.kms_track.specs.StepLaws.{waits_of}
use Rattle.kms_track.specs.Tails.{first_tail}
use Rattle.kms_track.specs.Tracking.{IsSetUp, Tracking, last_at, no_last, no_tracking, raised, tail_of}
use Rattle.kms_track.proofs.CheckedLemmas.{touched_here}
use Rattle.kms_track.proofs.Kept.{kept_older, previous_older, second_older}

-- Before the first step, and with more room

pub first_stands : (t : Topology) → IsTrackerOf t [] no_marks [] no_tracking
unfolding has_latched previous last_below
first_stands t = record {
  count = refl;
  rising = tt;
  below = tt;
  lasts = λ p place on. (let none = get_or-replicate 28 p no_last no_last place in record { commit = rw none refl; before = rw none refl });
  kept = λ k low. absurd (omega (arith, low));
  untouched = λ k above. record {
    claimed = refl;
    written = λ object. refl;
    flushed = λ crtc. refl;
    done = refl;
    latched = λ crtc. refl;
    cleaned = refl;
  };
}

pub room_stands : (t : Topology) (cs : List Commit) (marks : Marks) (latches : List Latch) (v w : Tracking)
    → w.count ≡ v.count → w.lasts ≡ v.lasts → w.tails.slots ≡ v.tails.slots → IsTrackerOf t cs marks latches v
    → IsTrackerOf t cs marks latches w
room_stands t cs marks latches v w count lasts is stand = record {
  count = count ∙ stand.count;
  rising = rw is stand.rising;
  below = rw is stand.below;
  lasts = rw lasts stand.lasts;
  kept = rw is stand.kept;
  untouched = stand.untouched;
}

-- The last commits of each object

previous_now : (t : Topology) (c : Commit) (cs : List Commit) (object : ℕ)
    → previous t (c ∷ cs) (suc (length cs)) object
    ≡ cond (commit_touches t (c ∷ cs) (length cs) object) (Some (length cs)) (previous t (c ∷ cs) (length cs) object)
unfolding previous last_below
previous_now t c cs object = refl

lasts_now : (t : Topology) (c : Commit) (cs : List Commit) (object : ℕ) (l : Last) (b : Bool) → AreLastOf t cs object l
    → commit_touches t (c ∷ cs) (length cs) object ≡ b → AreLastOf t (c ∷ cs) object (raised l b (length cs))
lasts_now t c cs object l true are touched =
    let now : previous t (c ∷ cs) (suc (length cs)) object ≡ Some (length cs) = previous_now t c cs object ∙ rw touched refl in
    record { commit = sym now; before = rw now (are.commit ∙ sym (previous_older t c cs (length cs) object (omega arith))) }
lasts_now t c cs object l false are touched =
    let now : previous t (c ∷ cs) (suc (length cs)) object ≡ previous t cs (length cs) object =
    previous_now t c cs object ∙ rw touched (previous_older t c cs (length cs) object (omega arith)) in
    record {
      commit = are.commit ∙ sym now;
      before = rw now (are.before ∙ sym (second_older t c cs (length cs) object (previous t cs (length cs) object) (omega arith) refl));
    }

or_nothing : (o : Option Tail) → or_else o None ≡ o
or_nothing None = refl
or_nothing (Some x) = refl

-- A commit is set up

module _ (t : Topology) (c : Commit) (cs : List Commit) (marks : Marks) (latches : List Latch) (v w : Tracking)
    (signals : Signals) (checked : Checked) (fences : List ℕ) (set_up : IsSetUp v w signals checked fences)
    (stand : IsTrackerOf t cs marks latches v) (signed : AreSignalsOf t c signals) (for : IsCheckedFor t c checked)
    (waits : waits_of t c ≡ fences) where
  in_fences_now : waited_fences t (c ∷ cs) (length cs) ≡ waits_of t c
  unfolding waited_fences
  in_fences_now = rw (commit_new t c cs) refl

  tail_now : IsTailOf t (c ∷ cs) marks latches (length cs) (first_tail signals checked set_up.previous set_up.waits)
  tail_now = let was : IsUntouched marks latches (length cs) = stand.untouched (length cs) (omega arith) in record {
    signals = subst (λ (d : Commit). AreSignalsOf t d signals) (sym (commit_new t c cs)) signed;
    checked = subst (λ (d : Commit). IsCheckedFor t d checked) (sym (commit_new t c cs)) for;
    in_fences = set_up.waits_are ∙ sym (in_fences_now ∙ waits);
    previous_are = λ p place on.
        set_up.previous_are p place
        ∙ ((stand.lasts p place on).commit ∙ sym (previous_older t c cs (length cs) (object_at_place p) (omega arith)));
    progress = record {
      claimed = sym was.claimed;
      crtcs = λ i few. has_bit-zero i ∙ sym (was.written (100 + i));
      planes = λ i few. has_bit-zero i ∙ sym (was.written (200 + i));
      flushed = λ i few. has_bit-zero i ∙ sym (was.flushed (100 + i));
      done = sym was.done;
      latched = λ i few. has_bit-zero i ∙ sym (was.latched (100 + i));
    };
  }

  pushed : w.tails.slots ≡ v.tails.slots ++ slot (length cs) (first_tail signals checked set_up.previous set_up.waits) ∷ []
  pushed = rw stand.count at set_up.tails

  tail_is : (k : ℕ) → tail_of w k
      ≡ or_else (tail_of v k)
      (value_with_id (slot (length cs) (first_tail signals checked set_up.previous set_up.waits) ∷ []) k)
  tail_is k = ap (λ slots. value_with_id slots k) pushed ∙ value_pushed v.tails.slots (length cs) k _

  last_now : (p : ℕ) → p < 28 → is_of_device t (object_at_place p) ≡ true → AreLastOf t (c ∷ cs) (object_at_place p) (last_at w p)
  last_now p place on =
      let is : last_at w p ≡ raised (last_at v p) (mask_has checked.touched p) (length cs) = rw stand.count at (set_up.lasts p place) in
      rw is (lasts_now t c cs (object_at_place p) (last_at v p) (mask_has checked.touched p) (stand.lasts p place on)
      (touches_new t c cs (object_at_place p) ∙ sym (touched_here t c checked p for.is place on)))

  pub set_up_stands : IsTrackerOf t (c ∷ cs) marks latches w
  set_up_stands = record {
    count = set_up.count ∙ rw (stand.count, add-one (length cs)) refl;
    rising = rw pushed (IsRising-push v.tails.slots _ stand.rising stand.below);
    below = rw pushed (below-push v.tails.slots (length cs) (suc (length cs)) (length cs) _ stand.below (omega arith) (omega arith));
    lasts = last_now;
    kept = λ k low.
        elim (eqb_tells (length cs) k) [
          | inl same ↦ (
              let P : ℕ → Type 0 = λ m. IsKept t (c ∷ cs) marks latches m (tail_of w m) in
              let none : tail_of v (length cs) ≡ None = value_above v.tails.slots (length cs) (length cs) stand.below (omega arith) in
              subst P same.1 (rw (tail_is (length cs), none, eq-eqb (length cs) (length cs) refl)
              ((stand.untouched (length cs) (omega arith)).cleaned, tail_now))
              )
          | inr other ↦ (
              let before : k < length cs = omega (arith, low, other.1) in
              rw (tail_is k, other.0, or_nothing (tail_of v k))
              (kept_older t c cs marks latches k (tail_of v k) before (stand.kept k before))
              )
        ];
    untouched = λ k above. stand.untouched k (omega (arith, above));
  }

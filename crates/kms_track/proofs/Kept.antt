-- A commit is kept as before where nothing was done of it, and behind a further commit.
use Rattle.std.proofs.Common.{◌≡◌, ℕ, ◌+◌, ◌<◌, ◌≤◌, List, [], ◌∷◌, length, Bool, true, Option, Some, None, inl, inr, arith, refl, sym, ap}
use Rattle.std.proofs.Common.{◌∙◌, subst}
use Rattle.std.specs.Prelude.{◌||◌, not}
use Rattle.std.specs.List.{list_all}
use Rattle.kms_model.specs.declared.objects.Kind.TheVariants.{Crtc}
use Rattle.kms_model.specs.declared.objects.Topology.{Topology}
use Rattle.kms_model.specs.declared.runs.Latch.{Latch}
use Rattle.kms_model.specs.Device.Objects.{ids_of}
use Rattle.kms_model.specs.Machine.Commits.{commit_concerns, commit_touches, has_flipped, has_latched, has_number, has_pair, previous}
use Rattle.kms_model.specs.Machine.Commits.{previous_of}
use Rattle.kms_model.specs.Machine.State.{Commit, Marks}
use Rattle.kms_model.proofs.CommitFacts.{commit_old, concerns_old, touches_old, waited_old}
use Rattle.kms_model.proofs.Facts.{implied, implied_from}
use Rattle.kms_model.proofs.Items.{IsIn, list_all-at, list_all-from}
use Rattle.kms_track.specs.declared.progress.Progress.{Progress}
use Rattle.kms_track.specs.declared.tail.Tail.{Tail}
use Rattle.kms_track.specs.InStep.{AreSignalsOf, IsCheckedFor, IsKept, IsOver, IsProgressOf, IsTailOf, IsUntouched}
use Rattle.kms_track.proofs.Previous.{last_is, last_same}

pub all_alike : (f g : ℕ → Bool) (xs : List ℕ) → ((x : ℕ) → IsIn x xs → f x ≡ g x) → list_all f xs ≡ list_all g xs
all_alike f g [] same = refl
all_alike f g (x ∷ xs) same = rw (same x (inl refl), all_alike f g xs (λ y there. same y (inr there))) refl

-- What was done of a commit alike by two accounts

pub record SameDone (marks others : Marks) (latches more : List Latch) (k : ℕ) : Type 0 where
  pub claimed : has_number others.claimed k ≡ has_number marks.claimed k
  pub written : (object : ℕ) → has_pair others.written k object ≡ has_pair marks.written k object
  pub flushed : (crtc : ℕ) → has_pair others.flushed k crtc ≡ has_pair marks.flushed k crtc
  pub done : has_number others.done k ≡ has_number marks.done k
  pub latched : (crtc : ℕ) → has_latched more k crtc ≡ has_latched latches k crtc
  pub cleaned : has_number others.cleaned k ≡ has_number marks.cleaned k

module _ (t : Topology) (cs : List Commit) (marks others : Marks) (latches more : List Latch) (k : ℕ) where
  pub tail_with : (x : Tail) (p : Progress) → IsTailOf t cs marks latches k x → IsProgressOf others more k p
      → IsTailOf t cs others more k (record x { progress = p })
  tail_with x p is progress = record {
    signals = is.signals;
    checked = is.checked;
    in_fences = is.in_fences;
    previous_are = is.previous_are;
    progress = progress;
  }

  -- a commit that has flipped has so after further latches
  flipped_still : (object : ℕ) → ((crtc : ℕ) → has_latched latches k crtc ≡ true → has_latched more k crtc ≡ true)
      → has_flipped t cs latches k object ≡ true → has_flipped t cs more k object ≡ true
  unfolding has_flipped
  flipped_still object still flipped =
      list_all-from (λ crtc. not (commit_concerns t cs k object crtc) || has_latched more k crtc) (ids_of t Crtc)
      (λ crtc is. implied_from (commit_concerns t cs k object crtc) (has_latched more k crtc)
      (λ on. still crtc (implied (commit_concerns t cs k object crtc) (has_latched latches k crtc)
      (list_all-at (λ crtc. not (commit_concerns t cs k object crtc) || has_latched latches k crtc) (ids_of t Crtc) crtc flipped is) on)))

  pub over_still : (has_number marks.claimed k ≡ true → has_number others.claimed k ≡ true)
      → (has_number marks.done k ≡ true → has_number others.done k ≡ true)
      → ((crtc : ℕ) → has_latched latches k crtc ≡ true → has_latched more k crtc ≡ true)
      → IsOver t cs marks latches k → IsOver t cs others more k
  over_still claimed done latched over = record {
    claimed = claimed over.claimed;
    done = done over.done;
    flipped = λ object there touched. flipped_still object latched (over.flipped object there touched);
  }

  pub kept_same : (o : Option Tail) → SameDone marks others latches more k → IsKept t cs marks latches k o → IsKept t cs others more k o
  kept_same None same kept = (
    same.cleaned ∙ kept.0,
    over_still (λ is. same.claimed ∙ is) (λ is. same.done ∙ is) (λ crtc is. same.latched crtc ∙ is) kept.1,
  )
  kept_same (Some x) same kept = let was = kept.1.progress in (
    same.cleaned ∙ kept.0,
    tail_with x x.progress kept.1 (record {
      claimed = was.claimed ∙ sym same.claimed;
      crtcs = λ i few. was.crtcs i few ∙ sym (same.written (100 + i));
      planes = λ i few. was.planes i few ∙ sym (same.written (200 + i));
      flushed = λ i few. was.flushed i few ∙ sym (same.flushed (100 + i));
      done = was.done ∙ sym same.done;
      latched = λ i few. was.latched i few ∙ sym (same.latched (100 + i));
    }),
  )

  pub untouched_same : SameDone marks others latches more k → IsUntouched marks latches k → IsUntouched others more k
  untouched_same same was = record {
    claimed = same.claimed ∙ was.claimed;
    written = λ object. same.written object ∙ was.written object;
    flushed = λ crtc. same.flushed crtc ∙ was.flushed crtc;
    done = same.done ∙ was.done;
    latched = λ crtc. same.latched crtc ∙ was.latched crtc;
    cleaned = same.cleaned ∙ was.cleaned;
  }

-- Behind a further commit

module _ (t : Topology) (c : Commit) (cs : List Commit) where
  pub previous_older : (n object : ℕ) → n ≤ length cs → previous t (c ∷ cs) n object ≡ previous t cs n object
  unfolding previous
  previous_older n object within = last_same _ _ n (λ k less. touches_old t c cs k object (omega (arith, less, within)))

  pub second_older : (n object : ℕ) (o : Option ℕ) → n ≤ length cs → previous t cs n object ≡ o
      → previous_of t (c ∷ cs) o object ≡ previous_of t cs o object
  unfolding previous
  second_older n object None within is = refl
  second_older n object (Some k) within is =
      (let less : k < n = (last_is (λ j. commit_touches t cs j object) n k is).0 in previous_older k object (omega (arith, less, within)))

  flipped_older : (latches : List Latch) (k object : ℕ) → k < length cs
      → has_flipped t (c ∷ cs) latches k object ≡ has_flipped t cs latches k object
  unfolding has_flipped
  flipped_older latches k object within =
      all_alike _ _ (ids_of t Crtc) (λ crtc is. ap (λ b. not b || has_latched latches k crtc) (concerns_old t c cs k object crtc within))

  pub kept_older : (marks : Marks) (latches : List Latch) (k : ℕ) (o : Option Tail) → k < length cs
      → IsKept t cs marks latches k o → IsKept t (c ∷ cs) marks latches k o
  kept_older marks latches k None within kept = (
    kept.0,
    record {
      claimed = kept.1.claimed;
      done = kept.1.done;
      flipped = λ object there touched.
          flipped_older latches k object within ∙ kept.1.flipped object there (sym (touches_old t c cs k object within) ∙ touched);
    },
  )
  kept_older marks latches k (Some x) within kept = let same = sym (commit_old t c cs k within) in (
    kept.0,
    record {
      signals = subst (λ (d : Commit). AreSignalsOf t d x.signals) same kept.1.signals;
      checked = subst (λ (d : Commit). IsCheckedFor t d x.checked) same kept.1.checked;
      in_fences = kept.1.in_fences ∙ sym (waited_old t c cs k within);
      previous_are = λ p place on. kept.1.previous_are p place on ∙ sym (previous_older k _ (omega (arith, within)));
      progress = kept.1.progress;
    },
  )

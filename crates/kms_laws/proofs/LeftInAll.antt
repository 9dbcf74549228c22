-- What is left of all tails, step by step, and that nothing is left of a commit that is cleaned.
use Rattle.std.proofs.Common.{◌≡◌, ℕ, suc, ◌+◌, ◌<◌, ◌≤◌, List, [], ◌∷◌, length, Bool, true, false, not, ◌&&◌, Some, refl, sym, ap, ◌∙◌}
use Rattle.std.proofs.Common.{arith, inl, inr, ◌⊎◌}
use Rattle.std.specs.Prelude.{filter, if◌then◌else◌}
use Rattle.std.proofs.lemmas.Bool.{and_parts, false_from_ne_true, false≢true}
use Rattle.kms_model.specs.Firsts.{one_if}
use Rattle.kms_model.specs.declared.objects.Kind.TheVariants.{Crtc}
use Rattle.kms_model.specs.declared.replies.Step.{Step}
use Rattle.kms_model.specs.declared.replies.Step.TheVariants.{Begin, BackOff, Claim, Cleanup, Flush, HwDone, Lock, Make, Read, Refuse}
use Rattle.kms_model.specs.declared.replies.Step.TheVariants.{Relock, Return, Signal, Stall, Swap, Test, Vblank, Write}
use Rattle.kms_model.specs.declared.scripts.Script.{Script}
use Rattle.kms_model.specs.Device.Objects.{ids_of}
use Rattle.kms_model.specs.Machine.Commits.{commit_names, commit_touches, has_latched, has_number, has_pair, registered}
use Rattle.kms_model.specs.Machine.Effects.{next}
use Rattle.kms_model.specs.Machine.Histories.{legal}
use Rattle.kms_model.specs.Machine.State.{Machine}
use Rattle.kms_model.proofs.Items.{IsIn}
use Rattle.kms_model.proofs.TouchedLemmas.{HasFewObjects}
use Rattle.kms_laws.specs.TailsLeft.{LeavesLess, LeavesLessInAll, all_left, commit_of_step, is_swap, sum, tail_left}
use Rattle.kms_laws.proofs.Basics.{both_bools}
use Rattle.kms_laws.proofs.Drained.{flushed-test, written-test}
use Rattle.kms_laws.proofs.Counted.{counts_carried, is_vblank}
use Rattle.kms_laws.proofs.EachStep.{Carries, each_step}
use Rattle.kms_laws.proofs.ShorterTails.{step_lowers, tails_short}
use Rattle.kms_laws.proofs.Sizes.{sum-last, sum-more, sum-one}
use Rattle.kms_laws.proofs.Steps.{Holds}

-- A commit that is cleaned

none_pass : {A : Type 0} (p : A → Bool) (xs : List A) → ((x : A) → IsIn x xs → p x ≡ false) → length (filter p xs) ≡ 0
none_pass p [] fails = refl
none_pass {A} p (x ∷ xs) fails = rw (fails x (inl refl)) (none_pass p xs (λ y is. fails y (inr is)))

pub cleaned_over : (s : Script) (m : Machine) (k : ℕ) → Holds s m → has_number m.device.marks.cleaned k ≡ true → tail_left s.topology m k
    ≡ 0
cleaned_over s m k H clean =
    let t = s.topology in
    let cs = m.device.commits in
    let marks = m.device.marks in
    let latches = m.records.latches in
    let done = H.tail.marks.clean_done k clean in
    let w = none_pass (λ object. commit_touches t cs k object && not (has_pair marks.written k object)) (registered t)
    (λ o is. written-test s m H k clean o is) in
    let f = none_pass (λ crtc. commit_names t cs k crtc && not (has_pair marks.flushed k crtc)) (ids_of t Crtc)
    (λ c is. flushed-test s m H k clean c is) in
    let l = none_pass (λ crtc. commit_names t cs k crtc && not (has_latched latches k crtc)) (ids_of t Crtc) latched in
    let a : one_if (not (has_number marks.claimed k)) ≡ 0 = ap (λ b. one_if (not b)) (H.tail.marks.done k done).0 in
    let b : one_if (not (has_number marks.done k)) ≡ 0 = ap (λ b. one_if (not b)) done in
    let c : one_if (not (has_number marks.cleaned k)) ≡ 0 = ap (λ b. one_if (not b)) clean in
    omega (arith, w, f, l, a, b, c)
  where
    latched : (c : ℕ) → IsIn c (ids_of s.topology Crtc)
        → (commit_names s.topology m.device.commits k c && not (has_latched m.records.latches k c)) ≡ false
    latched c is =
        false_from_ne_true (commit_names s.topology m.device.commits k c && not (has_latched m.records.latches k c))
        (λ h. let two = and_parts (commit_names s.topology m.device.commits k c) _ h
        in both_bools _ two.1 (ap not (H.tail.marks.cleaned k c clean is two.0)))

-- How many commits there are

abbrev pub count_after : Step → ℕ → ℕ
count_after step n = if is_swap step then suc n else n

module _ (s : Script) (m : Machine) where
  abbrev Counts : Step → Machine → Type 0
  Counts step m2 = length m2.device.commits ≡ count_after step (length m.device.commits)

  leaves : (step : Step) → is_swap step ≡ false → is_vblank step ≡ false → Counts step m
  leaves step no_swap no_blanking = sym (ap (λ b. if b then suc (length m.device.commits) else length m.device.commits) no_swap)

  carries_count : Carries s m Counts
  carries_count = counts_carried s m (λ step n counts. n ≡ count_after step (length m.device.commits)) leaves (λ client. refl)
      (λ kind index. refl)

  pub commits_counted : (step : Step) → legal s m step ≡ true → Counts step (next s m step)
  commits_counted step h = each_step s m Counts carries_count step h

-- All tails

-- what each commit that was there leaves
abbrev pub Lowers : Script → Machine → Step → Machine → Type 0
Lowers s m step m2 = (k : ℕ) → k < length m.device.commits → LeavesLess s.topology m m2 step k

module _ (s : Script) (m : Machine) (step : Step) (m2 : Machine) (lowers : Lowers s m step m2) where
  old_left : sum (tail_left s.topology m2) 0 (length m.device.commits) ≤ all_left s.topology m
  old_left = sum-more (tail_left s.topology m2) (tail_left s.topology m) 0 (length m.device.commits)
      (λ k a b. (lowers k (omega (arith, b))).no_more)

  pub left_same : length m2.device.commits ≡ length m.device.commits → all_left s.topology m2 ≤ all_left s.topology m
  left_same e = let a = ap (sum (tail_left s.topology m2) 0) e in let b = old_left in omega (arith, a, b)

  pub left_any : HasFewObjects s.topology → (length m2.device.commits ≡ length m.device.commits)
      ⊎ (length m2.device.commits ≡ suc (length m.device.commits)) → all_left s.topology m2 ≤ all_left s.topology m + 31
  left_any few (inl e) = let a = left_same e in omega (arith, a)
  left_any few (inr e) =
      let a = ap (sum (tail_left s.topology m2) 0) e in
      let b = old_left in
      let c = sum-last (tail_left s.topology m2) 0 (length m.device.commits) in
      let d = tails_short s.topology m2 (0 + length m.device.commits) few in
      omega (arith, a, b, c, d)

  pub left_less : (k : ℕ) → k < length m.device.commits → commit_of_step m step ≡ Some k → length m2.device.commits
      ≡ length m.device.commits → all_left s.topology m2 + 1 ≤ all_left s.topology m
  left_less k lt of_k e =
      let a = ap (sum (tail_left s.topology m2) 0) e in
      let b = sum-one (tail_left s.topology m2) (tail_left s.topology m) k 0 (length m.device.commits)
      (λ j x y. (lowers j (omega (arith, y))).no_more) (let z = (lowers k lt).less of_k in omega (arith, z)) (omega arith)
      (omega (arith, lt)) in
      omega (arith, a, b)

-- a step of a tail is no swap
tail_no_swap : (m : Machine) (step : Step) (k : ℕ) → commit_of_step m step ≡ Some k → is_swap step ≡ false
tail_no_swap m (Swap client) k e = absurd cc
tail_no_swap m (Begin client) k e = refl
tail_no_swap m (Lock client kind index) k e = refl
tail_no_swap m (BackOff client) k e = refl
tail_no_swap m (Relock client) k e = refl
tail_no_swap m (Refuse client) k e = refl
tail_no_swap m (Test client) k e = refl
tail_no_swap m (Make client) k e = refl
tail_no_swap m (Signal client) k e = refl
tail_no_swap m (Claim j) k e = refl
tail_no_swap m (Write j kind index) k e = refl
tail_no_swap m (Flush j kind index) k e = refl
tail_no_swap m (HwDone j) k e = refl
tail_no_swap m (Vblank kind index) k e = refl
tail_no_swap m (Cleanup j) k e = refl
tail_no_swap m (Read client) k e = refl
tail_no_swap m (Return client) k e = refl
tail_no_swap m Stall k e = refl

same_count : (swaps : Bool) (n : ℕ) → swaps ≡ false → (if swaps then suc n else n) ≡ n
same_count true n other = absurd (false≢true (sym other))
same_count false n other = refl

either_count : (swaps : Bool) (n l : ℕ) → l ≡ (if swaps then suc n else n) → (l ≡ n) ⊎ (l ≡ suc n)
either_count true n l is = inr is
either_count false n l is = inl is

pub all_shorter : (s : Script) (m : Machine) → Holds s m → (step : Step) → legal s m step ≡ true
    → LeavesLessInAll s.topology m (next s m step) step
all_shorter s m H step l =
    let lowers : Lowers s m step (next s m step) = λ k old. step_lowers s m H step l k old in
    let counted = commits_counted s m step l in
    record {
      of_tail = λ k old of_k. let less = left_less s m step (next s m step) lowers k old of_k
          (counted ∙ same_count (is_swap step) (length m.device.commits) (tail_no_swap m step k of_k)) in omega (arith, less);
      of_swap = left_any s m step (next s m step) lowers H.tail.few
          (either_count (is_swap step) (length m.device.commits) (length (next s m step).device.commits) counted);
      of_others = λ other. left_same s m step (next s m step) lowers (counted ∙ same_count (is_swap step) (length m.device.commits) other);
    }

-- The tails of commits, settling: each of their steps leaves less to do.
use Rattle.std.proofs.Common.{◌≡◌, ℕ, zero, suc, ◌*◌, ◌<◌, ◌≤◌, List, [], ◌∷◌, length, true, Option, Some, None, refl, sym, ap, ◌∙◌, subst}
use Rattle.std.proofs.Common.{arith, inl, inr, ⊎_elim}
use Rattle.std.specs.Prelude.{find, is_some}
use Rattle.std.specs.List.{range_with_len}
use Rattle.kms_model.specs.declared.objects.Kind.TheVariants.{Crtc, Plane}
use Rattle.kms_model.specs.declared.objects.Topology.{Topology}
use Rattle.kms_model.specs.declared.replies.Step.{Step}
use Rattle.kms_model.specs.declared.replies.Step.TheVariants.{Flush, Vblank, Write}
use Rattle.kms_model.specs.declared.scripts.Script.{Script}
use Rattle.kms_model.specs.Device.Objects.{count_of, object_id}
use Rattle.kms_model.specs.Firsts.{first_some, or_else}
use Rattle.kms_model.specs.Machine.Histories.{at, commit_numbers, for_each, is_history, legal, steps_of_commit, steps_with_go}
use Rattle.kms_model.specs.Machine.State.{Machine, first_machine, go_at}
use Rattle.kms_model.specs.Order.Turns.{Progress, does, does_then, settles, tail_step, tails_go}
use Rattle.kms_model.specs.Script.WellFormed.{IsWellFormed}
use Rattle.kms_model.proofs.Items.{IsIn}
use Rattle.kms_model.proofs.ThingLemmas.{find-in}
use Rattle.kms_model.proofs.TouchedLemmas.{few_objects}
use Rattle.kms_laws.specs.TailsLeft.{all_left, commit_of_step, tail_left}
use Rattle.kms_laws.proofs.Basics.{in_either}
use Rattle.kms_laws.proofs.Framebuffers.{range-below}
use Rattle.kms_laws.proofs.LeftInAll.{all_shorter}
use Rattle.kms_laws.proofs.Modes.{plain-from}
use Rattle.kms_laws.proofs.Quiet.{filter-in, map-from}
use Rattle.kms_laws.proofs.ShorterTails.{tails_short}
use Rattle.kms_laws.proofs.Sizes.{sum-most}
use Rattle.kms_laws.proofs.Steps.{Holds, history_kept}
use Rattle.kms_laws.proofs.Swapped.{flush_within}
use Rattle.kms_laws.proofs.Turning.{tail-legal, run-more}
use Rattle.kms_core.specs.Run.{Run, gains, machine}
use Rattle.kms_one_thread.specs.Rounds.{ExtendsRun, progress}
use Rattle.kms_one_thread.proofs.Histories.{goes_by, run_does, stays}

-- Whose tail a step is of

-- a step of the tail of a commit that is there
pub record HasTail (m : Machine) (step : Step) : Type 0 where
  pub commit : ℕ
  pub within : commit < length m.device.commits
  pub of_it : commit_of_step m step ≡ Some commit

of_commit : (t : Topology) (m : Machine) (k : ℕ) (step : Step) → IsIn step (steps_of_commit t k) → commit_of_step m step ≡ Some k
of_commit t m k step (inl same) = subst (λ z. commit_of_step m z ≡ Some k) same refl
of_commit t m k step (inr rest) =
    ⊎_elim
    (λ a. let r = map-from (λ index. Write k Crtc index) _ step a in subst (λ z. commit_of_step m z ≡ Some k) r.same refl)
    (λ more.
    ⊎_elim
    (λ b. let r = map-from (λ index. Write k Plane index) _ step b in subst (λ z. commit_of_step m z ≡ Some k) r.same refl)
    (λ more2.
    ⊎_elim
    (λ c. let r = map-from (λ index. Flush k Crtc index) _ step c in subst (λ z. commit_of_step m z ≡ Some k) r.same refl)
    (λ ends.
    ⊎_elim
    (λ same. subst (λ z. commit_of_step m z ≡ Some k) same refl)
    (λ last. ⊎_elim (λ same. subst (λ z. commit_of_step m z ≡ Some k) same refl) (λ never. absurd never) last)
    ends)
    (in_either (for_each t Crtc (λ kind index. Flush k kind index)) _ step more2))
    (in_either (for_each t Plane (λ kind index. Write k kind index)) _ step more))
    (in_either (for_each t Crtc (λ kind index. Write k kind index)) _ step rest)

first_found : {A : Type 0} (f : ℕ → Option A) (ks : List ℕ) (x : A) → first_some f ks ≡ Some x → (k : ℕ) × IsIn k ks × (f k ≡ Some x)
first_found {A} f [] x found = absurd cc
first_found {A} f (k ∷ ks) x found = by_first (f k) refl found (λ later. first_found f ks x later)
  where
    by_first : (o : Option A) → f k ≡ o → or_else o (first_some f ks) ≡ Some x
        → (first_some f ks ≡ Some x → (j : ℕ) × IsIn j ks × (f j ≡ Some x)) → (j : ℕ) × IsIn j (k ∷ ks) × (f j ≡ Some x)
    by_first None is e rest = let r = rest e in (r.0, inr r.1, r.2)
    by_first (Some y) is e rest = (k, inl refl, is ∙ e)

module _ (s : Script) (m : Machine) (holds : Holds s m) where
  of_go : (step : Step) → IsIn step (steps_with_go s.topology m) → HasTail m step
  of_go step is =
      let r = map-from (λ index. Vblank Crtc index) _ step is in
      let goes = (filter-in (λ index. is_some (go_at m.device (object_id Crtc index))) (range_with_len 0 (count_of s.topology Crtc))
      r.number r.is_in).1 in
      subst (HasTail m) r.same (by_go r.number (go_at m.device (object_id Crtc r.number)) refl goes)
    where
      by_go : (index : ℕ) (o : Option ℕ) → go_at m.device (object_id Crtc index) ≡ o → is_some o ≡ true → HasTail m (Vblank Crtc index)
      by_go index None is goes = absurd cc
      by_go index (Some k) is goes = record {
        commit = k;
        within = flush_within holds.tail k (object_id Crtc index)
            (holds.tail.marks.go_is k (object_id Crtc index) is).flushed;
        of_it = is;
      }

  pub tail_of : (step : Step) → tail_step s m ≡ Some step → HasTail m step
  unfolding tail_step
  tail_of step found = by_commits (first_some (λ k. find (legal s m) (steps_of_commit s.topology k)) (commit_numbers m)) refl found
    where
      by_commits : (o : Option Step) → first_some (λ k. find (legal s m) (steps_of_commit s.topology k)) (commit_numbers m) ≡ o
          → or_else o (find (legal s m) (steps_with_go s.topology m)) ≡ Some step → HasTail m step
      by_commits None is e = of_go step (find-in (legal s m) (steps_with_go s.topology m) step e)
      by_commits (Some other) is e =
          let r = first_found (λ k. find (legal s m) (steps_of_commit s.topology k)) (commit_numbers m) step (is ∙ e) in
          let low = range-below 0 (length m.device.commits) r.0 r.1 in
          record {
            commit = r.0;
            within = omega (arith, low);
            of_it = of_commit s.topology m r.0 step
                (find-in (legal s m) (steps_of_commit s.topology r.0) step r.2);
          }

-- Steps that leave less

module _ (r : Run) (step : Step) (formed : IsWellFormed r.script) (is : is_history r.script r.steps ≡ true)
    (found : Some step ≡ tail_step r.script (machine r)) where
  pub next_legal : legal r.script (machine r) step ≡ true
  next_legal = tail-legal r.script (machine r) step (sym found)

  pub next_tail : HasTail (machine r) step
  next_tail = tail_of r.script (machine r) (history_kept r.script r.steps (plain-from r.script formed) is) step (sym found)

  pub next_less : (new : Run) → new ≡ gains r (step ∷ []) → all_left new.script.topology (machine new)
      < all_left r.script.topology (machine r)
  next_less new after =
      subst (λ (z : Run). all_left z.script.topology (machine z) < all_left r.script.topology (machine r)) (sym after)
      (subst (λ m. all_left r.script.topology m < all_left r.script.topology (machine r))
      (sym (run-more r.script (first_machine r.script.topology) r.steps step))
      ((all_shorter r.script (machine r) (history_kept r.script r.steps (plain-from r.script formed) is) step next_legal).of_tail
      next_tail.commit next_tail.within next_tail.of_it))

few_left : (s : Script) (h : List Step) → IsWellFormed s → all_left s.topology (at s h) ≤ 31 * length (at s h).device.commits
few_left s h formed =
    let few = sum-most (tail_left s.topology (at s h)) 31 0 (length (at s h).device.commits)
    (λ k. tails_short s.topology (at s h) k (few_objects s.topology formed.device)) in
    omega (arith, few)

-- Settling

tails_none : (s : Script) (left : ℕ) (run : Progress) → tail_step s run.machine ≡ None → tails_go s left run ≡ run
unfolding tails_go
tails_none s zero run none = refl
tails_none s (suc left) run none = ap (does_then s (λ step done. tails_go s left done) run) none

tails_some : (s : Script) (left : ℕ) (run : Progress) (step : Step) → tail_step s run.machine ≡ Some step → tails_go s (suc left) run
    ≡ tails_go s left (does s run step)
unfolding tails_go
tails_some s left run step found = ap (does_then s (λ step done. tails_go s left done) run) found

-- with some number of steps more, and it is enough, the tails have settled
pub record IsSettling (old now : Run) : Type 0 where
  pub on : ExtendsRun old now
  pub left : ℕ
  pub enough : IsWellFormed now.script → is_history now.script now.steps ≡ true → all_left now.script.topology (machine now) ≤ left
  pub same : tails_go now.script left (progress now) ≡ settles old.script (progress old)

pub settling_first : (old : Run) → IsSettling old old
settling_first old = record {
  on = stays old;
  left = 31 * length (machine old).device.commits;
  enough = λ formed is. few_left old.script old.steps formed;
  same = refl;
}

pub settling_none : (old now : Run) → IsSettling old now → None ≡ tail_step now.script (machine now) → progress now
    ≡ settles old.script (progress old)
settling_none old now settling none = sym (tails_none now.script settling.left (progress now) (sym none)) ∙ settling.same

module _ (old now new : Run) (step : Step) (settling : IsSettling old now) (formed : IsWellFormed now.script)
    (is : is_history now.script now.steps ≡ true) (found : Some step ≡ tail_step now.script (machine now))
    (after : new ≡ gains now (step ∷ [])) where
  pub settling_some : IsSettling old new
  settling_some = by_left settling.left refl
    where
      less : all_left new.script.topology (machine new) < all_left now.script.topology (machine now)
      less = next_less now step formed is found new after

      by_left : (left : ℕ) → settling.left ≡ left → IsSettling old new
      by_left zero e = absurd (let few = settling.enough formed is in omega (arith, less, few, e))
      by_left (suc left) e = record {
        on = goes_by old now new (step ∷ []) settling.on after;
        left = left;
        enough = (λ _ _. let few = settling.enough formed is in omega (arith, less, few, e));
        same =
            subst (λ (r : Run). tails_go r.script left (progress r) ≡ settles old.script (progress old)) (sym after)
            (ap (tails_go now.script left) (run_does now.script now.steps step)
            ∙ sym (tails_some now.script left (progress now) step (sym found))
            ∙ ap (λ n. tails_go now.script n (progress now)) (sym e)
            ∙ settling.same);
      }

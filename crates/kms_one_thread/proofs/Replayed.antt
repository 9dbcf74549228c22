-- A schedule that is replayed, step by step.
use Rattle.std.proofs.Common.{◌≡◌, ℕ, suc, ◌+◌, ◌<◌, ◌≤◌, List, [], ◌∷◌, length, get_or, take, drop, true, false, Some, None, refl, sym, ap}
use Rattle.std.proofs.Common.{◌∙◌, subst, arith, append_assoc, append-nil}
use Rattle.std.proofs.Math.Seq.{drop-cons}
use Rattle.std.proofs.lemmas.Bool.{cond-false, cond-true}
use Rattle.std.proofs.lemmas.List.{drop_all, take_all, take_more}
use Rattle.kms_model.specs.declared.replies.Step.{Step}
use Rattle.kms_model.specs.declared.scripts.Script.{Script}
use Rattle.kms_model.specs.Machine.Effects.{next}
use Rattle.kms_model.specs.Machine.Histories.{first_illegal, legal}
use Rattle.kms_model.specs.Machine.State.{Machine, first_machine}
use Rattle.kms_laws.proofs.Turning.{run-more}
use Rattle.kms_core.specs.Run.{Run, gains, machine}
use Rattle.kms_one_thread.specs.Replays.{Did, StopsAt, illegal_behind}

-- so many steps are done, and the first that is not legal is among the others
pub record IsReplaying (old now : Run) (steps : List Step) (done : ℕ) : Type 0 where
  pub history : now ≡ gains old (take done steps)
  pub first : first_illegal now.script (machine now) (done + 1) (drop done steps) ≡ illegal_behind old steps

legal_first : (s : Script) (m : Machine) (place : ℕ) (step : Step) (steps : List Step) → legal s m step ≡ true
    → first_illegal s m place (step ∷ steps) ≡ first_illegal s (next s m step) (place + 1) steps
unfolding first_illegal
legal_first s m place step steps may = cond-true (legal s m step) _ (Some place) may

illegal_first : (s : Script) (m : Machine) (place : ℕ) (step : Step) (steps : List Step) → legal s m step ≡ false
    → first_illegal s m place (step ∷ steps) ≡ Some place
unfolding first_illegal
illegal_first s m place step steps may_not = cond-false (legal s m step) (first_illegal s (next s m step) (place + 1) steps) (Some place)
    may_not

none_left : (s : Script) (m : Machine) (place : ℕ) → first_illegal s m place [] ≡ None
unfolding first_illegal
none_left s m place = refl

module _ (old now : Run) (steps : List Step) (done : ℕ) (d : Step) (replaying : IsReplaying old now steps done) (more : done < length steps)
  where
    pub replaying_next : (new : Run) → legal now.script (machine now) (get_or steps done d) ≡ true → new
        ≡ gains now (get_or steps done d ∷ []) → IsReplaying old new steps (done + 1)
    replaying_next new may after = record {
      history =
          after
          ∙ ap (λ (r : Run). gains r (get_or steps done d ∷ [])) replaying.history
          ∙ (λ i. record old { steps = append_assoc old.steps (take done steps) (get_or steps done d ∷ []) i })
          ∙ ap (gains old) (sym (take_more steps done d more));
      first =
          subst (λ (r : Run). first_illegal r.script (machine r) (done + 1 + 1) (drop (done + 1) steps) ≡ illegal_behind old steps)
          (sym after)
          (ap (λ m. first_illegal now.script m (done + 1 + 1) (drop (done + 1) steps))
          (run-more now.script (first_machine now.script.topology) now.steps (get_or steps done d))
          ∙ sym (legal_first now.script (machine now) (done + 1) (get_or steps done d) (drop (done + 1) steps) may)
          ∙ ap (first_illegal now.script (machine now) (done + 1)) (sym (dropped steps done d more))
          ∙ replaying.first);
    }
      where
        dropped : (xs : List Step) (i : ℕ) (x : Step) → i < length xs → drop i xs ≡ get_or xs i x ∷ drop (i + 1) xs
        dropped xs i x l = let e : suc i ≡ i + 1 = omega arith in drop-cons xs i x l ∙ ap (λ n. get_or xs i x ∷ drop n xs) e

    pub stops_at : legal now.script (machine now) (get_or steps done d) ≡ false → StopsAt old steps now (done + 1)
    stops_at may_not = record {
      first =
          sym replaying.first
          ∙ ap (first_illegal now.script (machine now) (done + 1)) (drop-cons steps done d more)
          ∙ illegal_first now.script (machine now) (done + 1) (get_or steps done d) (drop (suc done) steps) may_not;
      history = replaying.history ∙ ap (λ n. gains old (take n steps)) (omega arith);
    }

pub did : (old now : Run) (steps : List Step) (done : ℕ) → IsReplaying old now steps done → done ≤ length steps → Did old steps now
did old now steps done replaying within = record { done = done; within = within; history = replaying.history }

module _ (old now : Run) (steps : List Step) (done : ℕ) (replaying : IsReplaying old now steps done) (all : length steps ≤ done) where
  pub replayed : now ≡ gains old steps
  replayed = replaying.history ∙ ap (gains old) (take_all done steps all)

  pub all_legal : illegal_behind old steps ≡ None
  all_legal = sym replaying.first ∙ ap (first_illegal now.script (machine now) (done + 1)) (drop_all done steps all) ∙ none_left now.script
      (machine now) (done + 1)

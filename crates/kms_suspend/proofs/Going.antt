-- A history of a longer script goes on behind another, whose commits are all cleaned: by stages.
use Rattle.std.proofs.Common.{◌≡◌, ℕ, zero, suc, ◌+◌, ◌<◌, ◌≤◌, true, false, List, [], ◌∷◌, ◌++◌, length, Some, inl, inr, ◌⊎◌, append_assoc}
use Rattle.std.proofs.Common.{append-nil, refl, sym, ap, ◌∙◌, subst, arith}
use Rattle.std.specs.Prelude.{◌==◌}
use Rattle.std.proofs.lemmas.Bool.{and_from}
use Rattle.std.proofs.lemmas.Bool.Decides.{eqb_tells, nat_tests}
use Rattle.kms_model.specs.declared.objects.Topology.{Topology}
use Rattle.kms_model.specs.declared.replies.Step.{Step}
use Rattle.kms_model.specs.declared.scripts.Request.{Request}
use Rattle.kms_model.specs.declared.scripts.Script.{Script}
use Rattle.kms_model.specs.declared.worlds.World.{World}
use Rattle.kms_model.specs.Machine.Commits.{asks_event, commit_at, no_commit}
use Rattle.kms_model.specs.Machine.Effects.{next}
use Rattle.kms_model.specs.Machine.Histories.{are_legal, at, is_history, legal, run_steps}
use Rattle.kms_model.specs.Machine.State.{Commit, Machine, first_machine}
use Rattle.kms_model.specs.Request.Flags.{wants_event}
use Rattle.kms_model.specs.Script.WellFormed.{IsWellFormed}
use Rattle.kms_model.proofs.Guards.{legal_parts}
use Rattle.kms_model.proofs.CommitFacts.{commit_new}
use Rattle.kms_laws.specs.TailsLeft.{CleanedTailsAreOver, TailsGetShorter, commit_of_step}
use Rattle.kms_laws.proofs.EachStep.{each_step}
use Rattle.kms_laws.proofs.Turning.{run-more}
use Rattle.kms_suspend.proofs.Stages.{Given, Goes, IsSilent, commits_of, goes_on}

-- no commit has a number past those that are there
commit_past : (t : Topology) (cs : List Commit) (j : ℕ) → length cs ≤ j → commit_at t cs j ≡ no_commit t
unfolding commit_at
commit_past t [] j past = refl
commit_past t (c ∷ cs) j past = elim (eqb_tells (length cs) j) [
  | inl here ↦ absurd (omega (arith, past, here.1))
  | inr away ↦ rw away.0 (commit_past t cs j (omega (arith, past)))
]

-- a commit behind others is what it was
commit_behind : (t : Topology) (c : Commit) (cs : List Commit) (j : ℕ) (P : Commit → Type 0) → (length cs == j) ≡ false
    → P (commit_at t cs j) → P (commit_at t (c ∷ cs) j)
unfolding commit_at
commit_behind t c cs j P away is = rw away is

-- where a front has no step more, what follows it is legal behind it
split_legal : (s : Script) (m : Machine) (h more : List Step) → are_legal s m (h ++ more) ≡ true
    → (are_legal s m h ≡ true) × (are_legal s (run_steps s m h) more ≡ true)
unfolding run_steps are_legal
split_legal s m [] more is = (refl, is)
split_legal s m (step ∷ h) more is =
    let all = legal_parts s m step (h ++ more) is in
    let rest = split_legal s (next s m step) h more all.rest in
    (and_from _ _ all.first rest.0, rest.1)

module _ (s : Script) (c n : ℕ) (requests : ℕ → Request) (worlds : ℕ → World) (m0 : Machine)
    (formed : IsWellFormed s) (given : Given s c n (length m0.device.commits) requests worlds m0)
    (shorter : TailsGetShorter) (over : CleanedTailsAreOver) where
  abbrev k : ℕ
  k = length m0.device.commits

  abbrev Going : Machine → Type 0
  Going m = Goes s c n k requests worlds m0 m

  -- what holds of no commit and of the new ones holds of each number that is not a commit's of before
  pub each_new : (P : Commit → Type 0) → P (no_commit s.topology)
      → ((i : ℕ) → i < 2 → P (record { client = c; command = n + 1 + i; request = requests i; world = worlds i }))
      → (i : ℕ) → i ≤ 2 → (j : ℕ) → k ≤ j → P (commit_at s.topology (commits_of s c n k requests worlds m0 i) j)
  each_new P none new zero few j old = subst P (sym (commit_past s.topology m0.device.commits j old)) none
  each_new P none new (suc i) few j old =
      let cs = commits_of s c n k requests worlds m0 i in
      elim (eqb_tells (length cs) j) [
        | inl here ↦ subst (λ x. P (commit_at s.topology (commits_of s c n k requests worlds m0 (suc i)) x)) here.1
            (subst P (sym (commit_new s.topology _ cs)) (new i (omega (arith, few))))
        | inr away ↦ commit_behind s.topology _ cs j P away.0 (each_new P none new i (omega (arith, few)) j old)
      ]

  -- none of the new commits wants an event
  none_new : (i : ℕ) → i ≤ 2 → (j : ℕ) → k ≤ j → asks_event s.topology (commits_of s c n k requests worlds m0 i) j ≡ false
  none_new = each_new (λ x. wants_event x.request.flags ≡ false) refl (λ i low. (given.quiet i low).event)

  count_of : (i : ℕ) → length (commits_of s c n k requests worlds m0 i) ≡ k + i
  count_of zero = omega arith
  count_of (suc i) = let before = count_of i in omega (arith, before)

  -- the tail of no step delivers an event: a commit of before is cleaned, and nothing of it is left
  silent : (h : List Step) → is_history s h ≡ true → Going (at s h) → (step : Step) → legal s (at s h) step ≡ true
      → IsSilent s c n k requests worlds m0 (at s h) step
  silent h is g step l = λ j of_step. by_age j of_step (nat_cases j)
    where
      nat_cases : (j : ℕ) → (j < k) ⊎ (k ≤ j)
      nat_cases j = grind (arith, nat_tests)

      by_age : (j : ℕ) → commit_of_step (at s h) step ≡ Some j → (j < k) ⊎ (k ≤ j) → asks_event s.topology (at s h).device.commits j ≡ false
      by_age j of_step (inr new) = ap (λ cs. asks_event s.topology cs j) g.stage.commits ∙ none_new g.done g.few j new
      by_age j of_step (inl old) =
          let none = over s h formed is j (g.stage.cleaned j old) in
          let there : j < length (at s h).device.commits =
          (let count = ap length g.stage.commits ∙ count_of g.done in omega (arith, count, old)) in
          let less = (shorter s h formed is step l j there).less of_step in
          absurd (omega (arith, none, less))

  -- so each history behind it is at a stage
  pub goes_further : (h more : List Step) → is_history s (h ++ more) ≡ true → Going (at s h) → Going (at s (h ++ more))
  goes_further h [] is g = subst (λ hs. Going (at s hs)) (sym (append-nil h)) g
  goes_further h (step ∷ more) is g =
      let front = split_legal s (first_machine s.topology) h (step ∷ more) is in
      let l = (legal_parts s (at s h) step more front.1).first in
      let now : Going (next s (at s h) step) = each_step s (at s h) _ (goes_on s c n k requests worlds m0 given (at s h) g) step l
      (silent h front.0 g step l) in
      let same : at s (h ++ step ∷ []) ≡ next s (at s h) step = run-more s (first_machine s.topology) h step in
      let joined : h ++ step ∷ more ≡ (h ++ step ∷ []) ++ more = sym (append_assoc h (step ∷ []) more) in
      subst (λ hs. Going (at s hs)) (sym joined)
      (goes_further (h ++ step ∷ []) more (subst (λ hs. is_history s hs ≡ true) joined is) (subst Going (sym same) now))

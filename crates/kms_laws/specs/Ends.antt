-- How the order of one thread ends: where nothing more can be done, the history is drained or dead.
use Rattle.std.specs.Prelude.{suc, ◌≡◌, ◌↔◌, ◌⊎◌, ◌≤◌, ◌<◌, ℕ, ◌+◌, ◌^◌, Bool, true, false, List, [], ◌∷◌, ◌++◌, is_some}
use Rattle.kms_model.specs.Firsts.{one_if}
use Rattle.kms_model.specs.declared.replies.Step.{Step}
use Rattle.kms_model.specs.declared.replies.Step.TheVariants.{Vblank}
use Rattle.kms_model.specs.declared.scripts.Script.{Script}
use Rattle.kms_model.specs.Device.Objects.{object_id}
use Rattle.kms_model.specs.Machine.Effects.{next}
use Rattle.kms_model.specs.Machine.Histories.{at, is_dead, is_drained, is_history}
use Rattle.kms_model.specs.Machine.State.{Machine, first_machine, go_at}
use Rattle.kms_model.specs.Order.Rounds.{IsFinished, IsOne, is_still, rounds, run_of}
use Rattle.kms_model.specs.Promises.{InEachHistory}
use Rattle.kms_model.specs.Script.Generated.{generated}
use Rattle.kms_model.specs.Script.WellFormed.{IsWellFormed}

-- the history is drained, or it is dead
abbrev pub IsOver : Script → List Step → Type 0
IsOver s h = (is_drained s (at s h) ≡ true) ⊎ (is_dead s (at s h) ≡ true)

-- A round behind a history has no step exactly where the history is over.
abbrev pub RoundsAreStill : Type 0
RoundsAreStill = InEachHistory (λ s h. (is_still s (run_of s h) ≡ true) ↔ IsOver s h)

-- Rounds behind a history end: after 2^53 - 1 of them, or any more, the next has no step.
abbrev pub RoundsEnd : Type 0
RoundsEnd = InEachHistory (λ s h. (most : ℕ) → 2 ^ 53 ≤ suc most → is_still s (rounds s most (run_of s h)) ≡ true)

-- a step that is no vblank without GO; `stall` is one
abbrev pub is_moving : Machine → Step → Bool
is_moving m (Vblank kind index) = is_some (go_at m.device (object_id kind index))
is_moving m _ = true

-- how many such steps there are
unfoldable pub moves_in : Script → Machine → List Step → ℕ
moves_in s m [] = 0
moves_in s m (step ∷ steps) = one_if (is_moving m step) + moves_in s (next s m step) steps

-- No history has so many such steps, whatever their order.
abbrev pub MovesAreFew : Type 0
MovesAreFew = InEachHistory (λ s h. moves_in s (first_machine s.topology) h < 2 ^ 53)

-- a history that goes on behind another, and is over
pub record EndsOver (s : Script) (h finished : List Step) : Type 0 where
  pub more : List Step
  pub goes_on : finished ≡ h ++ more
  pub is_history : is_history s finished ≡ true
  pub is_over : IsOver s finished

-- A history that is continued to its end is over there.
abbrev pub FinishedIsOver : Type 0
FinishedIsOver = InEachHistory (λ s h. (finished : List Step) → IsFinished s h finished → EndsOver s h finished)

-- So is the history that one thread makes of a script.
abbrev pub OneIsOver : Type 0
OneIsOver = (s : Script) (h : List Step) → IsWellFormed s → IsOne s h → (is_history s h ≡ true) × IsOver s h

-- There is only one that continues a history to its end: so one history that one thread makes of a script, and how that ended is a
-- fact about the script.
abbrev pub FinishedIsOne : Type 0
FinishedIsOne = (s : Script) (h finished other : List Step) → IsFinished s h finished → IsFinished s h other → finished ≡ other

-- No history of a generated script is dead.
abbrev pub GeneratedNeverDead : Type 0
GeneratedNeverDead = (seed n : ℕ) (h : List Step) → is_history (generated seed n) h ≡ true
    → is_dead (generated seed n) (at (generated seed n) h) ≡ false

-- So the history that one thread makes of it is drained.
abbrev pub GeneratedDrains : Type 0
GeneratedDrains = (seed n : ℕ) (h : List Step) → IsOne (generated seed n) h → (is_history (generated seed n) h ≡ true)
    × (is_drained (generated seed n) (at (generated seed n) h) ≡ true)

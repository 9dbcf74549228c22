-- A schedule that is replayed on a machine before its first step.
use Rattle.std.proofs.Common.{◌≡◌, ℕ, List, [], refl, subst, sym, ap, ◌∙◌}
use Rattle.kms_model.specs.declared.replies.Step.{Step}
use Rattle.kms_model.specs.declared.scripts.Script.{Script}
use Rattle.kms_model.specs.Machine.Histories.{at, first_illegal, illegal_at, run_steps}
use Rattle.kms_core.specs.Run.{Run}
use Rattle.kms_one_thread.specs.declared.replaying.ReplayError.{ReplayError}
use Rattle.kms_one_thread.specs.declared.replaying.ReplayError.TheVariants.{Illegal}
use Rattle.kms_one_thread.specs.Replays.{Stops, illegal_behind}
use Rattle.kms_run.specs.declared.words.Action.TheVariants.{Replay}
use Rattle.kms_run.specs.Answers.{IsIllegalOf}

at_first : (s : Script) (steps : List Step) → first_illegal s (at s []) 1 steps ≡ illegal_at s steps
unfolding run_steps
at_first s steps = refl

pub illegal_first : (old : Run) (steps : List Step) → old.steps ≡ [] → illegal_behind old steps ≡ illegal_at old.script steps
illegal_first old steps empty = ap (λ h. first_illegal old.script (at old.script h) 1 steps) empty ∙ at_first old.script steps

-- the step at which a replay stops is the first of the schedule that is not legal
pub illegal_of : (old new : Run) (steps : List Step) (place : ℕ) (e : ReplayError) → e ≡ Illegal place
    → old.steps ≡ [] → Stops old steps new e
    → IsIllegalOf Replay old.script steps place
illegal_of old new steps place e is empty stops = from (subst (Stops old steps new) is stops) where
  from : Stops old steps new (Illegal place) → IsIllegalOf Replay old.script steps place
  from at = record { replayed = refl; is_first = sym (illegal_first old steps empty) ∙ at.first }

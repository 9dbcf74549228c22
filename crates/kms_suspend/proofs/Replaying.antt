-- A history that is replayed on a machine before its first step: no step is refused.
use Rattle.std.proofs.Common.{◌≡◌, ℕ, ◌+◌, true, List, [], ◌∷◌, Some, None, refl, subst, sym, ap, ◌∙◌}
use Rattle.kms_model.specs.declared.replies.Step.{Step}
use Rattle.kms_model.specs.declared.scripts.Script.{Script}
use Rattle.kms_model.specs.Machine.Effects.{next}
use Rattle.kms_model.specs.Machine.Histories.{are_legal, at, first_illegal, is_history, run_steps}
use Rattle.kms_model.specs.Machine.State.{Machine, first_machine}
use Rattle.kms_core.specs.Run.{Run}
use Rattle.kms_one_thread.specs.declared.replaying.ReplayError.{ReplayError}
use Rattle.kms_one_thread.specs.declared.replaying.ReplayError.TheVariants.{Illegal}
use Rattle.kms_one_thread.specs.Replays.{Stops}
use Rattle.kms_model.proofs.Guards.{legal_parts}

all_legal : (s : Script) (m : Machine) (place : ℕ) (steps : List Step) → are_legal s m steps ≡ true → first_illegal s m place steps ≡ None
unfolding are_legal first_illegal
all_legal s m place [] are = refl
all_legal s m place (step ∷ steps) are =
    let all = legal_parts s m step steps are in
    rw all.first (all_legal s (next s m step) (place + 1) steps all.rest)

from_start : (s : Script) (steps : List Step) → is_history s steps ≡ true → first_illegal s (at s []) 1 steps ≡ None
unfolding run_steps
from_start s steps is = all_legal s (first_machine s.topology) 1 steps is

-- a replay stops at no step of a history
pub stops_nowhere : (old new : Run) (steps : List Step) (place : ℕ) (e : ReplayError) → e ≡ Illegal place → old.steps ≡ []
    → is_history old.script steps ≡ true → Stops old steps new e → ⊥
stops_nowhere old new steps place e is empty history stops = none (subst (Stops old steps new) is stops)
  where
    none : Stops old steps new (Illegal place) → ⊥
    none stop =
        let given : None ≡ Some place = sym
        (ap (λ h. first_illegal old.script (at old.script h) 1 steps) empty ∙ from_start old.script steps history) ∙ stop.first in
        absurd cc

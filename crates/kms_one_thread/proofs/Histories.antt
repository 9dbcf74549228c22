-- A history that goes on.
use Rattle.std.proofs.Common.{◌≡◌, List, [], ◌∷◌, ◌++◌, length, refl, sym, ap, ◌∙◌, append_assoc, append-nil}
use Rattle.std.proofs.lemmas.List.{length-reverse, reverse-append}
use Rattle.kms_model.specs.declared.replies.Step.{Step}
use Rattle.kms_model.specs.declared.scripts.Script.{Script}
use Rattle.kms_model.specs.Machine.State.{first_machine}
use Rattle.kms_model.specs.Order.Rounds.{run_of}
use Rattle.kms_model.specs.Order.Turns.{does}
use Rattle.kms_laws.proofs.Turning.{run-more}
use Rattle.kms_core.specs.Run.{Run, gains}
use Rattle.kms_one_thread.specs.Rounds.{ExtendsRun, progress}

-- a history with a step more is one whose run does the step
pub run_does : (s : Script) (h : List Step) (step : Step) → run_of s (h ++ step ∷ []) ≡ does s (run_of s h) step
run_does s h step = λ i. record { steps = reverse-append h (step ∷ []) i; machine = run-more s (first_machine s.topology) h step i }

pub progress_length : (r : Run) → length (progress r).steps ≡ length r.steps
progress_length r = length-reverse r.steps

pub stays : (r : Run) → ExtendsRun r r
stays r = record { script = refl; more = []; steps = sym (append-nil r.steps) }

pub goes_by : (old now new : Run) (more : List Step) → ExtendsRun old now → new ≡ gains now more → ExtendsRun old new
goes_by old now new more on e = record {
  script = ap (λ (r : Run). r.script) e ∙ on.script;
  more = on.more ++ more;
  steps = ap (λ (r : Run). r.steps) e ∙ ap (λ z. z ++ more) on.steps ∙ append_assoc old.steps on.more more;
}

pub goes_then : (old now new : Run) → ExtendsRun old now → ExtendsRun now new → ExtendsRun old new
goes_then old now new on further = record {
  script = further.script ∙ on.script;
  more = on.more ++ further.more;
  steps = further.steps ∙ ap (λ z. z ++ further.more) on.steps ∙ append_assoc old.steps on.more further.more;
}

-- what a core's run comes to by a step
pub progress_step : (now new : Run) (step : Step) → new ≡ gains now (step ∷ []) → progress new ≡ does now.script (progress now) step
progress_step now new step after = ap (λ (r : Run). progress r) after ∙ run_does now.script now.steps step

-- The summary of the history that one thread makes of a script.
use Rattle.std.proofs.Common.{◌≡◌, ℕ, true, List, Result, Ok, Err}
use Rattle.std.specs.Prelude.{IfOk}
use Rattle.kms_model.specs.declared.copying.NoMemory.{NoMemory}
use Rattle.kms_model.specs.declared.replies.Step.{Step}
use Rattle.kms_model.specs.declared.scripts.Script.{Script}
use Rattle.kms_model.specs.Headline.{Headline}
use Rattle.kms_model.specs.Machine.Histories.{at, is_drained, is_history}
use Rattle.kms_model.specs.Order.Rounds.{IsOne}
use Rattle.kms_run.specs.Summary.{IsSummaryOf, summary}

pub summed : (s : Script) (h : List Step) (result : Result (List ℕ) NoMemory) → is_history s h ≡ true → IsOne s h
    → is_drained s (at s h) ≡ true → Headline s h
    → IfOk result (λ text. text ≡ summary s h) → IfOk result (IsSummaryOf s)
summed s h (Ok text) history one drained headline is =
    record { history = h; is_history = history; is_one = one; is_drained = drained; text = is; headline = headline }
summed s h (Err e) history one drained headline is = tt

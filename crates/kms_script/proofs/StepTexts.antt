-- The lines of steps that a line can spell are read back, one after the other.
use Rattle.std.proofs.Common.{◌≡◌, ℕ, ◌+◌, List, [], ◌∷◌, ◌++◌, append_assoc, Ok, refl, ap, ◌∙◌}
use Rattle.std.specs.List.{AllByRecursion, flat_map}
use Rattle.kms_model.specs.declared.replies.Step.{Step}
use Rattle.kms_model.specs.Report.History.{step_line}
use Rattle.kms_model.specs.Script.InputLines.{rows_of}
use Rattle.kms_model.specs.Script.Schedules.{IsFitStep, step_in_row, steps_in}
use Rattle.kms_script.specs.Scheduled.{step_text}
use Rattle.kms_script.proofs.RowsAgain.{ended_row, first_row}
use Rattle.kms_script.proofs.StepLines.{line_ended}
use Rattle.kms_script.proofs.StepsRead.{step_written}

row_is_read : (n : ℕ) (step : Step) → IsFitStep step → step_in_row n (ended_row (step_text step)) ≡ Ok step
unfolding step_in_row
row_is_read n step fits = let w = step_written step fits in rw (w.plain, w.read) refl

-- the lines of steps
pub steps_are_read : (n : ℕ) (h : List Step) → AllByRecursion IsFitStep h → steps_in n (rows_of (flat_map step_line h)) ≡ Ok h
unfolding steps_in rows_of
steps_are_read n [] fit = refl
steps_are_read n (step ∷ h) fit =
    let later : List ℕ = flat_map step_line h in
    let parted : step_line step ++ later ≡ step_text step ++ 10
    ∷ later = ap (λ (bs : List ℕ). bs ++ later) (line_ended step) ∙ append_assoc (step_text step) (10 ∷ []) later in
    let rows = ap rows_of parted ∙ first_row (step_text step) later (step_written step fit.0).plain in
    rw (rows, row_is_read n step fit.0, steps_are_read (n + 1) h fit.1) refl

-- Lines of a schedule, one after the other.
use Rattle.std.proofs.Common.{◌≡◌, ℕ, ◌+◌, List, [], ◌∷◌, ◌++◌, append-nil, append_assoc, length, Ok, Err, refl, ap, arith}
use Rattle.std.specs.Prelude.{Result}
use Rattle.kms_model.specs.declared.replies.Step.{Step}
use Rattle.kms_model.specs.Script.InputLines.{Fault, Row, rows_of}
use Rattle.kms_model.specs.Script.Schedules.{step_in_row, steps_in, with_step}
use Rattle.kms_script.specs.declared.faults.ParseError.{ParseError}
use Rattle.kms_script.specs.declared.faults.ParseError.TheVariants as errors
use Rattle.kms_script.specs.Stated.{Gives}

-- steps before those of further lines
abbrev pub with_steps : List Step → Result (List Step) Fault → Result (List Step) Fault
with_steps steps (Ok more) = Ok (steps ++ more)
with_steps steps (Err fault) = Err fault

one_before : (steps : List Step) (step : Step) (r : Result (List Step) Fault)
    → with_steps (steps ++ step ∷ []) r ≡ with_steps steps (with_step (Ok step) r)
one_before steps step (Ok more) = ap Ok (append_assoc steps (step ∷ []) more)
one_before steps step (Err fault) = refl

pub next_step : (steps : List Step) (step : Step) (n : ℕ) (row : Row) (rows : List Row) → step_in_row n row ≡ Ok step
    → with_steps (steps ++ step ∷ []) (steps_in (n + 1) rows) ≡ with_steps steps (steps_in n (row ∷ rows))
unfolding steps_in
next_step steps step n row rows e = rw e (one_before steps step (steps_in (n + 1) rows))

abbrev no_step : ParseError → Result Step ParseError
no_step e = Err e

abbrev pub no_steps : ParseError → Result (List Step) ParseError
no_steps e = Err e

pub step_stopped : (steps : List Step) (n : ℕ) (row : Row) (rows : List Row) (e : ParseError)
    → Gives (λ step. step) (no_step e) (step_in_row n row) → Gives (λ all. all) (no_steps e) (with_steps steps (steps_in n (row ∷ rows)))
unfolding steps_in
step_stopped steps n row rows (errors.Fault line why) is = rw is refl
step_stopped steps n row rows errors.NoMemory is = tt

pub all_read : (steps : List Step) (n : ℕ) (rest : List ℕ) → length rest ≡ 0 → with_steps steps (steps_in n (rows_of rest)) ≡ Ok steps
unfolding steps_in rows_of
all_read steps n [] e = ap Ok (append-nil steps)
all_read steps n (b ∷ bs) e = absurd (omega arith)

-- The lines of steps: each is read as its step, and no step has a line of which none is read.
use Rattle.std.proofs.Common.{◌≡◌, ℕ, ◌≤◌, List, [], ◌∷◌, ◌++◌, Option, Some, None, sym, ap, ◌∙◌}
use Rattle.std.specs.Prelude.{codes, IfNone, IfSome}
use Rattle.std.specs.Option.{ForSome}
use Rattle.std.proofs.lemmas.List.{append_cancel_right}
use Rattle.kms_model.specs.declared.replies.Step.{Step}
use Rattle.kms_model.specs.Report.History.{step_line, step_words}
use Rattle.kms_model.specs.Script.Schedules.{IsFitStep, IsSpeltOnce, step_read}
use Rattle.kms_script.specs.Scheduled.{IsStepLine, index_in_step, step_text}
use Rattle.kms_script.proofs.Inverted.{some_same}
use Rattle.kms_words.proofs.Spaced.{line-fields}
use Rattle.kms_script.proofs.StepsRead.{line_is_read, step_written}
use Rattle.kms_script.proofs.StepsSpelt.{line_of_step}

-- the line of a step is read as it
pub read_of_line : (bytes : List ℕ) (step : Step) → IsStepLine bytes step → step_read bytes ≡ Some step
read_of_line bytes step line = rw line.text (line_is_read step line.fits)

-- where nothing is read of bytes, no step has them as its line
pub no_line : (bytes : List ℕ) → step_read bytes ≡ None → (step : Step) → ¬ IsStepLine bytes step
no_line bytes none step line = let clash : None ≡ Some step = sym none ∙ read_of_line bytes step line in absurd cc

-- what is read of bytes has them as its line
pub found_line : (bytes : List ℕ) (o : Option Step) → o ≡ step_read bytes → IfSome o (λ step. IsStepLine bytes step)
found_line bytes None e = tt
found_line bytes (Some step) e = line_of_step bytes step (sym e)

pub found_none : (bytes : List ℕ) (o : Option Step) → o ≡ step_read bytes → IfNone o ((step : Step) → ¬ IsStepLine bytes step)
found_none bytes None e = no_line bytes (sym e)
found_none bytes (Some step) e = tt

pub found_small : (bytes : List ℕ) (o : Option Step) → o ≡ step_read bytes
    → IfSome o (λ step. ForSome (index_in_step step) (λ index. index ≤ 255))
found_small bytes None e = tt
found_small bytes (Some step) e = (step_written step ((line_of_step bytes step (sym e)).fits)).small

-- a line feed behind a step's line
pub line_ended : (step : Step) → step_line step ≡ step_text step ++ 10 ∷ []
line_ended step = line-fields (codes "T") (step_words step)

-- each step has one line
pub spelt_once : IsSpeltOnce
spelt_once = record {
  one = λ bytes step e. ap (λ (bs : List ℕ). bs ++ 10 ∷ []) ((line_of_step bytes step e).text) ∙ sym (line_ended step);
  back = λ bytes step fits e. read_of_line bytes step
      (record { fits = fits; text = append_cancel_right bytes (step_text step) (10 ∷ []) (e ∙ line_ended step) });
}

-- steps with one line are one step
pub same_step : (a b : Step) → IsFitStep a → IsFitStep b → step_text a ≡ step_text b → a ≡ b
same_step a b fits_a fits_b e = some_same a b (sym (line_is_read a fits_a) ∙ ap step_read e ∙ line_is_read b fits_b)

-- A call is answered. This device's own; the answers are those of the program.
use Rattle.std.specs.Prelude.{◌≡◌, ℕ, ◌==◌, ◌||◌, List, Result, Ok, Err, ⊤}
use Rattle.kms_model.specs.declared.replies.Step.{Step}
use Rattle.kms_model.specs.declared.scripts.Part.TheVariants as part
use Rattle.kms_model.specs.declared.scripts.Script.{Script}
use Rattle.kms_model.specs.Headline.{Headline}
use Rattle.kms_model.specs.Machine.Histories.{at}
use Rattle.kms_model.specs.Order.Rounds.{IsOne}
use Rattle.kms_model.specs.Script.Schedules.{Parts, input_of}
use Rattle.kms_one_thread.specs.declared.ending.End.{End}
use Rattle.kms_report.specs.Telling.{all_replies}
use Rattle.kms_report.specs.declared.histories.Options.{Options}
use Rattle.kms_script.specs.declared.faults.ParseError.{ParseError}
use Rattle.kms_script.specs.declared.faults.ParseError.TheVariants as parsing
use Rattle.kms_run.specs.Answers.{HasEnd}
use Rattle.kms_run.specs.Auditing.{SaysOf}
use Rattle.kms_run.specs.StatusText.{status_of}
use Rattle.kms_run.specs.declared.answers.FullReport.{FullReport}
use Rattle.kms_run.specs.declared.answers.NoAnswer.{NoAnswer}
use Rattle.kms_run.specs.declared.answers.NoAnswer.TheVariants as stops
use Rattle.kms_run.specs.declared.auditing.NoYes.{NoYes}
use Rattle.kms_run.specs.declared.auditing.NoYes.TheVariants as noes
use Rattle.kms_run.specs.declared.slept.NoSleep.{NoSleep}
use Rattle.kms_run.specs.declared.slept.NoSleep.TheVariants as sleeps
use Rattle.kms_run.specs.declared.status.Status.TheVariants as status
use Rattle.kms_run.specs.declared.words.Action.{Action}
use Rattle.kms_run.specs.declared.words.Action.TheVariants.{One}
use Rattle.kms_run.specs.declared.words.Execution.{Execution}
use Rattle.kms_c.specs.Told.{closed_told, fault_told, illegal_told, status_told, text_told, with_text, wrong_told}
use Rattle.kms_c.specs.declared.told.Told.{Told}

-- the options that a number below 4 asks for: 1 the steps, 2 the frames, and 3 both
abbrev pub options_of : ℕ → Options
options_of n = record { trace = (n == 1) || (n == 3); ppm = (n == 2) || (n == 3) }

abbrev pub asks_for : Action → ℕ → Execution
asks_for action n = record { action = action; options = options_of n }

-- what is told of an answer with a report, by the memory before, and what is left there
abbrev pub told_of_answer : Result FullReport NoAnswer → List ℕ → Told
told_of_answer (Ok report) before = text_told (status_of report.ended) report.text before
told_of_answer (Err (stops.Fault line why)) before = fault_told line why
told_of_answer (Err (stops.Illegal place)) before = illegal_told place
told_of_answer (Err stops.NoMemory) before = status_told status.NoMemory

abbrev pub left_of_answer : Result FullReport NoAnswer → List ℕ → List ℕ
left_of_answer (Ok report) before = with_text report.text before
left_of_answer (Err stop) before = before

-- the same of a device that is turned off and comes back
abbrev pub told_of_sleep : Result FullReport NoSleep → List ℕ → Told
told_of_sleep (Ok report) before = text_told (status_of report.ended) report.text before
told_of_sleep (Err (sleeps.Fault line why)) before = fault_told line why
told_of_sleep (Err (sleeps.Closed object)) before = closed_told object
told_of_sleep (Err sleeps.NoMemory) before = status_told status.NoMemory

abbrev pub left_of_sleep : Result FullReport NoSleep → List ℕ → List ℕ
left_of_sleep (Ok report) before = with_text report.text before
left_of_sleep (Err stop) before = before

-- the same of a translation
abbrev pub told_of_translation : Result (List ℕ) ParseError → List ℕ → Told
told_of_translation (Ok text) before = text_told status.Ok text before
told_of_translation (Err (parsing.Fault line why)) before = fault_told line why
told_of_translation (Err parsing.NoMemory) before = status_told status.NoMemory

abbrev pub left_of_translation : Result (List ℕ) ParseError → List ℕ → List ℕ
left_of_translation (Ok text) before = with_text text before
left_of_translation (Err stop) before = before

-- what is told of an audit, which leaves nothing
abbrev pub told_of_audit : Result (Unit {0}) NoYes → Told
told_of_audit (Ok _) = status_told status.Ok
told_of_audit (Err (noes.Fault line why)) = fault_told line why
told_of_audit (Err (noes.Wrong line)) = wrong_told line
told_of_audit (Err noes.NoMemory) = status_told status.NoMemory

-- A call told an answer, of which this holds, and left in the caller's memory what that answer leaves.
pub record IsAnswered (Holds : Result FullReport NoAnswer → Type 0) (before after : List ℕ) (told : Told) : Type 0 where
  pub answer : Result FullReport NoAnswer
  pub holds : Holds answer
  pub is_told : told ≡ told_of_answer answer before
  pub is_left : after ≡ left_of_answer answer before

pub record IsSlept (Holds : Result FullReport NoSleep → Type 0) (before after : List ℕ) (told : Told) : Type 0 where
  pub answer : Result FullReport NoSleep
  pub holds : Holds answer
  pub is_told : told ≡ told_of_sleep answer before
  pub is_left : after ≡ left_of_sleep answer before

pub record IsTranslated (Holds : Result (List ℕ) ParseError → Type 0) (before after : List ℕ) (told : Told) : Type 0 where
  pub answer : Result (List ℕ) ParseError
  pub holds : Holds answer
  pub is_told : told ≡ told_of_translation answer before
  pub is_left : after ≡ left_of_translation answer before

-- A call told what is said to the report in an input.
pub record IsAudited (input : List ℕ) (told : Told) : Type 0 where
  pub answer : Result (Unit {0}) NoYes
  pub holds : SaysOf input answer
  pub is_told : told ≡ told_of_audit answer

-- The replies of the history that one thread makes of a script, and the headline holds of that history.
pub record AreVerdictsOf (s : Script) (ended : End) (output : List ℕ) : Type 0 where
  pub history : List Step
  pub is_one : IsOne s history
  pub has_end : HasEnd ended One s history
  pub text : output ≡ all_replies s (at s history)
  pub headline : Headline s history

-- The output is the replies of the script that the input spells.
pub record AreVerdicts (ended : End) (input output : List ℕ) : Type 0 where
  pub parts : Parts
  pub spelled : input_of part.Script input ≡ Ok parts
  pub verdicts : AreVerdictsOf parts.script ended output

-- the replies; or the input's first fault, unless memory ran out
abbrev pub VerdictAnswers : List ℕ → Result FullReport NoAnswer → Type 0
VerdictAnswers input (Ok answer) = AreVerdicts answer.ended input answer.text
VerdictAnswers input (Err (stops.Fault line why)) = input_of part.Script input ≡ Err (record { line = line; why = why })
VerdictAnswers input (Err (stops.Illegal place)) = ⊥
VerdictAnswers input (Err stops.NoMemory) = ⊤

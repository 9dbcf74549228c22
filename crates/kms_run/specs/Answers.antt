-- What the program says to an input. This device's own.
use Rattle.std.specs.Prelude.{◌≡◌, ℕ, true, false, List, Some, Result, Ok, Err, ⊤}
use Rattle.kms_model.specs.declared.replies.Step.{Step}
use Rattle.kms_model.specs.declared.scripts.Script.{Script}
use Rattle.kms_model.specs.Headline.{Headline}
use Rattle.kms_model.specs.Machine.Histories.{at, illegal_at, is_dead, is_drained, is_history}
use Rattle.kms_model.specs.Order.Rounds.{IsFinished, IsOne}
use Rattle.kms_model.specs.Report.History as report
use Rattle.kms_model.specs.Script.Schedules.{Parts, input_of}
use Rattle.kms_report.specs.Telling as telling
use Rattle.kms_one_thread.specs.declared.ending.End.{End}
use Rattle.kms_one_thread.specs.declared.ending.End.TheVariants as end
use Rattle.kms_run.specs.declared.answers.FullReport.{FullReport}
use Rattle.kms_run.specs.declared.answers.NoAnswer.{NoAnswer}
use Rattle.kms_run.specs.declared.answers.NoAnswer.TheVariants as stops
use Rattle.kms_run.specs.declared.words.Action.{Action}
use Rattle.kms_run.specs.declared.words.Action.TheVariants.{One, Replay, Run}
use Rattle.kms_run.specs.declared.words.Execution.{Execution}
use Rattle.kms_run.specs.Words.{part_of}

-- Some history of a script, continued to its end in the order of one thread.
pub record IsContinued (s : Script) (h : List Step) : Type 0 where
  pub left : List Step
  pub is_history : is_history s left ≡ true
  pub is_finished : IsFinished s left h

-- The history that is made of a script: by `one` that which one thread makes, by `replay` the schedule, and by `run` some
-- history, since threads take their turns as they come, continued to its end.
abbrev pub IsMade : Action → Script → List Step → List Step → Type 0
IsMade One s schedule h = IsOne s h
IsMade Replay s schedule h = h ≡ schedule
IsMade (Run threads) s schedule h = IsContinued s h

-- How a history ended. A schedule alone may leave one open.
abbrev pub HasEnd : End → Action → Script → List Step → Type 0
HasEnd end.Drained action s h = (is_drained s (at s h) ≡ true) × (is_dead s (at s h) ≡ false)
HasEnd end.Dead action s h = (is_drained s (at s h) ≡ false) × (is_dead s (at s h) ≡ true)
HasEnd end.Open action s h = (action ≡ Replay) × ((is_drained s (at s h) ≡ false) × (is_dead s (at s h) ≡ false))

-- A report of a history that is made of a script and a schedule, and the headline holds of that history.
pub record IsReportOf (asked : Execution) (s : Script) (schedule : List Step) (ended : End) (output : List ℕ) : Type 0 where
  pub history : List Step
  pub is_history : is_history s history ≡ true
  pub is_made : IsMade asked.action s schedule history
  pub has_end : HasEnd ended asked.action s history
  pub text : output ≡ report.text s history (telling.history_options asked.options)
  pub headline : Headline s history

-- a step of a schedule, counted from 1, is the first that is not legal
pub record IsIllegalOf (action : Action) (s : Script) (schedule : List Step) (place : ℕ) : Type 0 where
  pub replayed : action ≡ Replay
  pub is_first : illegal_at s schedule ≡ Some place

-- The output is the report of a history of the script that the input spells.
pub record IsReport (asked : Execution) (ended : End) (input output : List ℕ) : Type 0 where
  pub parts : Parts
  pub spelled : input_of (part_of asked.action) input ≡ Ok parts
  pub report : IsReportOf asked parts.script parts.steps ended output

-- A step of the schedule that the input spells, counted from 1, is the first that is not legal.
pub record IsIllegal (asked : Execution) (place : ℕ) (input : List ℕ) : Type 0 where
  pub parts : Parts
  pub spelled : input_of (part_of asked.action) input ≡ Ok parts
  pub illegal : IsIllegalOf asked.action parts.script parts.steps place

-- a report; or the input's first fault, or the first step that is not legal, unless memory ran out
abbrev pub Answers : Execution → List ℕ → Result FullReport NoAnswer → Type 0
Answers asked input (Ok answer) = IsReport asked answer.ended input answer.text
Answers asked input (Err (stops.Fault line why)) = input_of (part_of asked.action) input ≡ Err (record { line = line; why = why })
Answers asked input (Err (stops.Illegal place)) = IsIllegal asked place input
Answers asked input (Err stops.NoMemory) = ⊤

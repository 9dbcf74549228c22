-- What `suspend` says to an input. This device's own.
use Rattle.std.specs.Prelude.{◌≡◌, ℕ, true, List, [], Some, Result, Ok, Err, ⊤}
use Rattle.kms_model.specs.declared.replies.Step.{Step}
use Rattle.kms_model.specs.declared.scripts.Script.{Script}
use Rattle.kms_model.specs.Headline.{Headline}
use Rattle.kms_model.specs.Machine.Histories.{at, is_drained}
use Rattle.kms_model.specs.Order.Rounds.{IsOne}
use Rattle.kms_model.specs.Order.SleepAndWake.{SleepsAndWakes}
use Rattle.kms_model.specs.Order.Suspending.{closed_object}
use Rattle.kms_model.specs.Report.History as report
use Rattle.kms_model.specs.Script.FewerCommands.{input_within}
use Rattle.kms_model.specs.Script.Longer.{IsSlept, extended_after, most_before_two, world_after}
use Rattle.kms_report.specs.Telling.{history_options}
use Rattle.kms_one_thread.specs.declared.ending.End.{End}
use Rattle.kms_one_thread.specs.declared.ending.End.TheVariants as end
use Rattle.kms_script.specs.declared.faults.ParseError.{ParseError}
use Rattle.kms_script.specs.declared.faults.ParseError.TheVariants as parsing
use Rattle.kms_suspend.specs.declared.requests.ResumeError.{ResumeError}
use Rattle.kms_suspend.specs.declared.requests.ResumeError.TheVariants as waking
use Rattle.kms_run.specs.declared.answers.FullReport.{FullReport}
use Rattle.kms_run.specs.declared.slept.NoSleep.{NoSleep}
use Rattle.kms_run.specs.declared.slept.NoSleep.TheVariants as stops
use Rattle.kms_run.specs.declared.words.Action.TheVariants.{One}
use Rattle.kms_run.specs.declared.words.Execution.{Execution}
use Rattle.kms_run.specs.Answers.{IsReportOf}
use Rattle.kms_run.specs.Words.{no_options}

-- `one` without options
abbrev pub plainly : Execution
plainly = record { action = One; options = no_options }

-- The script and the history that are reported: behind the history that one thread makes of a script, which is drained, its device
-- is turned off and brought back. All that is promised of that holds, and the headline of the longer history besides.
pub record IsReportOfSlept (s : Script) (output : List ℕ) : Type 0 where
  pub history : List Step
  pub slept : List Step
  pub is_slept : IsSlept s history slept
  pub wakes : SleepsAndWakes s (extended_after s history) history slept
  pub text : output ≡ report.text (extended_after s history) slept (history_options no_options)
  pub headline : Headline (extended_after s history) slept

-- The history that one thread makes of a script is drained, and this is the object of least id that cannot be brought back.
pub record IsClosedOf (s : Script) (object : ℕ) : Type 0 where
  pub history : List Step
  pub one : IsOne s history
  pub drained : is_drained s (at s history) ≡ true
  pub closed : closed_object s.topology (world_after s history) ≡ Some object

-- A report, by how the history ended: that of the longer script where it is drained, and that of the script as it was read, without
-- options, where it is dead.
abbrev pub IsReportByEnd : Script → End → List ℕ → Type 0
IsReportByEnd s end.Drained output = IsReportOfSlept s output
IsReportByEnd s end.Dead output = IsReportOf plainly s [] end.Dead output
IsReportByEnd s end.Open output = ⊥

-- what is told of a script
abbrev pub TellsOfSleep : Script → Result FullReport NoSleep → Type 0
TellsOfSleep s (Ok answer) = IsReportByEnd s answer.ended answer.text
TellsOfSleep s (Err (stops.Fault line why)) = ⊥
TellsOfSleep s (Err (stops.Closed object)) = IsClosedOf s object.0
TellsOfSleep s (Err stops.NoMemory) = ⊤

-- The output is a report of the script that the input spells, of clients with at most 4094 commands.
pub record IsSleepReport (ended : End) (input output : List ℕ) : Type 0 where
  pub script : Script
  pub spelled : input_within most_before_two input ≡ Ok script
  pub report : IsReportByEnd script ended output

-- This object is the first that cannot be brought back of the script that the input spells.
pub record IsClosed (object : ℕ) (input : List ℕ) : Type 0 where
  pub script : Script
  pub spelled : input_within most_before_two input ≡ Ok script
  pub closed : IsClosedOf script object

-- what is said to an input: a report, its first fault, or the first object that cannot be brought back, unless memory ran out
abbrev pub SleepAnswers : List ℕ → Result FullReport NoSleep → Type 0
SleepAnswers input (Ok answer) = IsSleepReport answer.ended input answer.text
SleepAnswers input (Err (stops.Fault line why)) = input_within most_before_two input ≡ Err (record { line = line; why = why })
SleepAnswers input (Err (stops.Closed object)) = IsClosed object.0 input
SleepAnswers input (Err stops.NoMemory) = ⊤

-- what the errors of a reader, and of a device that is not brought back, say
abbrev pub unread : ParseError → NoSleep
unread (parsing.Fault line why) = stops.Fault line why
unread parsing.NoMemory = stops.NoMemory

abbrev pub unwoken : ResumeError → NoSleep
unwoken (waking.Closed object) = stops.Closed object
unwoken waking.NoMemory = stops.NoMemory

-- What the steps of an answer tell one another. This device's own.
use Rattle.std.specs.Prelude.{List, Result, Ok, Err, ⊤}
use Rattle.kms_model.specs.declared.replies.Step.{Step}
use Rattle.kms_model.specs.declared.scripts.Script.{Script}
use Rattle.kms_core.specs.Run.{Run}
use Rattle.kms_laws.specs.Ends.{IsOver}
use Rattle.kms_script.specs.declared.faults.ParseError.{ParseError}
use Rattle.kms_script.specs.declared.faults.ParseError.TheVariants as parsing
use Rattle.kms_run.specs.declared.answers.FullReport.{FullReport}
use Rattle.kms_run.specs.declared.answers.NoAnswer.{NoAnswer}
use Rattle.kms_run.specs.declared.answers.NoAnswer.TheVariants as stops
use Rattle.kms_run.specs.declared.words.Action.{Action}
use Rattle.kms_run.specs.declared.words.Action.TheVariants.{One, Replay, Run as ByThreads}
use Rattle.kms_run.specs.declared.words.Execution.{Execution}
use Rattle.kms_run.specs.Answers.{IsIllegalOf, IsReportOf}

-- why nothing more was done: a step is not legal, unless memory ran out
abbrev pub IsStopped : Action → Script → List Step → NoAnswer → Type 0
IsStopped action s schedule (stops.Fault line why) = ⊥
IsStopped action s schedule (stops.Illegal place) = IsIllegalOf action s schedule place
IsStopped action s schedule stops.NoMemory = ⊤

abbrev pub TellsReport : Execution → Script → List Step → Result FullReport NoAnswer → Type 0
TellsReport asked s schedule (Ok answer) = IsReportOf asked s schedule answer.ended answer.text
TellsReport asked s schedule (Err stop) = IsStopped asked.action s schedule stop

-- only a schedule may leave a history open
abbrev pub MayEnd : Action → Run → Type 0
MayEnd One r = IsOver r.script r.steps
MayEnd (ByThreads threads) r = IsOver r.script r.steps
MayEnd Replay r = ⊤

-- what the error of a reader says
abbrev pub unparsed : ParseError → NoAnswer
unparsed (parsing.Fault line why) = stops.Fault line why
unparsed parsing.NoMemory = stops.NoMemory

-- What is told of a script and its schedule is the answer to an input that spells both.
use Rattle.std.proofs.Common.{◌≡◌, ℕ, List, Result, Ok, Err}
use Rattle.kms_model.specs.Script.Schedules.{Parts, input_of}
use Rattle.kms_run.specs.declared.answers.FullReport.{FullReport}
use Rattle.kms_run.specs.declared.answers.NoAnswer.{NoAnswer}
use Rattle.kms_run.specs.declared.answers.NoAnswer.TheVariants as stops
use Rattle.kms_run.specs.declared.words.Execution.{Execution}
use Rattle.kms_run.specs.Answers.{Answers}
use Rattle.kms_run.specs.Executing.{TellsReport}
use Rattle.kms_run.specs.Words.{part_of}

pub answers_told : (asked : Execution) (input : List ℕ) (parts : Parts) (result : Result FullReport NoAnswer)
    → input_of (part_of asked.action) input ≡ Ok parts
    → TellsReport asked parts.script parts.steps result → Answers asked input result
answers_told asked input parts (Ok report) spelled told = record { parts = parts; spelled = spelled; report = told }
answers_told asked input parts (Err (stops.Fault line why)) spelled told = absurd told
answers_told asked input parts (Err (stops.Illegal place)) spelled told = record { parts = parts; spelled = spelled; illegal = told }
answers_told asked input parts (Err stops.NoMemory) spelled told = tt

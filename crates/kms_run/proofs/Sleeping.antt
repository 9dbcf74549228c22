-- What is told of a script is the answer of `suspend` to an input that spells it.
use Rattle.std.proofs.Common.{◌≡◌, List, ℕ, Result, Ok, Err}
use Rattle.kms_model.specs.declared.scripts.Script.{Script}
use Rattle.kms_model.specs.Script.FewerCommands.{input_within}
use Rattle.kms_model.specs.Script.Longer.{most_before_two}
use Rattle.kms_run.specs.declared.answers.FullReport.{FullReport}
use Rattle.kms_run.specs.declared.slept.NoSleep.{NoSleep}
use Rattle.kms_run.specs.declared.slept.NoSleep.TheVariants as stops
use Rattle.kms_run.specs.Slept.{SleepAnswers, TellsOfSleep}

pub sleep_told : (input : List ℕ) (s : Script) (result : Result FullReport NoSleep)
    → input_within most_before_two input ≡ Ok s → TellsOfSleep s result → SleepAnswers input result
sleep_told input s (Ok report) spelled told = record { script = s; spelled = spelled; report = told }
sleep_told input s (Err (stops.Fault line why)) spelled told = absurd told
sleep_told input s (Err (stops.Closed object)) spelled told = record { script = s; spelled = spelled; closed = told }
sleep_told input s (Err stops.NoMemory) spelled told = tt

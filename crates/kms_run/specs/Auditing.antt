-- What `audit` says to an input. This device's own.
use Rattle.std.specs.Prelude.{◌≡◌, ℕ, List, drop, Some, None, Result, Ok, Err, ⊤}
use Rattle.kms_audit.specs.declared.verdicts.Audit.{Audit}
use Rattle.kms_audit.specs.declared.verdicts.Audit.TheVariants as says
use Rattle.kms_model.specs.declared.reports.Report.{Report}
use Rattle.kms_model.specs.declared.scripts.Part.TheVariants as part
use Rattle.kms_model.specs.declared.scripts.Script.{Script}
use Rattle.kms_model.specs.Report.Right.{first_wrong, wrong_line}
use Rattle.kms_model.specs.Script.Schedules.{Parts, input_of}
use Rattle.kms_reading.specs.declared.reports.ReportError.{ReportError}
use Rattle.kms_reading.specs.declared.reports.ReportError.TheVariants as reading
use Rattle.kms_run.specs.declared.auditing.NoYes.{NoYes}
use Rattle.kms_run.specs.declared.auditing.NoYes.TheVariants as stops
use Rattle.kms_script.specs.declared.faults.ParseError.{ParseError}
use Rattle.kms_script.specs.declared.faults.ParseError.TheVariants as parsing

-- The input spells a script and a report behind it, each line of which is right.
pub record HasRightReport (input : List ℕ) : Type 0 where
  pub parts : Parts
  pub spelled : input_of part.Report input ≡ Ok parts
  pub right : wrong_line parts.script (drop parts.rest input) ≡ None

-- It spells a script, and this line of the report behind it, counted from 1, is the first that is not right.
pub record HasWrongLine (input : List ℕ) (line : ℕ) : Type 0 where
  pub parts : Parts
  pub spelled : input_of part.Report input ≡ Ok parts
  pub wrong : wrong_line parts.script (drop parts.rest input) ≡ Some line

-- yes exactly where each line is right, and else the first that is not, or the input's first fault, unless memory ran out
abbrev pub SaysOf : List ℕ → Result (Unit {0}) NoYes → Type 0
SaysOf input (Ok _) = HasRightReport input
SaysOf input (Err (stops.Fault line why)) = input_of part.Report input ≡ Err (record { line = line; why = why })
SaysOf input (Err (stops.Wrong line)) = HasWrongLine input line
SaysOf input (Err stops.NoMemory) = ⊤

-- the same of a script and a report
abbrev pub Compares : Script → Report → Result (Unit {0}) NoYes → Type 0
Compares s r (Ok _) = first_wrong s r ≡ None
Compares s r (Err (stops.Fault line why)) = ⊥
Compares s r (Err (stops.Wrong line)) = first_wrong s r ≡ Some line
Compares s r (Err stops.NoMemory) = ⊤

abbrev pub said_of : Audit → Result (Unit {0}) NoYes
said_of says.Yes = Ok tt
said_of (says.No line) = Err (stops.Wrong line)

-- what the errors of readers say
abbrev pub unparsed_input : ParseError → NoYes
unparsed_input (parsing.Fault line why) = stops.Fault line why
unparsed_input parsing.NoMemory = stops.NoMemory

abbrev pub unread_report : ReportError → NoYes
unread_report (reading.BadLine line) = stops.Wrong line
unread_report reading.NoMemory = stops.NoMemory

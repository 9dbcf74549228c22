-- What `audit` says to an input, by what reading and comparing gave.
use Rattle.std.proofs.Common.{◌≡◌, ℕ, ◌≤◌, Bool, true, false, List, length, Result, Ok, Err, refl, ap, ◌∙◌, arith}
use Rattle.std.proofs.lemmas.Bool.{ltb-false}
use Rattle.std.proofs.lemmas.List.{length-drop}
use Rattle.std.specs.Prelude.{◌-◌, drop, nat_lt, if◌then◌else◌}
use Rattle.kms_audit.specs.Told.{IsSpelt}
use Rattle.kms_model.specs.declared.reports.Report.{Report}
use Rattle.kms_model.specs.declared.scripts.Part.TheVariants as part
use Rattle.kms_model.specs.declared.scripts.Why.TheVariants.{Limit}
use Rattle.kms_model.specs.Report.ReportLines.{report_read}
use Rattle.kms_model.specs.Report.Right.{wrong_in}
use Rattle.kms_model.specs.Script.InputLines.{Fault, input_limit, rows_of}
use Rattle.kms_model.specs.Script.Schedules.{Parts, input_of, parts_after}
use Rattle.kms_model.specs.Script.WholeInput.{blank_draft}
use Rattle.kms_reading.specs.declared.reports.ReportError.{ReportError}
use Rattle.kms_reading.specs.declared.reports.ReportError.TheVariants as reading
use Rattle.kms_reading.specs.Reports.{Reads}
use Rattle.kms_run.specs.declared.auditing.NoYes.{NoYes}
use Rattle.kms_run.specs.declared.auditing.NoYes.TheVariants as stops
use Rattle.kms_run.specs.Auditing.{Compares, SaysOf, unread_report}

-- an input that is read has no more bytes than it may have
pub short-input : (input : List ℕ) (parts : Parts) → input_of part.Report input ≡ Ok parts → length input ≤ input_limit
unfolding input_of
short-input input parts is = by_size (nat_lt input_limit (length input)) refl is where
  by_size : (long : Bool) → nat_lt input_limit (length input) ≡ long
      → (if long then Err (record { line = 0; why = Limit }) else parts_after part.Report (length input) blank_draft 1 (rows_of input))
      ≡ Ok parts
      → length input ≤ input_limit
  by_size true same is = absurd cc
  by_size false same is = ltb-false input_limit (length input) same

-- nor has what lies behind its script
pub short-behind : (input : List ℕ) (parts : Parts) → input_of part.Report input ≡ Ok parts → length (drop parts.rest input) ≤ input_limit
short-behind input parts is = omega (arith, length-drop parts.rest input, short-input input parts is)

-- so a report that is read there is spelt
pub spelt-behind : (input : List ℕ) (parts : Parts) (r : Report) → input_of part.Report input ≡ Ok parts
    → report_read (drop parts.rest input) ≡ Ok r → IsSpelt r
spelt-behind input parts r is read = record { bytes = drop parts.rest input; short = short-behind input parts is; read = read }

pub says-compared : (input : List ℕ) (parts : Parts) (r : Report) (result : Result (Unit {0}) NoYes)
    → input_of part.Report input ≡ Ok parts → report_read (drop parts.rest input) ≡ Ok r → Compares parts.script r result
    → SaysOf input result
says-compared input parts r (Ok x) spelled read right =
    record { parts = parts; spelled = spelled; right = ap (wrong_in parts.script) read ∙ right }
says-compared input parts r (Err (stops.Wrong line)) spelled read wrong =
    record { parts = parts; spelled = spelled; wrong = ap (wrong_in parts.script) read ∙ wrong }
says-compared input parts r (Err (stops.Fault line why)) spelled read never = absurd never
says-compared input parts r (Err stops.NoMemory) spelled read any = tt

-- a line that no report has there
pub says-unread : (input : List ℕ) (parts : Parts) (e : ReportError) → input_of part.Report input ≡ Ok parts
    → Reads (Err e) (report_read (drop parts.rest input)) → SaysOf input (Err (unread_report e))
says-unread input parts (reading.BadLine line) spelled read =
    record { parts = parts; spelled = spelled; wrong = ap (wrong_in parts.script) read }
says-unread input parts reading.NoMemory spelled any = tt

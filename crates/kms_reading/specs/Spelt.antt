-- A text that is read is the text of what was read, and an input with a report is the text of its script and a report.
use Rattle.std.specs.Prelude.{◌≡◌, ℕ, true, List, ◌++◌, drop, Ok, All, ⊤, codes}
use Rattle.kms_model.specs.declared.replies.Reply.{Reply}
use Rattle.kms_model.specs.declared.replies.Reply.TheVariants as reply
use Rattle.kms_model.specs.declared.reports.Report.{Report}
use Rattle.kms_model.specs.Report.ReportLines.{report_read, report_text}
use Rattle.kms_model.specs.declared.scripts.Part.TheVariants as part
use Rattle.kms_model.specs.Script.Schedules.{Parts, input_of}
use Rattle.kms_model.specs.Script.Spelling.{spelling}
use Rattle.kms_model.specs.Script.Words.{between}

-- A busy reply names an object of an index below 100: the ids of the four kinds are 100 to 499 then.
abbrev pub IsNearReply : Reply → Type 0
IsNearReply (reply.Busy object k) = between 100 499 object.0 ≡ true
IsNearReply _ = ⊤

abbrev pub ReadReportsAreTheirText : Type 0
ReadReportsAreTheirText =
    (bytes : List ℕ) (r : Report) → report_read bytes ≡ Ok r → All (λ a. IsNearReply a.3) r.replies → report_text r ≡ bytes

-- The bytes are the script's text, the line `report`, and what stands from the place on that is told.
abbrev pub ReportsStandBehindScripts : Type 0
ReportsStandBehindScripts =
    (bytes : List ℕ) (x : Parts) → input_of part.Report bytes ≡ Ok x
    → bytes ≡ spelling x.script ++ (codes "report\n" ++ drop x.rest bytes)

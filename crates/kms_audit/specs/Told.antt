-- What `audit` asks for and answers.
use Rattle.std.specs.Prelude.{◌≡◌, ◌≤◌, ℕ, List, length, Option, Some, None, Ok}
use Rattle.kms_audit.specs.declared.audits.LineFacts.{LineFacts}
use Rattle.kms_audit.specs.declared.verdicts.Audit.{Audit}
use Rattle.kms_audit.specs.declared.verdicts.Audit.TheVariants.{Yes, No}
use Rattle.kms_audit.specs.Indexed.{AreLacking, IsIndexOf}
use Rattle.kms_audit.specs.Ordered.{IsOrdered}
use Rattle.kms_model.specs.declared.reports.Report.{Report}
use Rattle.kms_model.specs.declared.scripts.Script.{Script}
use Rattle.kms_model.specs.Report.ReportLines.{report_read}
use Rattle.kms_model.specs.Script.InputLines.{input_limit}

-- Some bytes, no more than an input may have, spell a report.
pub record IsSpelt (r : Report) : Type 0 where
  pub bytes : List ℕ
  pub short : length bytes ≤ input_limit
  pub read : report_read bytes ≡ Ok r

-- the line that is told, if any
abbrev pub told : Audit → Option ℕ
told Yes = None
told (No line) = Some line

-- what the lines of a report alone tell
pub record IsAuditedBy (s : Script) (r : Report) (f : LineFacts) : Type 0 where
  pub index : IsIndexOf r f.index
  pub lacking : AreLacking r f.lacking
  pub ordered : IsOrdered s r f.ordered

use Rattle.std.proofs.Common.{take}
use Rattle.kms_audit.specs.Indexed.{IsIndexOf, LackIn}
use Rattle.kms_model.specs.declared.reports.Report.{Report}
use Rattle.kms_audit.proofs.index.Index.lacks.Given as goal

abbrev pub invariant-loop-entry : goal.invariant-loop-entry
invariant-loop-entry l = (r : Report) → IsIndexOf r l.self → LackIn r (take l.entry-index l.journal) l.lacking

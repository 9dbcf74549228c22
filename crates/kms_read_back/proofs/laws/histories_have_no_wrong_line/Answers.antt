use Rattle.std.proofs.Common.{ap, ◌∙◌}
use Rattle.kms_model.specs.Report.Right.{wrong_in}
use Rattle.kms_told.proofs.ReportsRight.{report-right}
use Rattle.kms_read_back.proofs.SeenFits.{text-read}
use Rattle.kms_read_back.proofs.laws.histories_have_no_wrong_line.Goals as goal

pub returns : goal.returns
returns c = λ s h formed is freed trace short.
    ap (wrong_in s) (text-read s h trace formed is short) ∙ report-right s h formed is freed trace

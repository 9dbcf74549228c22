use Rattle.std.proofs.Common.{◌≡◌, ◌+◌, ◌≤◌, length, true}
use Rattle.kms_model.specs.Report.ReportLines.{report_lines_read, report_read}
use Rattle.kms_model.specs.Script.InputLines.{rows_of}
use Rattle.kms_reading.specs.Reports.{continued, is_sound}
use Rattle.kms_reading.proofs.reports.parse_report.Given as goal

abbrev pub invariant-lines : goal.invariant-lines
invariant-lines l = record {
  read : continued l.said (report_lines_read l.said.least l.line (rows_of l.rest)) ≡ report_read l.bytes;
  sound : is_sound l.said ≡ true;
  number : l.line + length l.rest ≤ 1 + length l.bytes;
}

abbrev pub decreases-lines : goal.decreases-lines
decreases-lines l = length l.rest

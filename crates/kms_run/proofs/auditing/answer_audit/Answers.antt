use Rattle.std.proofs.Common.{◌≡◌, ◌<◌, length, arith, rules, subst, sym}
use Rattle.std.specs.Prelude.{Ok, Err, drop}
use Rattle.std.proofs.lemmas.Result.{err_from_is_err_and}
use Rattle.kms_model.specs.declared.scripts.Part.TheVariants as part
use Rattle.kms_model.specs.Report.ReportLines.{report_read}
use Rattle.kms_model.specs.Script.Schedules.{input_of}
use Rattle.kms_reading.specs.Reports.{Reads}
use Rattle.kms_script.specs.Stated.{parts_in}
use Rattle.kms_run.proofs.Saying.{says-compared, says-unread, short-behind, spelt-behind}
use Rattle.kms_run.proofs.auditing.answer_audit.Goals as goal

pub parse_report-requires : goal.parse_report-requires
parse_report-requires c =
    let spelled : input_of part.Report c.args.input.now ≡ Ok (parts_in c.in_ok-parsed.parsed) = search rules in
    let told : c.behind.result.now ≡ drop c.in_ok-parsed.parsed.rest c.args.input.now = search rules in
    let short = short-behind c.args.input.now (parts_in c.in_ok-parsed.parsed) spelled in
    subst (λ bytes. length bytes < 4294967295) (sym told) (omega (arith, short))

pub compare-requires-clause-spelt : goal.compare-requires-clause-spelt
compare-requires-clause-spelt c =
    spelt-behind c.args.input.now (parts_in c.in_ok-parsed.parsed) c.in_ok-report.report (search rules) (search rules)

pub returns-in_err-report : goal.returns-in_err-report
returns-in_err-report c =
    let spelled : input_of part.Report c.args.input.now ≡ Ok (parts_in c.in_ok-parsed.parsed) = search rules in
    let told : c.behind.result.now ≡ drop c.in_ok-parsed.parsed.rest c.args.input.now = search rules in
    let p = err_from_is_err_and c.from_residual-in_err-report.result c.from_residual-in_err-report.ensures.1 in
    rw (p.1, p.2) (says-unread c.args.input.now (parts_in c.in_ok-parsed.parsed) _ spelled
    (subst (λ bytes. Reads (Err c.in_err-report.field-0.0) (report_read bytes)) told c.in_err-report.ensures))

pub returns : goal.returns
returns c =
    says-compared c.args.input.now (parts_in c.in_ok-parsed.parsed) c.in_ok-report.report c.compare.result (search rules) (search rules)
    c.compare.ensures

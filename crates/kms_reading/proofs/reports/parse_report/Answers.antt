use Rattle.std.proofs.Common.{◌≡◌, length, sym, subst, ap, ◌∙◌, arith, rules}
use Rattle.kms_model.specs.Report.ReportLines.{report_lines_read}
use Rattle.kms_model.specs.Script.InputLines.{rows_of}
use Rattle.kms_reading.specs.Reports.{Reads, continued, is_sound}
use Rattle.kms_script.specs.Drafted.{row_in}
use Rattle.kms_reading.proofs.Continuing.{first-read, no-rows, none-from, row-stands, rows-next, rows-wrong, sound-with}
use Rattle.kms_reading.proofs.reports.parse_report.Goals as goal

pub lines-init : goal.lines-init
lines-init c = record {
  read = ap (λ d. continued d (report_lines_read d.least 1 (rows_of c.args.bytes.now))) c.new-said.ensures ∙ first-read c.args.bytes.now;
  sound = ap is_sound c.new-said.ensures;
  number = omega arith;
}

pub returns-in_default : goal.returns-in_default
returns-in_default c =
    let row = row_in c.split_line.result.0 in
    let rows = rows_of c.split_line.result.1.now in
    sym c.lines.invariant.read
    ∙ (ap (λ rs. continued c.lines.said (report_lines_read c.lines.said.least c.lines.line rs)) c.split_line.ensures.rows
    ∙ rows-wrong c.lines.said c.lines.line row rows
    (sym c.in_ok-one.ensures ∙ none-from c.in_ok-one.field-0 c.in_default.not-Some))

pub lines-preserved : goal.lines-preserved
lines-preserved c =
    let row = row_in c.split_line.result.0 in
    let rows = rows_of c.split_line.result.1.now in
    let read = sym c.in_ok-one.ensures ∙ c.in-Some.is in
    record {
      read =
          rows-next c.lines.said c.push.new.self c.lines.line row rows c.in-Some.one c.in_ok-push.ensures c.lines.invariant.sound read
          ∙ (sym (ap (λ rs. continued c.lines.said (report_lines_read c.lines.said.least c.lines.line rs)) c.split_line.ensures.rows)
          ∙ c.lines.invariant.read);
      sound =
          sound-with c.lines.said c.push.new.self c.in-Some.one c.in_ok-push.ensures c.lines.invariant.sound
          (row-stands c.lines.said.least row c.in-Some.one read);
      number = omega (arith, c.split_line.ensures.shorter, c.lines.invariant.number);
    }

pub returns : goal.returns
returns c =
    let done : length c.lines.rest.now ≡ 0 = search rules in
    subst (Reads c.finish.result) (sym (no-rows c.lines.said c.lines.line c.lines.rest.now done) ∙ c.lines.invariant.read) c.finish.ensures

use Rattle.std.proofs.Common.{◌≡◌, ◌∙◌, length, sym, ap, arith, rules}
use Rattle.kms_model.specs.Script.InputLines.{rows_of}
use Rattle.kms_script.specs.Drafted.{draft_in, row_in}
use Rattle.kms_script.specs.Within.{parts_within}
use Rattle.kms_script.proofs.FewerLines.{lines_ended, next_line, script_ended, stopped}
use Rattle.kms_script.proofs.inputs.read_lines.Goals as goal

pub returns-then-ends_script-clause-value : goal.returns-then-ends_script-clause-value
returns-then-ends_script-clause-value c =
    let size = length c.args.bytes.now in
    let row = row_in c.split_line.result.0 in
    let rows = rows_of c.split_line.result.1.now in
    rw (
      ← c.lines.invariant.read,
      c.split_line.ensures.rows,
      script_ended c.args.most c.args.part size
          (draft_in c.lines.draft) c.lines.line row rows (sym c.if-ends_script.ensures),
    ) c.behind_script.ensures.value

pub returns-in-Err-clause-value : goal.returns-in-Err-clause-value
returns-in-Err-clause-value c =
    let size = length c.args.bytes.now in
    let row = row_in c.split_line.result.0 in
    let rows = rows_of c.split_line.result.1.now in
    rw (c.at.ensures, ← c.lines.invariant.read, c.split_line.ensures.rows)
    (stopped c.args.most c.args.part size (draft_in c.lines.draft) (draft_in c.line_within.new.self) c.lines.line row rows c.in-Err.stop
    (sym c.if-ends_script.ensures) c.in-Err.ensures.value)

pub lines-preserved : goal.lines-preserved
lines-preserved c =
    let size = length c.args.bytes.now in
    let before = draft_in c.lines.draft in
    let after = draft_in c.line_within.new.self in
    let row = row_in c.split_line.result.0 in
    let rows = rows_of c.split_line.result.1.now in
    record {
      read = sym (next_line c.args.most c.args.part size before after c.lines.line row rows
          (sym c.if-ends_script.ensures) c.in_default.ensures.value)
          ∙ sym (ap (parts_within c.args.most c.args.part size before c.lines.line) c.split_line.ensures.rows) ∙ c.lines.invariant.read;
      sound = search rules;
      line = omega (arith, c.lines.invariant.line, c.in_default.ensures.longer);
      rest = omega (arith, c.split_line.ensures.shorter, c.lines.invariant.rest);
    }

pub returns-clause-value : goal.returns-clause-value
returns-clause-value c =
    let done : length c.lines.rest.now ≡ 0 = search rules in
    rw (
      ← c.lines.invariant.read,
      lines_ended c.args.most c.args.part (length c.args.bytes.now)
          (draft_in c.lines.draft) c.lines.line c.lines.rest.now done,
    ) c.at_end_of_lines.ensures.value

use Rattle.std.proofs.Common.{◌≡◌, false, Ok, length, ap, sym, subst, ◌∙◌, arith, rules}
use Rattle.kms_model.specs.declared.objects.Topology.{Topology}
use Rattle.kms_model.specs.Legacy.LegacyLines.{legacy_lines_after, legacy_drafted}
use Rattle.kms_model.specs.Script.InputLines.{rows_of}
use Rattle.kms_model.specs.Script.WholeInput.{is_nil}
use Rattle.kms_script.specs.Drafted.{row_in}
use Rattle.kms_legacy.specs.Reading.{lines_in}
use Rattle.kms_legacy.proofs.LinesOn.{lines_end, next_line, stopped}
use Rattle.kms_legacy.proofs.reading.behind_client.Goals as goal

pub returns-in-Err-clause-value : goal.returns-in-Err-clause-value
returns-in-Err-clause-value c =
    let row = row_in c.split_line.result.0 in
    let rows = rows_of c.split_line.result.1.now in
    rw (c.at.ensures, ← c.lines.invariant.read, c.split_line.ensures.rows)
    (stopped (lines_in c.lines.lines) (lines_in c.line.new.self) c.lines.line row rows c.in-Err.stop c.in-Err.ensures.value)

pub lines-preserved : goal.lines-preserved
lines-preserved c =
    let row = row_in c.split_line.result.0 in
    let rows = rows_of c.split_line.result.1.now in
    record {
      read = sym (next_line (lines_in c.lines.lines) (lines_in c.line.new.self) c.lines.line row rows c.in_default.ensures.value)
          ∙ (sym (ap (legacy_lines_after (lines_in c.lines.lines) c.lines.line) c.split_line.ensures.rows) ∙ c.lines.invariant.read);
      sound = c.in_default.ensures.sound;
      topology = c.in_default.ensures.topology ∙ c.lines.invariant.topology;
      line = omega (arith, c.lines.invariant.line, c.split_line.ensures.shorter);
      rest = omega (arith, c.lines.invariant.rest, c.split_line.ensures.shorter);
    }

pub returns-clause-value : goal.returns-clause-value
returns-clause-value c =
    let done : length c.lines.rest.now ≡ 0 = search rules in
    let some : is_nil c.lines.lines.topology.conns ≡ false =
    subst (λ (t : Topology). is_nil t.conns ≡ false) (sym c.lines.invariant.topology) c.requires.some in
    ap legacy_drafted (sym c.lines.invariant.read)
    ∙ (lines_end (lines_in c.lines.lines) c.lines.line c.lines.rest.now done some ∙ ap (λ s. Ok s) (sym c.into_script.ensures.value))

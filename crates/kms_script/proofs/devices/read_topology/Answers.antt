use Rattle.std.proofs.Common.{◌≡◌, ◌∙◌, length, refl, sym, ap, arith, rules}
use Rattle.kms_model.specs.Script.InputLines.{rows_of}
use Rattle.kms_model.specs.Script.WholeInput.{device_after}
use Rattle.kms_script.specs.Drafted.{draft_in, row_in}
use Rattle.kms_script.proofs.DeviceLines.{no_client, next_device_line, device_is_done, device_stopped, device_ended_early}
use Rattle.kms_script.proofs.DeviceLines.{device_ended_well}
use Rattle.kms_script.proofs.Formed.{device_at, device_at_end}
use Rattle.kms_script.proofs.devices.read_topology.Goals as goal

pub returns-then-is_done-clause-value : goal.returns-then-is_done-clause-value
returns-then-is_done-clause-value c =
    let before = draft_in c.lines.draft in
    let row = row_in c.split_line.result.0 in
    let rows = rows_of c.split_line.result.1.now in
    rw (c.device_in.ensures, ← c.lines.invariant.read, c.split_line.ensures.rows)
    (refl, device_is_done before c.lines.number row rows (sym c.if-is_done.ensures))

pub returns-then-is_done-clause-legal : goal.returns-then-is_done-clause-legal
returns-then-is_done-clause-legal c = rw c.device_in.ensures
    (device_at (draft_in c.lines.draft) (row_in c.split_line.result.0) c.lines.invariant.sound.device (sym c.if-is_done.ensures))

pub returns-in-Err-clause-value : goal.returns-in-Err-clause-value
returns-in-Err-clause-value c =
    let before = draft_in c.lines.draft in
    let row = row_in c.split_line.result.0 in
    let rows = rows_of c.split_line.result.1.now in
    rw (c.at.ensures, ← c.lines.invariant.read, c.split_line.ensures.rows)
    (device_stopped before (draft_in c.line.new.self) c.lines.number row rows c.in-Err.stop (sym c.if-is_done.ensures)
    c.in-Err.ensures.value)

pub lines-preserved : goal.lines-preserved
lines-preserved c =
    let before = draft_in c.lines.draft in
    let after = draft_in c.line.new.self in
    let row = row_in c.split_line.result.0 in
    let rows = rows_of c.split_line.result.1.now in
    record {
      read = sym (next_device_line before after c.lines.number row rows (sym c.if-is_done.ensures) c.in_default.ensures.value) ∙ sym
          (ap (device_after before c.lines.number) c.split_line.ensures.rows) ∙ c.lines.invariant.read;
      sound = search rules;
      number = omega (arith, c.lines.invariant.number, c.in_default.ensures.longer);
      client = no_client before after row (sym c.if-is_done.ensures) c.lines.invariant.client c.in_default.ensures.value;
    }

pub returns-then-lacks_connectors-clause-value : goal.returns-then-lacks_connectors-clause-value
returns-then-lacks_connectors-clause-value c =
    let done : length c.lines.rest.now ≡ 0 = search rules in
    sym c.lines.invariant.read ∙ device_ended_early (draft_in c.lines.draft) c.lines.number c.lines.rest.now done
    (sym c.if-lacks_connectors.ensures)

pub returns-clause-value : goal.returns-clause-value
returns-clause-value c =
    let done : length c.lines.rest.now ≡ 0 = search rules in
    rw (c.device_in-2.ensures, ← c.lines.invariant.read)
    (refl, device_ended_well (draft_in c.lines.draft) c.lines.number c.lines.rest.now done (sym c.if-lacks_connectors.ensures))

pub returns-clause-legal : goal.returns-clause-legal
returns-clause-legal c = rw c.device_in-2.ensures
    (device_at_end (draft_in c.lines.draft) c.lines.invariant.sound.device (sym c.if-lacks_connectors.ensures))

use Rattle.std.proofs.Common.{◌≡◌, [], ◌∷◌, ◌+◌, ◌++◌, Err, ◌∙◌, length, sym, ap, arith, rules}
use Rattle.kms_model.specs.Script.InputLines.{rows_of}
use Rattle.kms_model.specs.Script.Schedules.{steps_in}
use Rattle.kms_script.specs.Drafted.{row_in}
use Rattle.kms_script.proofs.StepRows.{all_read, next_step, step_stopped, with_steps}
use Rattle.kms_script.proofs.schedules.read_steps.Goals as goal

pub returns-in_err-step : goal.returns-in_err-step
returns-in_err-step c =
    let row = row_in c.split_line.result.0 in
    let rows = rows_of c.split_line.result.1.now in
    let e = c.in_err-step.field-0.0 in
    let is : c.from_residual.result ≡ Err e = search rules in
    rw (is, ← c.lines.invariant.read, c.split_line.ensures.rows)
    (step_stopped c.lines.steps c.lines.number row rows e c.in_err-step.ensures)

pub lines-preserved : goal.lines-preserved
lines-preserved c =
    let row = row_in c.split_line.result.0 in
    let rows = rows_of c.split_line.result.1.now in
    let step = c.in_ok-step.step in
    let pushed : c.push.new.self ≡ c.lines.steps ++ step ∷ [] = search rules in
    record {
      read = ap (λ steps. with_steps steps (steps_in (c.lines.number + 1) rows)) pushed ∙ next_step c.lines.steps step c.lines.number row
          rows c.in_ok-step.ensures ∙ sym (ap (λ rs. with_steps c.lines.steps (steps_in c.lines.number rs)) c.split_line.ensures.rows) ∙
          c.lines.invariant.read;
      number = omega (arith, c.split_line.ensures.shorter, c.lines.invariant.number);
    }

pub returns : goal.returns
returns c =
    let done : length c.lines.rest.now ≡ 0 = search rules in
    sym c.lines.invariant.read ∙ all_read c.lines.steps c.lines.number c.lines.rest.now done

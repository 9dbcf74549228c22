use Rattle.std.proofs.Common.{◌≡◌, rules}
use Rattle.kms_model.specs.Script.Schedules.{step_read}
use Rattle.kms_script.proofs.StepLines.{found_line, found_none, found_small}
use Rattle.kms_script.proofs.steps.read_step.Goals as goal

pub returns-in_err-word-clause-no_line : goal.returns-in_err-word-clause-no_line
unfolding step_read
returns-in_err-word-clause-no_line c =
    let value : c.from_residual-in_err-word.result ≡ step_read c.args.line.now = search rules in
    found_none c.args.line.now c.from_residual-in_err-word.result value

pub returns-clause-line : goal.returns-clause-line
unfolding step_read
returns-clause-line c =
    let value : c.step_of_word.result ≡ step_read c.args.line.now = search rules in
    found_line c.args.line.now c.step_of_word.result value

pub returns-clause-no_line : goal.returns-clause-no_line
unfolding step_read
returns-clause-no_line c =
    let value : c.step_of_word.result ≡ step_read c.args.line.now = search rules in
    found_none c.args.line.now c.step_of_word.result value

pub returns-clause-small : goal.returns-clause-small
unfolding step_read
returns-clause-small c =
    let value : c.step_of_word.result ≡ step_read c.args.line.now = search rules in
    found_small c.args.line.now c.step_of_word.result value

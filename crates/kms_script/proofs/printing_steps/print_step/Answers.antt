use Rattle.std.proofs.Common.{◌≡◌, rules}
use Rattle.kms_script.specs.Scheduled.{step_text}
use Rattle.kms_script.proofs.StepLines.{read_of_line}
use Rattle.kms_script.proofs.printing_steps.print_step.Goals as goal

pub returns-clause-again : goal.returns-clause-again
returns-clause-again c =
    let text : c.from_vec.result ≡ step_text c.args.step.now = search rules in
    read_of_line c.from_vec.result c.args.step.now (record { fits = c.push_step.ensures.fits; text = text })

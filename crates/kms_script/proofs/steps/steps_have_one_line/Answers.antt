use Rattle.kms_script.proofs.StepLines.{same_step, spelt_once}
use Rattle.kms_script.proofs.steps.steps_have_one_line.Goals as goal

pub returns-clause-once : goal.returns-clause-once
returns-clause-once c = spelt_once

pub returns-clause-same : goal.returns-clause-same
returns-clause-same c = same_step

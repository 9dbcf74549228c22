use Rattle.std.proofs.Common.{◌∙◌}
use Rattle.kms_core.specs.Decisions.{world}
use Rattle.kms_suspend.proofs.Wholes.{back_parts}
use Rattle.kms_suspend.proofs.requests.resume.Goals as goal

pub returns-clause-back : goal.returns-clause-back
returns-clause-back c = c.in_ok-request_of.ensures ∙ back_parts c.args.core.now.script.topology (world c.args.core.now)

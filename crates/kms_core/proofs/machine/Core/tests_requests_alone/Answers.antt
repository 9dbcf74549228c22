use Rattle.kms_core.specs.Run.{machine}
use Rattle.kms_core.proofs.machine.Core.tests_requests_alone.Goals as goal

pub returns : goal.returns
returns c = λ client. (c.tests_change_nothing.ensures c.args.self.now.script (machine c.args.self.now) client).4

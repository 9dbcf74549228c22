use Rattle.kms_core.proofs.next.ClientSteps.{outside_command}
use Rattle.kms_core.proofs.machine.Core.idle_command.Goals as goal

pub returns-then-not-has_client : goal.returns-then-not-has_client
returns-then-not-has_client c = outside_command c.args.self.now c.args.client (c.has_client.ensures.no c.if-not-has_client.true)

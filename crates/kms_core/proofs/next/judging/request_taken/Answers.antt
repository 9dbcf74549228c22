use Rattle.kms_core.proofs.next.Taken.{outside_request}
use Rattle.kms_core.specs.Run.{machine}
use Rattle.kms_core.proofs.next.judging.request_taken.Goals as goal

pub returns-then-not-has_client : goal.returns-then-not-has_client
returns-then-not-has_client c =
    outside_request c.args.core.now.script (machine c.args.core.now) c.args.client (c.has_client.ensures.no c.if-not-has_client.true)

use Rattle.kms_request_tests.proofs.Standing.{stands_after}
use Rattle.kms_request_tests.proofs.courses.ask.Goals as goal

pub returns : goal.returns
returns c =
    stands_after c.args.topology.now c.args.device.now c.execute.new.self c.args.client c.args.command.now c.in_ok-execute.field-0
    c.requires c.in_ok-execute.ensures.executed c.in_ok-execute.ensures.topology

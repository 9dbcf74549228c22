use Rattle.kms_audit.proofs.Ending.{fence-gone, fence-there}
use Rattle.kms_audit.proofs.ends.is_fence.Goals as goal

pub returns-in-Done : goal.returns-in-Done
returns-in-Done c =
    fence-there c.args.serial.now.topology c.args.serial.now.world 1 c.args.number c.preview.result c.preview.ensures c.in-Done.is

pub returns : goal.returns
returns c =
    fence-gone c.args.serial.now.topology c.args.serial.now.world 1 c.args.number c.preview.result c.preview.ensures c.in_default.not-Done

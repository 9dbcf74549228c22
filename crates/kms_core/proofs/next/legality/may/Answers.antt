use Rattle.kms_core.proofs.next.Movers.{stall_never}
use Rattle.kms_core.proofs.next.legality.may.Goals as goal

pub returns-in-Stall : goal.returns-in-Stall
returns-in-Stall c = stall_never c.args.core.now c.in-Stall.is

use Rattle.kms_track.proofs.Queries.{fence_is}
use Rattle.kms_track.proofs.tail.Tail.out_fence.Goals as goal

pub returns-clause-machine : goal.returns-clause-machine
returns-clause-machine c = λ t d latches k device is. fence_is t d latches k c.args.self.now device is c.args.index c.requires

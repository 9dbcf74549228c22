use Rattle.std.proofs.Common.{refl}
use Rattle.kms_track.proofs.Queries.{plane_is}
use Rattle.kms_track.proofs.tail.Tail.plane.Goals as goal

pub returns-clause-machine : goal.returns-clause-machine
returns-clause-machine c = λ t d latches k device is. plane_is t d latches k c.args.self.now device is c.args.index _ refl

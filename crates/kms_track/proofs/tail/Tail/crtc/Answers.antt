use Rattle.std.proofs.Common.{refl}
use Rattle.kms_track.proofs.Queries.{crtc_is}
use Rattle.kms_track.proofs.tail.Tail.crtc.Goals as goal

pub returns-clause-machine : goal.returns-clause-machine
returns-clause-machine c = λ t d latches k device is. crtc_is t d latches k c.args.self.now device is c.args.index _ refl

use Rattle.std.proofs.Common.{ltb, w8}
use Rattle.kms_blend.proofs.LaneByLane.{chosen, own, splat}
use Rattle.kms_blend.proofs.lanes.downwards.Goals as goal

pub returns : goal.returns
returns c = chosen w8 ltb _ _ _ _ _ _ _ _ (own c.args.from c.fits-from.0) (own c.args.to c.fits-to.0) (splat 0) (splat 255)

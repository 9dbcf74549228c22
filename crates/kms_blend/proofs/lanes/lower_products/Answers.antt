use Rattle.kms_blend.proofs.LaneByLane.{both, mul16, own, splat}
use Rattle.kms_blend.proofs.lanes.lower_products.Goals as goal

pub returns : goal.returns
returns c = both mul16 _ _ _ _ (splat c.args.a) (own c.args.v c.fits-v.0)

use Rattle.std.proofs.Common.{w16, arith}
use Rattle.kms_blend.proofs.LaneByLane.{as_lanes, both, least, own, short, sub16}
use Rattle.kms_blend.proofs.lanes.subtract_saturating.Goals as goal

pub returns : goal.returns
returns c =
    let v = own c.args.v c.fits-v.0 in
    let w = own c.args.w c.fits-w.0 in
    as_lanes _ _ _ (both sub16 _ _ _ _ v (least w16 _ _ _ _ v w)) (λ i below.
    let fit = short c.args.v i c.fits-v.0 below c.fits-v.1 in
    let more = short c.args.w i c.fits-w.0 below c.fits-w.1 in omega (arith, fit, more))

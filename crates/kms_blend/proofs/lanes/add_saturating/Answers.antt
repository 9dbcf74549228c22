use Rattle.std.proofs.Common.{w8, arith}
use Rattle.kms_blend.proofs.LaneByLane.{add8, as_lanes, both, byte, least, own, splat, sub8}
use Rattle.kms_blend.proofs.lanes.add_saturating.Goals as goal

pub returns : goal.returns
returns c =
    let v = own c.args.v c.fits-v.0 in
    let w = own c.args.w c.fits-w.0 in
    as_lanes _ _ _ (both add8 _ _ _ _ v (least w8 _ _ _ _ w (both sub8 _ _ _ _ (splat 255) v))) (λ i below.
    let fit = byte c.args.v i c.fits-v.0 below c.fits-v.1 in
    let more = byte c.args.w i c.fits-w.0 below c.fits-w.1 in omega (arith, fit, more))

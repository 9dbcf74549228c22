use Rattle.std.proofs.Common.{arith}
use Rattle.kms_blend.proofs.LaneByLane.{as_lanes, both, byte, byte_product, mul16, small_product, widened}
use Rattle.kms_blend.proofs.lanes.products.Goals as goal

pub returns-clause-lanes : goal.returns-clause-lanes
returns-clause-lanes c =
    as_lanes _ _ _ (both mul16 _ _ _ _ (widened c.args.v c.fits-v.0) (widened c.args.w c.fits-w.0)) (λ i below.
    byte_product _ _ (byte c.args.v i c.fits-v.0 below c.fits-v.1) (byte c.args.w i c.fits-w.0 below c.fits-w.1))

pub returns-clause-most : goal.returns-clause-most
returns-clause-most c i below =
    let is = (both mul16 _ _ _ _ (widened c.args.v c.fits-v.0) (widened c.args.w c.fits-w.0)).lanes i below in
    let fit = byte c.args.v i c.fits-v.0 below c.fits-v.1 in
    let more = byte c.args.w i c.fits-w.0 below c.fits-w.1 in
    let product = byte_product _ _ fit more in
    let small = small_product _ _ 255 255 fit more in omega (arith, is, product, small)

use Rattle.std.proofs.Common.{slice_index, map, arith}
use Rattle.kms_blend.proofs.LaneByLane.{byte, small_product, widened}
use Rattle.kms_blend.proofs.lanes.wholes.Goals as goal

pub returns-clause-most : goal.returns-clause-most
returns-clause-most c i below =
    let is = c.lower_products.ensures.lanes i below in
    let whole = c.hide.ensures in
    let same = (widened c.args.v c.fits-v.0).lanes i below in
    let fit = byte c.args.v i c.fits-v.0 below c.fits-v.1 in
    let byte_is = slice_index (map (λ x. x) c.args.v) i in
    let small = small_product c.hide.result byte_is 255 255 (omega (arith, whole)) (omega (arith, same, fit)) in
    omega (arith, is, small)

use Rattle.std.proofs.Common.{bit_or, slice_index, arith}
use Rattle.kms_blend.proofs.LaneByLane.{as_lanes, both, one_sided}
use Rattle.kms_blend.proofs.lanes.short_distances.Goals as goal

pub returns-clause-lanes : goal.returns-clause-lanes
returns-clause-lanes c = as_lanes _ _ _ (both bit_or _ _ _ _ c.subtract_saturating.ensures c.subtract_saturating-2.ensures) (λ i below.
    one_sided (slice_index c.args.v i) (slice_index c.args.w i))

pub returns-clause-most : goal.returns-clause-most
returns-clause-most c i below =
    let is = (both bit_or _ _ _ _ c.subtract_saturating.ensures c.subtract_saturating-2.ensures).lanes i below in
    let apart = one_sided (slice_index c.args.v i) (slice_index c.args.w i) in
    let fit = c.requires.v i below in
    let more = c.requires.w i below in omega (arith, is, apart, fit, more)

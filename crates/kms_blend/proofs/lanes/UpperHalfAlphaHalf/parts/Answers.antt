use Rattle.std.proofs.Common.{◌-◌, slice_index, arith}
use Rattle.kms_blend.proofs.LaneByLane.{as_lanes, both, own, short, small_product, sub16}
use Rattle.kms_blend.proofs.Moves.{of_rest}
use Rattle.kms_blend.proofs.lanes.UpperHalfAlphaHalf.parts.Goals as goal

pub small_parts-requires-clause-small : goal.small_parts-requires-clause-small
small_parts-requires-clause-small c i below =
    let fit = short c.args.v i c.fits-v.0 below c.fits-v.1 in
    let least = c.requires.least in
    let small = small_product (65535 - c.args.a) (slice_index c.args.v i) 32767 65535 (omega (arith, least)) fit in omega (arith, small)

pub returns : goal.returns
returns c = as_lanes _ _ _ (both sub16 _ _ _ _ (own c.args.v c.fits-v.0) c.small_parts.ensures) (λ i below.
    of_rest c.args.a (slice_index c.args.v i) c.requires.most (short c.args.v i c.fits-v.0 below c.fits-v.1))

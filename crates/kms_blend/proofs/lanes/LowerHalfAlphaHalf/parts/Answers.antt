use Rattle.std.proofs.Common.{slice_index, arith}
use Rattle.kms_blend.proofs.LaneByLane.{short, small_product}
use Rattle.kms_blend.proofs.lanes.LowerHalfAlphaHalf.parts.Goals as goal

pub small_parts-requires-clause-small : goal.small_parts-requires-clause-small
small_parts-requires-clause-small c i below =
    let fit = short c.args.v i c.fits-v.0 below c.fits-v.1 in
    let small = small_product c.args.a (slice_index c.args.v i) 32767 65535 c.requires.most fit in omega (arith, small)

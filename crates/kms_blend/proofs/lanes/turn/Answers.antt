use Rattle.std.proofs.Common.{bit_xor, slice_index}
use Rattle.kms_blend.proofs.LaneByLane.{as_lanes, both, byte, own}
use Rattle.kms_blend.proofs.Moves.{turned_by}
use Rattle.kms_blend.proofs.lanes.turn.Goals as goal

pub returns : goal.returns
returns c = as_lanes _ _ _ (both bit_xor _ _ _ _ (own c.args.b c.fits-b.0) (own c.args.down c.fits-down.0)) (λ i below.
    turned_by (slice_index c.args.b i) (slice_index c.args.down i) (byte c.args.b i c.fits-b.0 below c.fits-b.1) (c.requires i below))

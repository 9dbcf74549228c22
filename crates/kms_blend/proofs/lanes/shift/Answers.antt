use Rattle.std.proofs.Common.{slice_index}
use Rattle.kms_blend.proofs.LaneByLane.{as_lanes, byte}
use Rattle.kms_blend.proofs.Moves.{by_turns}
use Rattle.kms_blend.proofs.lanes.shift.Goals as goal

pub returns : goal.returns
returns c = as_lanes _ _ _ c.turn-2.ensures (λ i below.
    by_turns 1 (slice_index c.args.down i) (slice_index c.args.b i) (slice_index c.args.by i) _ _
    (byte c.args.b i c.fits-b.0 below c.fits-b.1) (c.turn.ensures.lanes i below) (c.add_saturating.ensures.lanes i below))

use Rattle.std.proofs.Common.{slice_index, w8, refl}
use Rattle.kms_blend.proofs.LaneByLane.{apart_lanes, apart_of_bytes, as_lanes, byte, own, sub8}
use Rattle.kms_blend.proofs.lanes.distances.Goals as goal

pub returns : goal.returns
returns c = as_lanes _ _ _ (apart_lanes w8 sub8 _ _ _ _ (own c.args.v c.fits-v.0) (own c.args.w c.fits-w.0)) (λ i below.
    apart_of_bytes (slice_index c.args.v i) (slice_index c.args.w i) _ refl
    (byte c.args.v i c.fits-v.0 below c.fits-v.1) (byte c.args.w i c.fits-w.0 below c.fits-w.1))

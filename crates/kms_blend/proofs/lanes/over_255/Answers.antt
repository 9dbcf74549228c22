use Rattle.std.proofs.Common.{ℕ, List, slice_index}
use Rattle.kms_blend.proofs.LaneByLane.{add16, as_lanes, both, down, own, quotient16, splat}
use Rattle.kms_blend.proofs.lanes.over_255.Goals as goal

pub returns : goal.returns
returns c =
    let n : List ℕ = c.args.n in
    let given = own n c.fits-n.0 in
    as_lanes _ _ _ (both down _ _ _ _ (both add16 _ _ _ _ (both add16 _ _ _ _ given (splat 1)) (both down _ _ _ _ given (splat 8)))
    (splat 8)) (λ i below.
    quotient16 (slice_index n i) (c.requires i below))

use Rattle.std.proofs.Common.{◌*◌, slice_index}
use Rattle.kms_blend.proofs.LaneByLane.{add16, as_lanes, both, down, splat}
use Rattle.kms_blend.proofs.Moves.{of_small}
use Rattle.kms_blend.proofs.lanes.small_parts.Goals as goal

pub returns : goal.returns
returns c =
    as_lanes _ _ _ (both add16 _ _ _ _ c.upper_products-upper.ensures (both down _ _ _ _ c.add_short_saturating.ensures (splat 15)))
    (λ i below.
    of_small (c.args.a * slice_index c.args.v i) _ _ (c.requires.small i below)
    (c.upper_products-upper.ensures.lanes i below) (c.lower_products-lower.ensures.lanes i below))

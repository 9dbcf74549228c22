use Rattle.std.proofs.Common.{slice_index, ap, ◌∙◌}
use Rattle.std.specs.Prelude.{if◌then◌else◌, nat_eq}
use Rattle.kms_blend.proofs.LaneByLane.{as_lanes, nothing_above}
use Rattle.kms_blend.proofs.lanes.short_downwards.Goals as goal

pub returns : goal.returns
returns c = as_lanes _ _ _ c.find_zeros.ensures (λ i below.
    nothing_above (slice_index c.args.to i) (slice_index c.args.from i) _ (c.subtract_saturating.ensures.lanes i below))

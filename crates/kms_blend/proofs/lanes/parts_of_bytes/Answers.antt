use Rattle.std.proofs.Common.{ℕ, ◌+◌, ◌*◌, ◌/◌, slice_index, map, ap, ◌∙◌, arith}
use Rattle.kms_blend.proofs.LaneByLane.{as_lanes, byte, small_product, widened}
use Rattle.kms_blend.proofs.lanes.parts_of_bytes.Goals as goal

pub small_parts-requires-clause-small : goal.small_parts-requires-clause-small
small_parts-requires-clause-small c i below =
    let same = (widened c.args.v c.fits-v.0).lanes i below in
    let fit = byte c.args.v i c.fits-v.0 below c.fits-v.1 in
    let small = small_product c.args.a (slice_index (map (λ x. x) c.args.v) i) 65535 255 c.requires (omega (arith, same, fit)) in
    omega (arith, small)

pub as_short_bytes-requires : goal.as_short_bytes-requires
as_short_bytes-requires c i below =
    let same = (widened c.args.v c.fits-v.0).lanes i below in
    let fit = byte c.args.v i c.fits-v.0 below c.fits-v.1 in
    let small = small_product c.args.a (slice_index (map (λ x. x) c.args.v) i) 65535 255 c.requires (omega (arith, same, fit)) in
    let is = c.small_parts.ensures.lanes i below in omega (arith, is, small)

pub returns : goal.returns
returns c = as_lanes _ _ _ c.as_short_bytes.ensures (λ i below.
    c.small_parts.ensures.lanes i below
    ∙ ap (λ (n : ℕ). (c.args.a * n + 32767) / 65535) ((widened c.args.v c.fits-v.0).lanes i below))

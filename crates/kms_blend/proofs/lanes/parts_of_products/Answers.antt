use Rattle.std.proofs.Common.{◌+◌, ◌*◌, ◌/◌, slice_index, arith}
use Rattle.kms_blend.proofs.LaneByLane.{add16, as_lanes, both, small_product, splat}
use Rattle.kms_blend.proofs.Moves.{over_255}
use Rattle.kms_blend.proofs.lanes.parts_of_products.Goals as goal

pub pack-requires : goal.pack-requires
pack-requires g c i below =
    let sum = (both add16 _ _ _ _ c.parts.ensures (splat 128)).lanes i below in
    let small = small_product c.args.a (slice_index c.args.v i) 65535 65025 c.requires.a (c.requires.products i below) in
    let part = over_255 ((c.args.a * slice_index c.args.v i + 32767) / 65535) (omega (arith, small)) in
    let is = rw c.hide.ensures at (c.upper_products.ensures.lanes i below) in
    omega (arith, is, sum, small, part)

pub returns : goal.returns
returns g c = as_lanes _ _ _ c.pack.ensures (λ i below.
    let sum = (both add16 _ _ _ _ c.parts.ensures (splat 128)).lanes i below in
    let small = small_product c.args.a (slice_index c.args.v i) 65535 65025 c.requires.a (c.requires.products i below) in
    let part = over_255 ((c.args.a * slice_index c.args.v i + 32767) / 65535) (omega (arith, small)) in
    let is = rw c.hide.ensures at (c.upper_products.ensures.lanes i below) in
    omega (arith, is, sum, small, part))

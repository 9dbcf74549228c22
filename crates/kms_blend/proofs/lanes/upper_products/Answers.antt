use Rattle.std.proofs.Common.{◌∙◌, arith}
use Rattle.kms_blend.proofs.LaneByLane.{as_lanes, both, down, each, mul32, short, splat, upper_product, widened}
use Rattle.kms_blend.proofs.lanes.upper_products.Goals as goal

pub as_shorts-requires : goal.as_shorts-requires
as_shorts-requires c i below =
    let wide = both mul32 _ _ _ _ (each (λ x. x) _ _ (splat c.args.a)) (widened c.args.v c.fits-v.0) in
    let is = (both down _ _ _ _ wide (splat 16)).lanes i below in omega (arith, is)

pub returns : goal.returns
returns c =
    let wide = both mul32 _ _ _ _ (each (λ x. x) _ _ (splat c.args.a)) (widened c.args.v c.fits-v.0) in
    as_lanes _ _ _ c.as_shorts.ensures (λ i below.
    (both down _ _ _ _ wide (splat 16)).lanes i below ∙ upper_product _ _ c.requires (short c.args.v i c.fits-v.0 below c.fits-v.1))

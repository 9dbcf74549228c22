use Rattle.std.proofs.Common.{ℕ, w16}
use lib.IntN.{nat_abs}
use mir.Val.{to_z}
use Rattle.kms_blend.proofs.LaneByLane.{as_lanes, bounded_lane, chosen, each, fit_bytes, less, splat, widened}
use Rattle.kms_blend.proofs.lanes.pack.Goals as goal

pub overflow_cast-result-2 : goal.overflow_cast-result-2
overflow_cast-result-2 c =
    let wide = widened c.args.v c.fits-v.0 in
    let low = chosen w16 less _ _ _ _ _ _ _ _ wide (splat 0) (splat 0) wide in
    fit_bytes _ _ c.requires (chosen w16 less _ _ _ _ _ _ _ _ low (splat 255) low (splat 255))

pub returns : goal.returns
returns c =
    let wide = widened c.args.v c.fits-v.0 in
    let low = chosen w16 less _ _ _ _ _ _ _ _ wide (splat 0) (splat 0) wide in
    let both_ways = chosen w16 less _ _ _ _ _ _ _ _ low (splat 255) low (splat 255) in
    as_lanes _ _ _ (each (λ (a : ℕ). nat_abs (to_z w16 a)) _ _ both_ways) (λ i below. bounded_lane _ (c.requires i below))

use Rattle.std.proofs.Common.{ℕ, cond, eqb, slice_index, ap, w8, w16}
use mir.Val.{of_z, to_z}
use Rattle.kms_blend.proofs.LaneByLane.{as_lanes, chosen, each, less, short, splat}
use Rattle.kms_blend.proofs.Packed.{fit_signed, packed, rejoined}
use Rattle.kms_blend.proofs.lanes.find_zeros.Goals as goal

pub overflow_cast-result : goal.overflow_cast-result
overflow_cast-result c =
    let wide = rejoined c.args.v c.fits-v.0 c.fits-v.1 in
    let low = chosen w16 less _ _ _ _ _ _ _ _ wide (splat 65408) (splat 65408) wide in
    fit_signed _ _ (λ i below. short c.args.v i c.fits-v.0 below c.fits-v.1)
    (chosen w16 less _ _ _ _ _ _ _ _ low (splat 127) low (splat 127))

pub returns : goal.returns
returns c =
    let wide = rejoined c.args.v c.fits-v.0 c.fits-v.1 in
    let low = chosen w16 less _ _ _ _ _ _ _ _ wide (splat 65408) (splat 65408) wide in
    let near = chosen w16 less _ _ _ _ _ _ _ _ low (splat 127) low (splat 127) in
    let bytes = each (λ (a : ℕ). of_z w8 (to_z w16 a)) _ _ near in
    as_lanes _ _ _ (chosen w8 eqb _ _ _ _ _ _ _ _ bytes (splat 0) (splat 255) (splat 0)) (λ i below.
    ap (λ b. cond {A = ℕ} b 255 0) (packed (slice_index c.args.v i) (short c.args.v i c.fits-v.0 below c.fits-v.1)).zeros)

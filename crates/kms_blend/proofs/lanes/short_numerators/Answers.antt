use Rattle.std.proofs.Common.{slice_index, w16}
use Rattle.kms_blend.proofs.LaneByLane.{add16, as_lanes, both, byte, least, mul16, numerator16, splat, sub16, widened}
use Rattle.kms_blend.proofs.lanes.short_numerators.Goals as goal

pub returns : goal.returns
returns c =
    let layer = both mul16 _ _ _ _ (widened c.args.shown c.fits-shown.0) (widened c.args.f c.fits-f.0) in
    let weight = both sub16 _ _ _ _ (splat 255) (widened c.args.hidden c.fits-hidden.0) in
    let lower = both mul16 _ _ _ _ weight (widened c.args.b c.fits-b.0) in
    let room = both sub16 _ _ _ _ (splat 65025) layer in
    as_lanes _ _ _ (both add16 _ _ _ _ (both add16 _ _ _ _ layer (least w16 _ _ _ _ lower room)) (splat 127)) (λ i below.
    numerator16 (slice_index c.args.shown i) (slice_index c.args.hidden i) (slice_index c.args.f i) (slice_index c.args.b i)
    (byte c.args.shown i c.fits-shown.0 below c.fits-shown.1) (byte c.args.hidden i c.fits-hidden.0 below c.fits-hidden.1)
    (byte c.args.f i c.fits-f.0 below c.fits-f.1) (byte c.args.b i c.fits-b.0 below c.fits-b.1))

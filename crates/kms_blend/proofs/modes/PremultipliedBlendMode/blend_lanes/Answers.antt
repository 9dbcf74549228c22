use Rattle.std.proofs.Common.{ℕ, slice_index}
use Rattle.kms_blend.proofs.LaneByLane.{as_lanes, byte}
use Rattle.kms_blend.proofs.Moves.{premultiplied_by}
use Rattle.kms_blend.proofs.modes.PremultipliedBlendMode.blend_lanes.Goals as goal

pub returns : goal.returns
returns g c = as_lanes _ _ _ c.shift.ensures (λ i below.
    let q : ℕ = slice_index c.args.q i in
    let f : ℕ = slice_index c.args.f i in
    let b : ℕ = slice_index c.args.b i in
    premultiplied_by c.args.a q f b _ _ _ _ _ c.requires.a
    (byte c.args.q i c.fits-q.0 below c.fits-q.1) (byte c.args.b i c.fits-b.0 below c.fits-b.1)
    (c.wholes-shown.ensures.lanes.lanes i below) (c.products-hidden.ensures.lanes.lanes i below)
    (c.short_distances.ensures.lanes.lanes i below)
    (c.parts_of_products-by.ensures.lanes i below) (c.short_downwards.ensures.lanes i below))

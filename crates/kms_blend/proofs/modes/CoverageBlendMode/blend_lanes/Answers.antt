use Rattle.std.proofs.Common.{ℕ, ◌+◌, ◌*◌, ◌/◌, slice_index, ap, ◌∙◌}
use Rattle.kms_blend.specs.Lanes.{moved}
use Rattle.kms_blend.proofs.LaneByLane.{as_lanes, byte}
use Rattle.kms_blend.proofs.Moves.{by_coverage, told}
use Rattle.kms_blend.proofs.modes.CoverageBlendMode.blend_lanes.Goals as goal

pub returns : goal.returns
returns g c = as_lanes _ _ _ c.shift.ensures (λ i below.
    let q : ℕ = slice_index c.args.q i in
    let f : ℕ = slice_index c.args.f i in
    let b : ℕ = slice_index c.args.b i in
    let product = c.products.ensures.lanes.lanes i below ∙ ap (λ (n : ℕ). q * n) (c.distances.ensures.lanes i below) in
    told _ f b b _ (c.downwards.ensures.lanes i below)
    ∙ ap (moved f b b) (c.parts_of_products-by.ensures.lanes i below ∙ ap (λ (n : ℕ). (c.args.a * n + 8355712) / 16711425) product)
    ∙ by_coverage c.args.a q f b c.requires.a (byte c.args.q i c.fits-q.0 below c.fits-q.1) (byte c.args.b i c.fits-b.0 below c.fits-b.1))

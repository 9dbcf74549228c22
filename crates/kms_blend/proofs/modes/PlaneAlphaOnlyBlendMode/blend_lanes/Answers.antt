use Rattle.std.proofs.Common.{ℕ, ◌+◌, ◌*◌, ◌/◌, slice_index, ap, ◌∙◌}
use Rattle.kms_blend.specs.Lanes.{moved}
use Rattle.kms_blend.proofs.LaneByLane.{as_lanes, byte}
use Rattle.kms_blend.proofs.Moves.{by_plane, told}
use Rattle.kms_blend.proofs.modes.PlaneAlphaOnlyBlendMode.blend_lanes.Goals as goal

pub returns : goal.returns
returns g c = as_lanes _ _ _ c.shift.ensures (λ i below.
    let f : ℕ = slice_index c.args.f i in
    let b : ℕ = slice_index c.args.b i in
    told _ f b b _ (c.downwards.ensures.lanes i below)
    ∙ ap (moved f b b)
    (c.parts_of_bytes.ensures.lanes i below ∙ ap (λ (n : ℕ). (c.args.a * n + 32767) / 65535) (c.distances.ensures.lanes i below))
    ∙ by_plane c.args.a f b c.requires.a (byte c.args.b i c.fits-b.0 below c.fits-b.1))

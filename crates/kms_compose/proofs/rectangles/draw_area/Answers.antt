use Rattle.std.proofs.Common.{◌≡◌, ◌≤◌, ℕ, ◌+◌, ◌*◌, length, arith}
use Rattle.kms_model.specs.Frames.FrameBytes.{black, through}
use Rattle.kms_compose.specs.Parts.{parts_over}
use Rattle.kms_compose.proofs.Bands.{below, rows_of, rows_put}
use Rattle.kms_compose.proofs.rectangles.draw_area.Goals as goal

area_end : (top height width long : ℕ) → (top + height) * (width * 3) ≤ long → 3 * (top * width) + 3 * (height * width) ≤ long
area_end top height width long room =
    let parts : (top + height) * (width * 3) ≡ 3 * (top * width) + 3 * (height * width) = omega arith in
    omega (arith, parts, room)

pub slice_bounds-rows-end : goal.slice_bounds-rows-end
slice_bounds-rows-end g c = area_end c.args.area.now.top c.args.area.now.height c.args.width (length c.args.bytes.now) c.requires.long

pub returns : goal.returns
returns g c = λ height before fits now.
    let new = λ (x y : ℕ). through c.args.gamma.now (parts_over x y black c.args.parts.now) in
    rows_put c.args.area.now c.args.width height _ _ new before _ _ fits.down (omega arith) (omega arith) now
    (c.draw.ensures (below c.args.area.now.top before)
    (rows_of c.args.area.now c.args.width height _ _ before _ fits.down (omega arith) (omega arith) now))

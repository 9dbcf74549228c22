use Rattle.std.proofs.Common.{◌≡◌, ◌<◌, ◌≤◌, ℕ, ◌+◌, ◌*◌, length, ◌∙◌, arith}
use Rattle.std.proofs.Math.Nat.{mul-le-mul_right}
use Rattle.kms_model.specs.Frames.FrameBytes.{black, through}
use Rattle.kms_compose.specs.Parts.{parts_over}
use Rattle.kms_compose.proofs.RowByRow.{at_top, rows_all, rows_more, rows_none}
use Rattle.kms_compose.proofs.drawing.draw_band.Goals as goal

row_end : (y end width left wide long size : ℕ) → left + wide ≤ width → y < end → long ≡ end * (width * 3) → size ≡ long →
    3 * (y * width + left) + 3 * wide ≤ size
row_end y end width left wide long size fits low room same =
    let rows : (y + 1) * (width * 3) ≤ end * (width * 3) = mul-le-mul_right (width * 3) (omega (arith, low)) in
    let parts : (y + 1) * (width * 3) ≡ 3 * (y * width) + 3 * width = omega arith in
    omega (arith, rows, parts, fits, room, same)

pub slice_bounds-row-end : goal.slice_bounds-row-end
slice_bounds-row-end c = row_end c.loop-y.y c.args.area.now.height c.args.width c.args.area.now.left c.args.area.now.width
    (length c.args.rows.now) (length c.loop-y.rows)
    c.requires.across (omega arith) c.requires.long c.loop-y.invariant.size

pub loop-y-init : goal.loop-y-init
loop-y-init c = record {
  size = omega arith;
  drawn = λ before now. now ∙ rows_none (λ x y. through c.args.gamma.now (parts_over x (c.args.area.now.top + y) black c.args.parts.now))
      before (at_top c.args.area.now) c.args.width c.args.area.now.height;
}

pub loop-y-preserved : goal.loop-y-preserved
loop-y-preserved c = record {
  size = omega arith;
  drawn = λ before now.
      rows_more (λ x y. through c.args.gamma.now (parts_over x (c.args.area.now.top + y) black c.args.parts.now)) before
      (at_top c.args.area.now) c.args.width c.args.area.now.height c.loop-y.y _ _ _ _
      (record { across = c.requires.across; down = omega arith })
      (omega arith) (omega arith) (omega arith) (omega arith) (c.loop-y.invariant.drawn before now) c.draw_runs.ensures;
}

pub returns : goal.returns
returns c = λ before now.
    c.loop-y.invariant.drawn before now
    ∙ rows_all (λ x y. through c.args.gamma.now (parts_over x (c.args.area.now.top + y) black c.args.parts.now)) before c.args.area.now
    c.args.width c.loop-y.y (omega arith)

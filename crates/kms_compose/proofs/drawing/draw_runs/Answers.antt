use Rattle.std.proofs.Common.{◌≡◌, ◌-◌, ◌*◌, ◌+◌, min, arith, rules}
use Rattle.kms_compose.specs.Parts.{part_pixel}
use Rattle.kms_compose.proofs.RowByRow.{pixels_more}
use Rattle.kms_compose.proofs.drawing.draw_runs.Goals as goal

pub loop-done-preserved : goal.loop-done-preserved
loop-done-preserved c =
    let least : c.min-more.result ≡ min 256 (c.args.piece.count - c.loop-done.done) = search rules in record {
      within = omega (arith, least, c.loop-done.invariant.within);
      drawn = pixels_more (part_pixel c.args.gamma.now c.args.parts.now c.args.piece.y) c.loop-done.out c.draw_run.new.out c.args.piece.left
          c.loop-done.done c.min-more.result
          (3 * c.loop-done.done) (3 * (c.loop-done.done + c.min-more.result) - 3 * c.loop-done.done)
          (3 * (c.loop-done.done + c.min-more.result))
          (omega arith) (omega arith) (omega arith) (omega arith) (omega (arith, least, c.loop-done.invariant.within))
          c.loop-done.invariant.drawn c.draw_run.ensures;
    }

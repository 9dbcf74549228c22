-- The rows before y are drawn.
use Rattle.std.proofs.Common.{◌≡◌, ℕ, ◌+◌, length}
use Rattle.kms_model.specs.declared.pictures.Colour.{Colour}
use Rattle.kms_model.specs.Frames.FrameBytes.{black, through}
use Rattle.kms_compose.specs.Areas.{canvas, drawn}
use Rattle.kms_compose.specs.Parts.{parts_over}
use Rattle.kms_compose.proofs.RowByRow.{at_top, in_rows}
use Rattle.kms_compose.proofs.drawing.draw_band.Given as goal

abbrev pub invariant-loop-y : goal.invariant-loop-y
invariant-loop-y l = record {
  size : length l.rows ≡ length l.fn.rows;
  drawn : (before : ℕ → ℕ → Colour) → l.fn.rows ≡ canvas l.width l.area.height before
      → l.rows ≡ canvas l.width l.area.height (drawn (in_rows (at_top l.area) l.y)
      (λ x y. through l.gamma (parts_over x (l.area.top + y) black l.parts)) before);
}

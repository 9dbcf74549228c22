use Rattle.std.proofs.Common.{ℕ, length, ap, ◌∙◌, arith}
use Rattle.std.proofs.lemmas.List.{take_at}
use Rattle.kms_model.specs.Frames.FrameBytes.{black}
use Rattle.kms_compose.proofs.Canvas.{canvas-length}
use Rattle.kms_compose.proofs.frames.parts_bytes.Goals as goal

pub draw_whole-requires-clause-long : goal.draw_whole-requires-clause-long
draw_whole-requires-clause-long g c =
    ap length (c.as_mut_slice.ensures.value ∙ c.in_ok-bytes.ensures) ∙ canvas-length c.args.width c.args.height (λ (x y : ℕ). black)

pub returns : goal.returns
returns g c =
    take_at c.draw_whole.new.bytes _ c.in_ok-bytes.bytes.len (omega arith)
    ∙ c.draw_whole.ensures (λ x y. black) (c.as_mut_slice.ensures.value ∙ c.in_ok-bytes.ensures)

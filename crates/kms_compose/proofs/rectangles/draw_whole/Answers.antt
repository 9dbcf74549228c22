use Rattle.std.proofs.Common.{ℕ, refl, ◌∙◌, arith}
use Rattle.kms_model.specs.Frames.FrameBytes.{black, through}
use Rattle.kms_compose.specs.Parts.{parts_over}
use Rattle.kms_compose.proofs.RowByRow.{drawn_whole}
use Rattle.kms_compose.proofs.rectangles.draw_whole.Goals as goal

pub returns : goal.returns
returns g c = λ before now.
    c.draw_area.ensures c.args.height before (record { across = omega arith; down = omega arith }) now
    ∙ drawn_whole (λ (x y : ℕ). through c.args.gamma.now (parts_over x y black c.args.parts.now)) before _ c.args.width c.args.height refl
    refl refl refl

use Rattle.std.proofs.Common.{ap, ◌∙◌, arith}
use Rattle.kms_model.specs.Frames.FrameBytes.{channels, through}
use Rattle.kms_compose.specs.Parts.{part_pixel}
use Rattle.kms_compose.proofs.Runs.{front_bytes}
use Rattle.kms_compose.proofs.drawing.draw_run.Goals as goal

pub returns : goal.returns
returns c =
    c.interleave.ensures
    ∙ front_bytes (part_pixel c.args.gamma.now c.args.parts.now c.args.piece.y) _ _ _ c.args.piece.left c.args.piece.count (omega arith)
    (λ x below. ap channels (c.through_gamma.ensures x below ∙ ap (through c.args.gamma.now) (c.make_run.ensures x below)))

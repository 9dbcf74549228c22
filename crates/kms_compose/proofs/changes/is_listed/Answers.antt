use Rattle.std.proofs.Common.{Option, ap, ◌∙◌, rules}
use Rattle.kms_model.specs.declared.pictures.Rect.{Rect}
use Rattle.kms_model.specs.Frames.FrameBytes.{is_covered}
use Rattle.kms_compose.proofs.Differing.{covered_at}
use Rattle.kms_compose.proofs.changes.is_listed.Goals as goal

pub returns-then-is_same_part : goal.returns-then-is_same_part
returns-then-is_same_part c = λ found x y on.
    let same = c.is_same_part.ensures.0 (search rules) in
    covered_at c.args.layers.now c.loop-layer.layer-index _ x y c.loop-layer-test.true
    (ap (λ (v : Option Rect). is_covered v x y) same ∙ on)

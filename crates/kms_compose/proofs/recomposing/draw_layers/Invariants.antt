-- What the layers so far cover is drawn.
use Rattle.std.proofs.Common.{◌≡◌, ℕ, length, take}
use Rattle.kms_model.specs.declared.pictures.Colour.{Colour}
use Rattle.kms_model.specs.Frames.FrameBytes.{black, through}
use Rattle.kms_compose.specs.Areas.{canvas, drawn}
use Rattle.kms_compose.specs.Changes.{covered_by}
use Rattle.kms_compose.specs.Parts.{parts_over}
use Rattle.kms_compose.proofs.recomposing.draw_layers.Given as goal

abbrev pub invariant-loop-layer : goal.invariant-loop-layer
invariant-loop-layer g l = record {
  size : length l.bytes ≡ length l.fn.bytes;
  drawn : (before : ℕ → ℕ → Colour) → l.fn.bytes ≡ canvas l.mode.hdisplay l.mode.vdisplay before
      → l.bytes ≡ canvas l.mode.hdisplay l.mode.vdisplay
      (drawn (covered_by (take l.layer-index l.layers)) (λ x y. through l.gamma (parts_over x y black l.parts)) before);
}

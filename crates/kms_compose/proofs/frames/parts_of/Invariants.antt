-- The rest of the layers over the parts so far are all layers over black.
use Rattle.std.proofs.Common.{◌≡◌, ℕ, drop}
use Rattle.std.specs.Prelude.{All}
use Rattle.kms_model.specs.Frames.FrameBytes.{black, composed}
use Rattle.kms_compose.specs.Images.{word_under}
use Rattle.kms_compose.specs.Parts.{IsPart, parts_over}
use Rattle.kms_compose.proofs.frames.parts_of.Given as goal

abbrev pub invariant-loop-layer : goal.invariant-loop-layer
invariant-loop-layer l = record {
  parts : All IsPart l.parts.items;
  colours : (x y : ℕ) → composed (word_under l.images) x y (parts_over x y black l.parts.items) (drop l.layer-index l.layer-items)
      ≡ composed (word_under l.images) x y black l.shown.layers;
}

use Rattle.std.proofs.Common.{take}
use Rattle.kms_compose.specs.Images.{AreImagesIn, AreSeen}
use Rattle.kms_report.specs.Images.{KeepsImages, things_of}
use Rattle.kms_report.proofs.images.push_layers.Given as goal

abbrev pub invariant-loop-layer : goal.invariant-loop-layer
invariant-loop-layer l = record {
  images : AreImagesIn (things_of l.core) l.images;
  seen : AreSeen (things_of l.core) l.images (take l.layer-index l.layers);
  kept : KeepsImages l.initial.images l.images;
}

use Rattle.std.proofs.Common.{take}
use Rattle.kms_compose.specs.Images.{AreImagesIn, AreSeen}
use Rattle.kms_audit.proofs.images.push_layers.Given as goal

abbrev pub invariant-loop-layer : goal.invariant-loop-layer
invariant-loop-layer l = record {
  images : AreImagesIn l.serial.world.things l.images;
  seen : AreSeen l.serial.world.things l.images (take l.layer-index l.layers);
}

use Rattle.std.proofs.Common.{List, subst}
use Rattle.std.proofs.lemmas.List.{take_all}
use Rattle.kms_model.specs.declared.pictures.Layer.{Layer}
use Rattle.kms_compose.specs.Images.{AreSeen}
use Rattle.kms_compose.proofs.PushedImages.{pushed-images, pushed-more}
use Rattle.kms_report.specs.Images.{things_of}
use Rattle.kms_report.proofs.KeptImages.{keeps-then, pushed-keeps}
use Rattle.kms_report.proofs.images.push_layers.Goals as goal

pub loop-layer-preserved : goal.loop-layer-preserved
loop-layer-preserved c =
    let things = things_of c.args.core.now in
    let before = c.loop-layer.invariant in
    let pushed = c.in_ok-push_image.ensures in
    record {
      images = pushed-images things _ c.loop-layer.images c.push_image.new.images pushed before.images;
      seen =
          pushed-more things c.args.layers.now c.loop-layer.layer-index _ c.loop-layer.images c.push_image.new.images c.loop-layer-test.true
          pushed before.images before.seen;
      kept =
          keeps-then c.args.images.now c.loop-layer.images c.push_image.new.images before.kept
          (pushed-keeps things _ c.loop-layer.images c.push_image.new.images pushed);
    }

pub returns-clause-seen : goal.returns-clause-seen
returns-clause-seen c =
    subst (λ (layers : List Layer). AreSeen (things_of c.args.core.now) c.loop-layer.images layers)
    (take_all c.loop-layer.layer-index c.args.layers.now c.loop-layer-test.false) c.loop-layer.invariant.seen

use Rattle.kms_report.specs.Images.{things_of}
use Rattle.kms_report.proofs.KeptImages.{keeps-then, kept-still, over-images, showing-of, shown-still}
use Rattle.kms_report.proofs.showing.show_latch.Goals as goal

pub showing-requires-clause-screen : goal.showing-requires-clause-screen
showing-requires-clause-screen g c =
    let all = c.push_next.new.images in
    let keeps =
    keeps-then c.in_ok-images.images c.push_images.new.images all c.in_ok-push_images.ensures.kept c.in_ok-push_next.ensures.kept in
    over-images (things_of c.args.core.now) all c.in_ok-push_next.ensures.images c.args.screen
    (kept-still c.in_ok-images.images all c.args.screen keeps c.in_ok-images.ensures.kept) c.requires.screen

pub showing-requires-clause-picture : goal.showing-requires-clause-picture
showing-requires-clause-picture g c =
    shown-still c.push_images.new.images c.push_next.new.images c.args.latch.now.picture c.in_ok-push_next.ensures.kept
    c.in_ok-push_images.ensures.shown

pub returns : goal.returns
returns g c =
    showing-of (things_of c.args.core.now) c.push_next.new.images c.in_ok-push_next.ensures.images c.showing.result c.args.latch.now.picture
    c.showing.ensures

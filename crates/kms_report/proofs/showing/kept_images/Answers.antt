use Rattle.kms_report.proofs.KeptImages.{shown-still}
use Rattle.kms_report.proofs.showing.kept_images.Goals as goal

pub returns-clause-kept : goal.returns-clause-kept
returns-clause-kept c =
    record {
      one =
          shown-still c.push_images.new.images c.push_images-2.new.images c.args.screen.now.first.drawn.picture
          c.in_ok-push_images-2.ensures.kept c.in_ok-push_images.ensures.shown;
      other = c.in_ok-push_images-2.ensures.shown;
    }

use Rattle.std.proofs.Common.{◌∙◌, ap}
use Rattle.kms_core.specs.Run.{gains}
use Rattle.kms_core.specs.Work.{cleanup_steps}
use Rattle.kms_core.proofs.Applied.{cleanup_asked, cleanup_done, history_now}
use Rattle.kms_core.proofs.applying.do_cleanup.Goals as goal

pub cleanup-over-requires : goal.cleanup-over-requires
cleanup-over-requires c = cleanup_asked c.args.core.now
    (history_now c.args.core.now c.is_a_history.ensures.formed c.is_a_history.ensures.history) c.args.commit c.requires

pub returns : goal.returns
returns c = record {
  history = c.cleanup-over.ensures.history ∙ ap (λ b. gains c.args.core.now (cleanup_steps c.args.commit b))
      (c.cleanup-over.ensures.answer ∙ cleanup_done c.args.core.now c.args.commit c.requires);
}

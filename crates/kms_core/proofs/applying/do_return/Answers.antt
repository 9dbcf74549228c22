use Rattle.std.proofs.Common.{◌∙◌, ap}
use Rattle.kms_core.specs.Calls.{return_step}
use Rattle.kms_core.specs.Run.{gains}
use Rattle.kms_core.proofs.Applied.{history_now, return_asked, return_done}
use Rattle.kms_core.proofs.applying.do_return.Goals as goal

pub return_from-requires : goal.return_from-requires
return_from-requires c = return_asked c.args.core.now
    (history_now c.args.core.now c.is_a_history.ensures.formed c.is_a_history.ensures.history) c.args.client c.requires

pub returns : goal.returns
returns c = record {
  history = c.in_ok-_over.ensures.history ∙ ap (λ b. gains c.args.core.now (return_step c.args.client b))
      (c.in_ok-_over.ensures.answer ∙ return_done c.args.core.now c.args.client c.requires);
}

use Rattle.std.proofs.Common.{List, sym, subst}
use Rattle.std.specs.List.{All}
use Rattle.kms_model.specs.declared.replies.Step.{Step}
use Rattle.kms_report.specs.Telling.{HasSmallIndex}
use Rattle.kms_report.proofs.SmallSteps.{history-small}
use Rattle.kms_report.proofs.histories.push_trace.Goals as goal

pub push_steps-requires : goal.push_steps-requires
push_steps-requires c =
    subst (λ (steps : List Step). All HasSmallIndex steps) (sym c.history.ensures)
    (history-small c.args.core.now.script c.args.core.now.steps c.is_a_history.ensures.formed.device c.is_a_history.ensures.history)

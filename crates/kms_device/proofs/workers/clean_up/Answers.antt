use Rattle.std.proofs.Common.{rules, sym, ◌∙◌}
use Rattle.kms_device.proofs.Legals.{clean-over, may_clean}
use Rattle.kms_device.proofs.workers.clean_up.Goals as goal

pub cleanup-requires : goal.cleanup-requires
cleanup-requires c = may_clean _ c.args.commit (search rules) c.is_a_history.ensures.formed c.is_a_history.ensures.history

pub returns-then-legal-clause-answer : goal.returns-then-legal-clause-answer
returns-then-legal-clause-answer c = c.cleanup.ensures.answer ∙
    (clean-over c.args.core.now c.args.commit (sym c.legal.ensures ∙ c.if-legal.true) ∙ sym (sym c.legal.ensures ∙ c.if-legal.true))

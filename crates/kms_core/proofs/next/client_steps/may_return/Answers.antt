use Rattle.std.proofs.Common.{◌∙◌, sym}
use Rattle.kms_model.proofs.CommitFacts.{returning_not}
use Rattle.kms_core.proofs.stores.Histories.{seen}
use Rattle.kms_core.proofs.next.ClientSteps.{return_not, return_told}
use Rattle.kms_core.proofs.next.client_steps.may_return.Goals as goal

pub returns-in-Returning : goal.returns-in-Returning
returns-in-Returning c = c.is_cleaned.ensures ∙ return_told c.args.client c.in-Returning.commit (seen c.stores.invariant
    (c.stores.view_is ∙ c.deref-stores.ensures ∙ c.core.view_is)).stands (sym c.in-Returning.is ∙ c.doing.ensures)

pub returns-in_default : goal.returns-in_default
returns-in_default c = return_not c.args.core.now c.args.client c.doing.result (returning_not c.doing.result c.in_default.not-Returning)
    c.doing.ensures

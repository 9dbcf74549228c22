use Rattle.std.proofs.Common.{◌∙◌}
use Rattle.kms_core.proofs.stores.Histories.{seen}
use Rattle.kms_core.proofs.next.ClientSteps.{relock_outside, relock_told}
use Rattle.kms_core.proofs.next.client_steps.may_relock.Goals as goal

pub returns-then-has_client : goal.returns-then-has_client
returns-then-has_client c = relock_told c.args.client c.may_relock.result (seen c.stores.invariant
    (c.stores.view_is ∙ c.deref-stores.ensures ∙ c.core.view_is)).stands c.may_relock.ensures

pub returns-else-has_client : goal.returns-else-has_client
returns-else-has_client c = c.if-has_client.false ∙ relock_outside c.args.client (seen c.stores.invariant
    (c.stores.view_is ∙ c.deref-stores.ensures ∙ c.core.view_is)).stands (c.has_client.ensures.no c.if-has_client.false)

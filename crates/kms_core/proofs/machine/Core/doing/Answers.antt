use Rattle.std.proofs.Common.{◌∙◌}
use Rattle.kms_core.proofs.stores.Histories.{seen}
use Rattle.kms_core.proofs.next.ClientSteps.{outside_idle}
use Rattle.kms_core.proofs.machine.Core.doing.Goals as goal

pub returns-else-has_client : goal.returns-else-has_client
returns-else-has_client c = outside_idle c.args.client (seen c.stores.invariant (c.stores.view_is ∙ c.deref-stores.ensures ∙
    c.self.view_is)).stands (c.has_client.ensures.no c.if-has_client.false)

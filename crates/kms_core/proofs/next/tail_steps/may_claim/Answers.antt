use Rattle.std.proofs.Common.{◌∙◌}
use Rattle.kms_core.specs.Insides.{run_in, stores_of}
use Rattle.kms_core.proofs.next.TailSteps.{claim_told}
use Rattle.kms_core.proofs.next.tail_steps.may_claim.Goals as goal

pub returns : goal.returns
returns c = c.ready.ensures ∙ claim_told (run_in c.stores.inside) c.args.core.now (stores_of c.stores.inside) c.args.commit
    c.stores.invariant.stands (c.stores.view_is ∙ c.deref-stores.ensures ∙ c.core.view_is)

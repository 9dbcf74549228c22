use Rattle.std.proofs.Common.{◌∙◌, ap, sym}
use Rattle.std.specs.Option.{option_copied}
use Rattle.kms_core.specs.Insides.{run_in, stores_of}
use Rattle.kms_core.proofs.next.TailSteps.{flush_absent, flush_told}
use Rattle.kms_core.proofs.next.tail_steps.may_flush.Goals as goal

pub returns-in-Some : goal.returns-in-Some
returns-in-Some c = c.flushes_next.ensures ∙ flush_told (run_in c.stores.inside) c.args.core.now
    (stores_of c.stores.inside) c.args.commit c.stores.invariant.stands (c.stores.view_is ∙ c.deref-stores.ensures ∙ c.core.view_is)
    c.in-Some.tail.now c.args.kind c.args.index
    (ap option_copied (sym c.in-Some.is) ∙ c.get.ensures)

pub returns-in-None : goal.returns-in-None
returns-in-None c = flush_absent (run_in c.stores.inside) c.args.core.now
    (stores_of c.stores.inside) c.args.commit c.stores.invariant.stands (c.stores.view_is ∙ c.deref-stores.ensures ∙ c.core.view_is)
    c.args.kind c.args.index
    (ap option_copied (sym c.in-None.is) ∙ c.get.ensures)

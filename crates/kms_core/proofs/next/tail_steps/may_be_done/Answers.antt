use Rattle.std.proofs.Common.{◌∙◌, ap, sym}
use Rattle.std.specs.Option.{option_copied}
use Rattle.kms_core.specs.Insides.{run_in, stores_of}
use Rattle.kms_core.proofs.next.TailSteps.{done_absent, done_told}
use Rattle.kms_core.proofs.next.tail_steps.may_be_done.Goals as goal

pub returns-in-Some : goal.returns-in-Some
returns-in-Some c = c.ends_next.ensures ∙ done_told (run_in c.stores.inside) c.args.core.now
    (stores_of c.stores.inside) c.args.commit c.stores.invariant.stands (c.stores.view_is ∙ c.deref-stores.ensures ∙ c.core.view_is)
    c.in-Some.tail.now
    (ap option_copied (sym c.in-Some.is) ∙ c.get.ensures)

pub returns-in-None : goal.returns-in-None
returns-in-None c = done_absent (run_in c.stores.inside) c.args.core.now
    (stores_of c.stores.inside) c.args.commit c.stores.invariant.stands (c.stores.view_is ∙ c.deref-stores.ensures ∙ c.core.view_is)
    (ap option_copied (sym c.in-None.is) ∙ c.get.ensures)

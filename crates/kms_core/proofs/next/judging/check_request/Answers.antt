use Rattle.std.proofs.Common.{◌∙◌}
use Rattle.kms_core.specs.Insides.{run_in}
use Rattle.kms_core.proofs.next.Presented.{somewhere_now}
use Rattle.kms_core.proofs.next.Refusing.{checked_now, early_at, settable_now, spanned, states_now}
use Rattle.kms_core.proofs.next.judging.check_request.Goals as goal

pub changed-states-requires : goal.changed-states-requires
changed-states-requires c = somewhere_now c.stores.invariant.stands

pub spans-named-requires : goal.spans-named-requires
spans-named-requires c = settable_now (run_in c.stores.inside) c.args.request.now c.stores.invariant.stands.formed
    (early_at c.args.request.now (c.stores.view_is ∙ c.deref-stores.ensures ∙ c.core.view_is)
    c.requires)

pub returns-clause-checked : goal.returns-clause-checked
returns-clause-checked c =
    checked_now (c.stores.view_is ∙ c.deref-stores.ensures ∙ c.core.view_is)
    (spanned c.args.request.now c.changed-states.result c.spans-named.result
    c.stores.invariant.stands (early_at c.args.request.now
    (c.stores.view_is ∙ c.deref-stores.ensures ∙ c.core.view_is) c.requires) c.changed-states.ensures.between
    c.spans-named.ensures.named c.spans-named.ensures.touched)

pub returns-clause-states : goal.returns-clause-states
returns-clause-states c =
    states_now
    (spanned c.args.request.now c.changed-states.result c.spans-named.result
    c.stores.invariant.stands (early_at c.args.request.now
    (c.stores.view_is ∙ c.deref-stores.ensures ∙ c.core.view_is) c.requires) c.changed-states.ensures.between
    c.spans-named.ensures.named c.spans-named.ensures.touched)

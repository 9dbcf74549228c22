use Rattle.std.proofs.Common.{sym, ◌∙◌}
use Rattle.kms_model.specs.declared.replies.Step.{Step}
use Rattle.kms_core.proofs.stores.Histories.{seen}
use Rattle.kms_core.proofs.stores.FirstTails.{nothing_found, nothing_further, something_found}
use Rattle.kms_core.specs.Insides.{run_in, stores_of}
use Rattle.kms_core.proofs.next.TailTurns.{cleaned_none, first_of}
use Rattle.kms_core.proofs.next.Onward.{fewer_left, more_fits}
use Rattle.kms_core.proofs.next.settling.first_of_tails.Goals as goal

pub returns-in-Some-first_of_tail : goal.returns-in-Some-first_of_tail
returns-in-Some-first_of_tail c =
    let r = run_in c.stores.inside in
    let st = stores_of c.stores.inside in
    let v = c.args.core.now in
    something_found Step (seen c.stores.invariant (c.stores.view_is ∙ c.deref-stores.ensures ∙ c.core.view_is)).stands (first_of v)
    (cleaned_none (seen c.stores.invariant (c.stores.view_is ∙ c.deref-stores.ensures ∙ c.core.view_is)).stands) c.seeking.from
    c.in-Some.commit c.in-Some-first_of_tail.step c.in-Some.ensures.machine (sym c.in-Some-first_of_tail.is ∙ c.first_of_tail.ensures)
    c.seeking.invariant

pub overflow_add-from : goal.overflow_add-from
overflow_add-from c = more_fits c.stores.invariant.stands c.seeking.from
    c.in-Some.commit c.in-Some.ensures.machine

pub seeking-smaller : goal.seeking-smaller
seeking-smaller c = fewer_left c.stores.invariant.stands c.seeking.from
    c.in-Some.commit c.in-Some.ensures.machine

pub seeking-preserved : goal.seeking-preserved
seeking-preserved c =
    let r = run_in c.stores.inside in
    let st = stores_of c.stores.inside in
    let v = c.args.core.now in
    nothing_further Step (seen c.stores.invariant (c.stores.view_is ∙ c.deref-stores.ensures ∙ c.core.view_is)).stands (first_of v)
    (cleaned_none (seen c.stores.invariant (c.stores.view_is ∙ c.deref-stores.ensures ∙ c.core.view_is)).stands) c.seeking.from
    c.in-Some.commit c.in-Some.ensures.machine (sym c.in_default-first_of_tail.is ∙ c.first_of_tail.ensures) c.seeking.invariant

pub returns : goal.returns
returns c =
    let r = run_in c.stores.inside in
    let st = stores_of c.stores.inside in
    let v = c.args.core.now in
    nothing_found Step (seen c.stores.invariant (c.stores.view_is ∙ c.deref-stores.ensures ∙ c.core.view_is)).stands (first_of v)
    (cleaned_none (seen c.stores.invariant (c.stores.view_is ∙ c.deref-stores.ensures ∙ c.core.view_is)).stands) c.seeking.from
    c.in_default.ensures.machine c.seeking.invariant

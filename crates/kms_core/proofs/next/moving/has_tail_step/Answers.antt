use Rattle.std.proofs.Common.{sym, ◌∙◌}
use Rattle.kms_core.proofs.stores.Histories.{seen}
use Rattle.kms_core.proofs.next.Movers.{no_tail_step, rests_further, some_tail, tail_moved}
use Rattle.kms_core.proofs.next.Onward.{fewer_left, more_fits}
use Rattle.kms_core.proofs.next.moving.has_tail_step.Goals as goal

pub returns-then-tail_moves : goal.returns-then-tail_moves
returns-then-tail_moves c =
    some_tail (seen c.stores.invariant (c.stores.view_is ∙ c.deref-stores.ensures ∙ c.core.view_is)).stands c.seeking.from c.in-Some.commit
    c.in-Some.ensures.machine
    (sym (tail_moved c.args.core.now c.in-Some.commit) ∙ sym c.tail_moves.ensures ∙ c.if-tail_moves.true)

pub overflow_add-from : goal.overflow_add-from
overflow_add-from c = more_fits c.stores.invariant.stands c.seeking.from
    c.in-Some.commit c.in-Some.ensures.machine

pub seeking-smaller : goal.seeking-smaller
seeking-smaller c = fewer_left c.stores.invariant.stands c.seeking.from
    c.in-Some.commit c.in-Some.ensures.machine

pub seeking-preserved : goal.seeking-preserved
seeking-preserved c =
    rests_further (seen c.stores.invariant (c.stores.view_is ∙ c.deref-stores.ensures ∙ c.core.view_is)).stands c.seeking.from
    c.in-Some.commit c.in-Some.ensures.machine
    (sym (tail_moved c.args.core.now c.in-Some.commit) ∙ sym c.tail_moves.ensures ∙ c.if-tail_moves.false) c.seeking.invariant

pub returns : goal.returns
returns c = no_tail_step (seen c.stores.invariant (c.stores.view_is ∙ c.deref-stores.ensures ∙ c.core.view_is)).stands c.seeking.from
    c.in_default.ensures.machine c.seeking.invariant

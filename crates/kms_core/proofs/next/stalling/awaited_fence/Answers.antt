use Rattle.std.proofs.Common.{sym, ◌∙◌}
use Rattle.kms_core.proofs.stores.Histories.{seen}
use Rattle.kms_core.proofs.stores.FirstTails.{tail_within}
use Rattle.kms_core.proofs.next.Stalls.{awaits_found, awaits_further, awaits_none}
use Rattle.kms_core.proofs.next.Onward.{fewer_left, more_fits}
use Rattle.kms_core.proofs.next.stalling.awaited_fence.Goals as goal

pub fence_awaited_by-requires : goal.fence_awaited_by-requires
fence_awaited_by-requires c = tail_within (seen c.stores.invariant (c.stores.view_is ∙ c.deref-stores.ensures ∙ c.core.view_is)).stands
    c.seeking.from c.in-Some.commit c.in-Some.ensures.machine

pub returns-in-Some-fence_awaited_by : goal.returns-in-Some-fence_awaited_by
returns-in-Some-fence_awaited_by c =
    awaits_found (seen c.stores.invariant (c.stores.view_is ∙ c.deref-stores.ensures ∙ c.core.view_is)).stands c.seeking.from
    c.in-Some.commit c.in-Some-fence_awaited_by.fence
    c.in-Some.ensures.machine (sym c.in-Some-fence_awaited_by.is ∙ c.fence_awaited_by.ensures) c.seeking.invariant

pub overflow_add-from : goal.overflow_add-from
overflow_add-from c = more_fits c.stores.invariant.stands c.seeking.from
    c.in-Some.commit c.in-Some.ensures.machine

pub seeking-smaller : goal.seeking-smaller
seeking-smaller c = fewer_left c.stores.invariant.stands c.seeking.from
    c.in-Some.commit c.in-Some.ensures.machine

pub seeking-preserved : goal.seeking-preserved
seeking-preserved c = awaits_further (seen c.stores.invariant (c.stores.view_is ∙ c.deref-stores.ensures ∙ c.core.view_is)).stands
    c.seeking.from c.in-Some.commit c.in-Some.ensures.machine
    (sym c.in_default-fence_awaited_by.is ∙ c.fence_awaited_by.ensures) c.seeking.invariant

pub returns : goal.returns
returns c = awaits_none (seen c.stores.invariant (c.stores.view_is ∙ c.deref-stores.ensures ∙ c.core.view_is)).stands c.seeking.from
    c.in_default.ensures.machine c.seeking.invariant

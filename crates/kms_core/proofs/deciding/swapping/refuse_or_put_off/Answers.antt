use Rattle.std.proofs.Common.{Some, None}
use Rattle.kms_core.proofs.stores.Histories.{seen}
use Rattle.kms_core.proofs.Lates.{few_events, indexed_queue, late_decides, swap_answers, swap_may}
use Rattle.kms_core.proofs.deciding.swapping.refuse_or_put_off.Goals as goal

pub late_reply-requires : goal.late_reply-requires
late_reply-requires c =
    few_events (seen c.stores.invariant c.stores.view_is).stands
    c.requires c.index-queue.ensures

pub decide-requires : goal.decide-requires
decide-requires c =
    late_decides (seen c.stores.invariant
    c.stores.view_is).stands c.requires (indexed_queue (seen
    c.stores.invariant c.stores.view_is).stands c.requires c.index-queue.ensures) c.in-Some.ensures

pub returns-in-Some-clause-answer : goal.returns-in-Some-clause-answer
returns-in-Some-clause-answer c =
    swap_answers None (seen c.stores.invariant
    c.stores.view_is).stands c.requires (indexed_queue (seen
    c.stores.invariant c.stores.view_is).stands c.requires c.index-queue.ensures) c.in-Some.ensures (λ none. absurd cc)

pub returns-in-Some-not_yet-clause-answer : goal.returns-in-Some-not_yet-clause-answer
returns-in-Some-not_yet-clause-answer c =
    swap_answers (Some
    (c.in-Some-not_yet.object, c.in-Some-not_yet.commit)) (seen c.stores.invariant c.stores.view_is).stands c.requires (indexed_queue
    (seen c.stores.invariant c.stores.view_is).stands c.requires
    c.index-queue.ensures) c.in_default.ensures (λ none. c.in-Some-not_yet.ensures)

pub returns-clause-answer : goal.returns-clause-answer
returns-clause-answer c =
    swap_answers None (seen c.stores.invariant
    c.stores.view_is).stands c.requires (indexed_queue (seen
    c.stores.invariant c.stores.view_is).stands c.requires c.index-queue.ensures) c.in_default.ensures (λ none.
    c.in_default-not_yet.ensures)

pub returns-clause-may : goal.returns-clause-may
returns-clause-may c =
    swap_may (seen c.stores.invariant c.stores.view_is).stands
    c.requires (indexed_queue (seen c.stores.invariant
    c.stores.view_is).stands c.requires c.index-queue.ensures) c.in_default.ensures c.in_default-not_yet.ensures

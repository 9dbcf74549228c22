use Rattle.std.proofs.Common.{◌∙◌, true, sym, ap}
use Rattle.kms_model.specs.Machine.Steps.{is_lockable}
use Rattle.kms_model.proofs.TouchedLemmas.{few_objects}
use Rattle.kms_core.specs.Decisions.{world}
use Rattle.kms_core.specs.Run.{Run, machine}
use Rattle.kms_core.specs.Insides.{run_in, stores_of}
use Rattle.kms_core.proofs.next.Presented.{presented, somewhere_ever, tells_ever}
use Rattle.kms_core.proofs.next.Taken.{lock_apart, lock_found, lockable_exists, lockable_of, no_lock, not_lockable, taker_number}
use Rattle.kms_core.proofs.next.judging.may_lock.Goals as goal

pub returns-in_default : goal.returns-in_default
returns-in_default c = no_lock c.args.core.now.script (machine c.args.core.now) c.args.client c.args.kind c.args.index c.in_default.ensures

pub returns-then-not-is_lockable : goal.returns-then-not-is_lockable
returns-then-not-is_lockable c =
    not_lockable c.args.core.now.script (machine c.args.core.now) c.args.client c.args.kind c.args.index
    (ap (λ (r : Run). is_lockable r.script.topology c.args.kind c.args.index) (sym
    (c.stores.view_is ∙ c.deref-stores.ensures ∙ c.core.view_is)) ∙ sym c.is_lockable.ensures ∙ c.if-not-is_lockable.true)

pub reach-reached-requires : goal.reach-reached-requires
reach-reached-requires c = somewhere_ever c.stores.invariant.stands

pub is_free_or_older-requires-clause-client : goal.is_free_or_older-requires-clause-client
is_free_or_older-requires-clause-client c =
    taker_number c.args.client
    c.stores.invariant.stands (c.stores.view_is ∙ c.deref-stores.ensures ∙ c.core.view_is) c.in-Some.ensures

pub is_free_or_older-requires-clause-lockable : goal.is_free_or_older-requires-clause-lockable
is_free_or_older-requires-clause-lockable c =
    lockable_of c.args.kind c.args.index c.of.result
    (few_objects c.stores.inside.script.topology c.stores.invariant.stands.formed.device) c.of.ensures
    (sym c.is_lockable.ensures ∙ c.if-not-is_lockable.false)

pub returns-then-is_member : goal.returns-then-is_member
returns-then-is_member c =
    let r = run_in c.stores.inside in
    let st = stores_of c.stores.inside in
    let on = sym c.is_lockable.ensures ∙ c.if-not-is_lockable.false in
    lock_found r c.args.core.now c.args.client c.args.kind c.args.index c.in-Some.request.now true c.is_free_or_older.result c.of.result
    (c.stores.view_is ∙ c.deref-stores.ensures ∙ c.core.view_is) c.in-Some.ensures on
    (sym c.if-is_member.true ∙ c.is_member.ensures
    ∙ c.reach-reached.ensures.each (world r) c.args.kind c.args.index (presented c.stores.invariant.stands)
    (tells_ever c.stores.invariant.stands) (lockable_exists r.script.topology c.args.kind c.args.index on))
    c.of.ensures (c.is_free_or_older.ensures (machine r) c.stores.invariant.stands.stores.clients)

pub returns-else-is_member : goal.returns-else-is_member
returns-else-is_member c =
    let r = run_in c.stores.inside in
    let st = stores_of c.stores.inside in
    let on = sym c.is_lockable.ensures ∙ c.if-not-is_lockable.false in
    lock_apart c.args.client c.args.kind c.args.index
    (c.stores.view_is ∙ c.deref-stores.ensures ∙ c.core.view_is) c.in-Some.ensures on
    (c.is_member.ensures
    ∙ c.reach-reached.ensures.each (world r) c.args.kind c.args.index (presented c.stores.invariant.stands)
    (tells_ever c.stores.invariant.stands) (lockable_exists r.script.topology c.args.kind c.args.index on))
    c.if-is_member.false

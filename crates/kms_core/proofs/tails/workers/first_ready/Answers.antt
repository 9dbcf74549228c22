use Rattle.std.proofs.Common.{arith, sym, ◌∙◌}
use Rattle.kms_core.proofs.stores.Seeking.{goes_up, less_left, none_found, one_found, one_passed}
use Rattle.kms_core.proofs.tails.workers.first_ready.Goals as goal

pub returns-then-ready : goal.returns-then-ready
returns-then-ready c = one_found c.in-Some.commit
    c.seeking.invariant c.in-Some.ensures.machine (sym c.ready.ensures ∙ c.if-ready.true)

pub overflow_add-from : goal.overflow_add-from
overflow_add-from c = let l = (goes_up c.seeking.from c.in-Some.commit c.requires c.in-Some.ensures.machine).fits in
    omega (arith, l)

pub seeking-smaller : goal.seeking-smaller
seeking-smaller c = less_left c.seeking.from c.in-Some.commit c.requires c.in-Some.ensures.machine

pub seeking-preserved : goal.seeking-preserved
seeking-preserved c = one_passed c.in-Some.commit
    c.seeking.invariant c.in-Some.ensures.machine (sym c.ready.ensures ∙ c.if-ready.false)

pub returns : goal.returns
returns c = none_found c.seeking.invariant
    c.in_default.ensures.machine

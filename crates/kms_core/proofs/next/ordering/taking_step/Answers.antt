use Rattle.std.proofs.Common.{false, refl, sym, true, ◌∙◌}
use Rattle.kms_core.specs.Run.{machine}
use Rattle.kms_core.proofs.next.JudgedRequests.{refuse_early, refuse_late, swap_late, test_late}
use Rattle.kms_core.proofs.next.ClientTurns.{lock_some, taking_told}
use Rattle.kms_core.proofs.next.ordering.taking_step.Goals as goal

pub returns-in_default : goal.returns-in_default
returns-in_default c =
    let v = c.args.core.now in
    let q = c.args.request.now in
    taking_told v c.args.client c.requires.going c.requires.taken _ _
    (refuse_early v.script (machine v) c.args.client q c.requires.taken c.in_default.ensures) refl refl

pub returns-then-is_refused : goal.returns-then-is_refused
returns-then-is_refused c =
    let v = c.args.core.now in
    let q = c.args.request.now in
    taking_told v c.args.client c.requires.going c.requires.taken _ _
    (sym c.if-is_refused.true ∙ c.is_refused.ensures ∙ refuse_late v.script (machine v) c.args.client q c.requires.taken c.in-Some.judged
    c.in-Some.ensures c.is_test-is_test.result c.is_test-is_test.ensures) refl refl

pub returns-then-is_accepted : goal.returns-then-is_accepted
returns-then-is_accepted c =
    let v = c.args.core.now in
    let q = c.args.request.now in
    taking_told v c.args.client c.requires.going c.requires.taken true _
    (sym c.if-is_refused.false ∙ c.is_refused.ensures ∙ refuse_late v.script (machine v) c.args.client q c.requires.taken c.in-Some.judged
    c.in-Some.ensures c.is_test-is_test.result c.is_test-is_test.ensures)
    (sym c.if-is_accepted.true ∙ c.is_accepted.ensures ∙ test_late v.script (machine v) c.args.client q c.requires.taken c.in-Some.judged
    c.in-Some.ensures c.is_test-is_test.result c.is_test-is_test.ensures) refl

pub returns-then-is_committed : goal.returns-then-is_committed
returns-then-is_committed c =
    let v = c.args.core.now in
    let q = c.args.request.now in
    taking_told v c.args.client c.requires.going c.requires.taken false true
    (sym c.if-is_refused.false ∙ c.is_refused.ensures ∙ refuse_late v.script (machine v) c.args.client q c.requires.taken c.in-Some.judged
    c.in-Some.ensures c.is_test-is_test.result c.is_test-is_test.ensures)
    (sym c.if-is_accepted.false ∙ c.is_accepted.ensures ∙ test_late v.script (machine v) c.args.client q c.requires.taken c.in-Some.judged
    c.in-Some.ensures c.is_test-is_test.result c.is_test-is_test.ensures)
    (sym c.if-is_committed.true ∙ c.is_committed.ensures ∙ swap_late v.script (machine v) c.args.client q c.requires.taken c.in-Some.judged
    c.in-Some.ensures c.is_test-is_test.result c.is_test-is_test.ensures)

pub returns-else-is_committed : goal.returns-else-is_committed
returns-else-is_committed c =
    let v = c.args.core.now in
    let q = c.args.request.now in
    c.lock_step.ensures ∙ lock_some v c.args.client c.requires.taken
    ∙ taking_told v c.args.client c.requires.going c.requires.taken false false
    (sym c.if-is_refused.false ∙ c.is_refused.ensures ∙ refuse_late v.script (machine v) c.args.client q c.requires.taken c.in-Some.judged
    c.in-Some.ensures c.is_test-is_test.result c.is_test-is_test.ensures)
    (sym c.if-is_accepted.false ∙ c.is_accepted.ensures ∙ test_late v.script (machine v) c.args.client q c.requires.taken c.in-Some.judged
    c.in-Some.ensures c.is_test-is_test.result c.is_test-is_test.ensures)
    (sym c.if-is_committed.false ∙ c.is_committed.ensures ∙ swap_late v.script (machine v) c.args.client q c.requires.taken c.in-Some.judged
    c.in-Some.ensures c.is_test-is_test.result c.is_test-is_test.ensures)

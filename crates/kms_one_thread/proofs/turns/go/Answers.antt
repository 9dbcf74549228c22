use Rattle.std.proofs.Common.{◌-◌, ◌+◌, sym, ◌∙◌, arith}
use Rattle.kms_one_thread.proofs.Going.{client_legal, going_answered, going_further, going_last, going_none}
use Rattle.kms_one_thread.proofs.turns.go.Goals as goal

pub returns-in_default-clause-gone : goal.returns-in_default-clause-gone
returns-in_default-clause-gone c = going_none c.args.core.now c.loop-done.core c.args.client _ c.loop-done.invariant c.in_default.ensures

pub apply-requires : goal.apply-requires
apply-requires c = client_legal c.loop-done.core c.args.client c.in-Some.step c.is_a_history.ensures.formed c.is_a_history.ensures.history
    c.in-Some.ensures

pub returns-then-is_answering-clause-gone : goal.returns-then-is_answering-clause-gone
returns-then-is_answering-clause-gone c =
    let more = c.loop-done-test.true in
    let most = c.most_of_turn-done-end.result in
    going_answered c.args.core.now c.loop-done.core c.apply.new.self c.args.client (most - c.loop-done._done)
    (most - (c.loop-done._done + 1)) c.in-Some.step c.loop-done.invariant (omega (arith, more)) c.in-Some.ensures
    c.in_ok-apply.ensures.history (sym c.is_answering.ensures ∙ c.if-is_answering.true)

pub loop-done-preserved : goal.loop-done-preserved
loop-done-preserved c =
    let more = c.loop-done-test.true in
    let most = c.most_of_turn-done-end.result in
    going_further c.args.core.now c.loop-done.core c.apply.new.self c.args.client (most - c.loop-done._done)
    (most - (c.loop-done._done + 1)) c.in-Some.step c.loop-done.invariant (omega (arith, more)) c.in-Some.ensures
    c.in_ok-apply.ensures.history (sym c.is_answering.ensures ∙ c.if-is_answering.false)

pub returns-clause-gone : goal.returns-clause-gone
returns-clause-gone c =
    let over = c.loop-done-test.false in
    going_last c.args.core.now c.loop-done.core c.args.client (c.most_of_turn-done-end.result - c.loop-done._done) (omega (arith, over))
    c.loop-done.invariant

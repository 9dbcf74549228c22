use Rattle.std.proofs.Common.{◌-◌, ◌+◌, length, not, sym, ap, ◌∙◌, arith}
use Rattle.std.specs.Prelude.{◌==◌}
use Rattle.std.proofs.lemmas.Bool.{not-false, not-true}
use Rattle.kms_one_thread.proofs.Rounding.{moved_is, round_less, round_still, turning_last, turning_next}
use Rattle.kms_one_thread.proofs.rounds.round.Goals as goal

pub loop-client-preserved : goal.loop-client-preserved
loop-client-preserved c =
    let more = c.loop-client-test.true in
    let count = c.len-client-end.result in
    turning_next c.args.core.now c.loop-client.core c.turn.new.core c.loop-client.client (count - c.loop-client.client)
    (count - (c.loop-client.client + 1)) (omega (arith, more)) c.loop-client.invariant c.in_ok-turn.ensures.on c.in_ok-turn.ensures.turn

pub returns-clause-round : goal.returns-clause-round
returns-clause-round c =
    let over = c.loop-client-test.false in
    turning_last c.args.core.now c.loop-client.core c.settle.new.core c.loop-client.client (c.len-client-end.result - c.loop-client.client)
    (omega (arith, over)) c.loop-client.invariant c.settle.ensures.settled

pub returns-clause-moved : goal.returns-clause-moved
returns-clause-moved c =
    (λ i. not (length (c.history.ensures i) == length (c.history-before.ensures i)))
    ∙ sym (ap not (moved_is c.args.core.now c.settle.new.core (returns-clause-round c)))

pub returns-clause-less : goal.returns-clause-less
returns-clause-less c = λ moved.
    let now = sym (returns-clause-moved c) ∙ moved in
    round_less c.args.core.now c.settle.new.core c.is_a_history.ensures.formed c.is_a_history.ensures.history
    (c.settle.ensures.on.script ∙ c.loop-client.invariant.on.script) (returns-clause-round c) (not-true _ now)

pub returns-clause-stays : goal.returns-clause-stays
returns-clause-stays c = λ moved.
    let now = sym (returns-clause-moved c) ∙ moved in
    round_still c.args.core.now c.settle.new.core c.is_a_history.ensures.formed c.is_a_history.ensures.history
    (c.settle.ensures.on.script ∙ c.loop-client.invariant.on.script) (returns-clause-round c) (not-false _ now)

use Rattle.std.proofs.Common.{◌+◌, sym, ap, subst}
use Rattle.kms_one_thread.specs.Replays.{StopsAt}
use Rattle.kms_one_thread.proofs.Replayed.{all_legal, replaying_next, stops_at}
use Rattle.kms_one_thread.proofs.replaying.replay.Goals as goal

pub returns-then-not-legal-clause-stops : goal.returns-then-not-legal-clause-stops
returns-then-not-legal-clause-stops c =
    let loop = c.loop-step in
    subst (λ at. StopsAt c.args.core.now c.args.steps.now loop.core (at + 1)) (sym loop.invariant.counted)
    (stops_at c.args.core.now loop.core c.args.steps.now loop.step-index _ loop.invariant.replaying c.loop-step-test.true
    (sym c.if-not-legal.ensures))

pub loop-step-preserved : goal.loop-step-preserved
loop-step-preserved c =
    let loop = c.loop-step in
    record {
      counted = ap (λ n. n + 1) loop.invariant.counted;
      replaying = replaying_next c.args.core.now loop.core c.args.steps.now loop.step-index _ loop.invariant.replaying c.loop-step-test.true
          c.apply.new.self (sym c.if-not-legal.ensures) c.in_ok-apply.ensures.history;
    }

pub returns-clause-legal : goal.returns-clause-legal
returns-clause-legal c = all_legal c.args.core.now c.loop-step.core c.args.steps.now c.loop-step.step-index c.loop-step.invariant.replaying
    c.loop-step-test.false

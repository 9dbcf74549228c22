use Rattle.std.proofs.Common.{◌∙◌, arith}
use Rattle.kms_check.proofs.ApplyingLemmas.{sets-more, sets-all, ready-later}
use Rattle.kms_check.proofs.PlaneRanges.{ready-in_range}
use Rattle.kms_check.proofs.applying.apply.Goals as goal

pub set-requires-clause-object : goal.set-requires-clause-object
set-requires-clause-object c = ready-later c.args.states.now c.loop-one.states c.args.sets.now c.loop-one.one-index _ c.loop-one-test.true
    c.requires c.loop-one.invariant.old

pub loop-one-preserved : goal.loop-one-preserved
loop-one-preserved c = record {
  new = sets-more c.args.states.now c.loop-one.states _ c.args.sets.now c.loop-one.one-index _ c.loop-one-test.true c.set.ensures.new
      c.loop-one.invariant.new;
  old = c.set.ensures.old ∙ c.loop-one.invariant.old;
  in_range = λ n before. ready-in_range n c.args.states.now c.loop-one.states _ c.args.sets.now c.loop-one.one-index _ c.set.ensures.new
      c.loop-one-test.true c.requires c.set.ensures.states (c.loop-one.invariant.in_range n before);
}

pub returns-clause-new : goal.returns-clause-new
returns-clause-new c = sets-all c.args.states.now c.loop-one.states c.args.sets.now c.loop-one.one-index (omega arith)
    c.loop-one.invariant.new

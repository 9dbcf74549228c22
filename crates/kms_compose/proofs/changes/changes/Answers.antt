use Rattle.std.proofs.Common.{arith, rules}
use Rattle.kms_compose.proofs.Differing.{came_more, left_more, rests_listed, same_more}
use Rattle.kms_compose.proofs.changes.changes.Goals as goal

pub loop-left-preserved-then-is_same_layer : goal.loop-left-preserved-then-is_same_layer
loop-left-preserved-then-is_same_layer c = record {
  apart = same_more c.args.old.now c.args.new.now c.loop-left.changed.items c.loop-left.left c.loop-left.came c.loop-left.invariant.apart _
      (omega (arith, c.loop-left-test.true)) (omega (arith, c.if-came-new.true)) (c.is_same_layer.ensures.0 (search rules));
  left_in = omega (arith, c.loop-left-test.true);
  came_in = omega (arith, c.if-came-new.true);
}

pub loop-left-preserved-then-is_one_of : goal.loop-left-preserved-then-is_one_of
loop-left-preserved-then-is_one_of c = record {
  apart = came_more c.args.old.now c.args.new.now c.loop-left.changed.items c.loop-left.left c.loop-left.came c.loop-left.invariant.apart
      c.list.new.listed.items _
      (omega (arith, c.if-came-new.true)) c.in_ok-list.ensures;
  left_in = c.loop-left.invariant.left_in;
  came_in = omega (arith, c.if-came-new.true);
}

pub loop-left-preserved : goal.loop-left-preserved
loop-left-preserved c = record {
  apart = left_more c.args.old.now c.args.new.now c.loop-left.changed.items c.loop-left.left c.loop-left.came c.loop-left.invariant.apart
      c.list-else-is_one_of.new.listed.items _
      (omega (arith, c.loop-left-test.true)) c.in_ok-list-2.ensures;
  left_in = omega (arith, c.loop-left-test.true);
  came_in = c.loop-left.invariant.came_in;
}

pub returns : goal.returns
returns c = rests_listed c.args.old.now c.args.new.now c.loop-left.changed.items c.loop-left.left c.loop-left.came
    c.loop-left.invariant.apart c.list_all.new.listed.items c.list_all-2.new.listed.items
    (search rules) (search rules)

use Rattle.std.proofs.Common.{◌∙◌, sym, drop, arith}
use Rattle.kms_request.proofs.LastSets.{marks_at_end, marks_before, sets_again, sets_at_end, sets_new}
use Rattle.kms_request.proofs.sets.last_sets.Goals as goal

pub loop-left-init : goal.loop-left-init
loop-left-init g c = record {
  within = omega arith;
  sets = sets_at_end (g.L.Looker.meaning c.args.found.now) c.args.assigns.now c.in_ok-sets.ensures.items;
  marks = marks_at_end c.args.assigns.now c.no_marks-marks.result c.no_marks-marks.ensures;
}

pub loop-left-preserved : goal.loop-left-preserved
loop-left-preserved g c = record {
  within = omega (arith, c.loop-left-test.true, c.loop-left.invariant.within);
  sets = sets_again (g.L.Looker.meaning c.args.found.now) c.args.assigns.now c.loop-left.left _ c.loop-left.sets.items c.loop-left-test.true
      c.loop-left.invariant.within (sym c.if-mark.false ∙ c.mark.ensures.new (drop c.loop-left.left c.args.assigns.now)
      c.loop-left.invariant.marks) c.loop-left.invariant.sets;
  marks = marks_before c.args.assigns.now c.loop-left.left _ c.mark.new.marks c.loop-left-test.true c.loop-left.invariant.within
      (c.mark.ensures.marked (drop c.loop-left.left c.args.assigns.now) c.loop-left.invariant.marks);
}

pub loop-left-preserved-in-Continue-branch-2 : goal.loop-left-preserved-in-Continue-branch-2
loop-left-preserved-in-Continue-branch-2 g c = record {
  within = omega (arith, c.loop-left-test.true, c.loop-left.invariant.within);
  sets = rw (c.in_ok-push.ensures.items, c.set_of.ensures.set)
      (sets_new (g.L.Looker.meaning c.args.found.now) c.args.assigns.now c.loop-left.left _ c.loop-left.sets.items c.loop-left-test.true
      c.loop-left.invariant.within (sym c.if-mark.true ∙ c.mark.ensures.new (drop c.loop-left.left c.args.assigns.now)
      c.loop-left.invariant.marks) c.loop-left.invariant.sets);
  marks = marks_before c.args.assigns.now c.loop-left.left _ c.mark.new.marks c.loop-left-test.true c.loop-left.invariant.within
      (c.mark.ensures.marked (drop c.loop-left.left c.args.assigns.now) c.loop-left.invariant.marks);
}

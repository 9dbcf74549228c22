use Rattle.std.proofs.Common.{arith}
use Rattle.kms_audit.proofs.Borders.{border-here, border-none, border-step, client-more}
use Rattle.kms_audit.proofs.boundaries.boundary_off.Goals as goal

pub returns-then-not-may_follow : goal.returns-then-not-may_follow
returns-then-not-may_follow c = λ r are.
    border-here r c.args.replies.now c.loop-place.place c.loop-place.before
    (c.loop-place.invariant.rest r are) _ c.may_follow.result (omega arith)
    c.loop-place.invariant.before (c.may_follow.ensures r are) c.if-not-may_follow.true

pub loop-place-preserved : goal.loop-place-preserved
loop-place-preserved c = record {
  rest = λ r are.
      border-step r c.args.replies.now c.loop-place.place c.loop-place.before
      (c.loop-place.invariant.rest r are) _ c.may_follow.result (omega arith)
      c.loop-place.invariant.before (c.may_follow.ensures r are) c.if-not-may_follow.false;
  before = client-more c.args.replies.now c.loop-place.place _ (omega arith);
}

pub returns : goal.returns
returns c = λ r are. border-none r c.args.replies.now c.loop-place.place c.loop-place.before
    (c.loop-place.invariant.rest r are) (omega arith)

use Rattle.std.proofs.Common.{sym}
use Rattle.kms_request.proofs.FenceLemmas.{lists_none, lists_some}
use Rattle.kms_request.proofs.fences.listed.Goals as goal

pub loop-index-preserved : goal.loop-index-preserved
loop-index-preserved c =
    rw (c.in_ok-push.ensures.ok, c.of.ensures) (lists_some c.args.kind c.loop-index.index c.args.numbers.now c.loop-index.all
    c.in-Some.number (sym c.in-Some.is) c.loop-index.invariant)

pub loop-index-preserved-in_default : goal.loop-index-preserved-in_default
loop-index-preserved-in_default c = lists_none c.args.kind c.loop-index.index c.args.numbers.now c.loop-index.all (sym c.in_default.is)
    c.loop-index.invariant

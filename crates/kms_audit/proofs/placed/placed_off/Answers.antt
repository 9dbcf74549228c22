use Rattle.std.proofs.Common.{arith}
use Rattle.kms_audit.proofs.Placing.{placed-here, placed-none, placed-step}
use Rattle.kms_audit.proofs.placed.placed_off.Goals as goal

pub returns-then-not-is_placed : goal.returns-then-not-is_placed
returns-then-not-is_placed c =
    placed-here c.args.crtcs c.args.lines.now c.loop-place.place c.loop-place.before.crtc c.loop-place.before.counts
    c.loop-place.invariant _ c.is_placed.result
    (omega arith) (omega arith) c.is_placed.ensures c.if-not-is_placed.true

pub loop-place-preserved : goal.loop-place-preserved
loop-place-preserved c =
    placed-step c.args.crtcs c.args.lines.now c.loop-place.place c.loop-place.before.crtc c.loop-place.before.counts
    c.loop-place.invariant _ c.is_placed.result
    (omega arith) (omega arith) c.is_placed.ensures c.if-not-is_placed.false c.behind-before.result.crtc c.behind-before.ensures.crtc
    c.behind-before.result.counts c.behind-before.ensures.counts

pub returns : goal.returns
returns c = placed-none c.args.crtcs c.args.lines.now c.loop-place.place c.loop-place.before.crtc c.loop-place.before.counts
    c.loop-place.invariant (omega arith)

use Rattle.std.proofs.Common.{sym, arith}
use Rattle.kms_core.proofs.freeing.PutIds.{live_found, live_none, live_on}
use Rattle.kms_core.proofs.freeing.freed.live_names.Goals as goal

pub returns-then-shows : goal.returns-then-shows
returns-then-shows c = λ t d count stands. sym
    (live_found t d c.args.id c.loop-crtc.crtc (let l = c.loop-crtc-test.true in omega (arith, l, count))
    (sym (c.if-shows.ensures t d stands)))

pub loop-crtc-preserved : goal.loop-crtc-preserved
loop-crtc-preserved c = λ t d count stands. live_on t d c.args.id c.loop-crtc.crtc (c.loop-crtc.invariant t d count stands)
    (sym (c.if-shows.ensures t d stands))

pub returns : goal.returns
returns c = λ t d count stands. sym (live_none t d c.args.id
    (λ i low. c.loop-crtc.invariant t d count stands i (let past = c.loop-crtc-test.false in omega (arith, low, count, past))))

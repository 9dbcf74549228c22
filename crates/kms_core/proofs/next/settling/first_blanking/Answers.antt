use Rattle.std.proofs.Common.{◌∙◌, ap, arith, sym}
use Rattle.kms_core.specs.Run.{Run}
use Rattle.kms_core.proofs.next.TailTurns.{no_blanking, one_blanking}
use Rattle.kms_core.proofs.next.settling.first_blanking.Goals as goal

pub returns-then-has_go : goal.returns-then-has_go
returns-then-has_go c =
    let low = c.loop-index-test.true in
    let size = ap (λ (w : Run). w.script.topology.crtcs) (c.stores.view_is ∙ c.deref-stores.ensures ∙ c.core.view_is) in
    one_blanking c.args.core.now c.loop-index.index (omega (arith, low, size)) (sym c.has_go.ensures ∙ c.if-has_go.true)
    c.loop-index.invariant

pub returns : goal.returns
returns c =
    let over = c.loop-index-test.false in
    let size = ap (λ (w : Run). w.script.topology.crtcs) (c.stores.view_is ∙ c.deref-stores.ensures ∙ c.core.view_is) in
    no_blanking c.args.core.now (λ index within. c.loop-index.invariant index (omega (arith, within, over, size)))

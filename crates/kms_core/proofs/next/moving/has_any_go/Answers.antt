use Rattle.std.proofs.Common.{◌∙◌, ap, arith, sym}
use Rattle.kms_core.specs.Run.{Run}
use Rattle.kms_core.proofs.next.Movers.{no_go, some_go}
use Rattle.kms_core.proofs.next.moving.has_any_go.Goals as goal

pub returns-then-has_go : goal.returns-then-has_go
returns-then-has_go c =
    let low = c.loop-crtc-test.true in
    let size = ap (λ (w : Run). w.script.topology.crtcs) (c.stores.view_is ∙ c.deref-stores.ensures ∙ c.core.view_is) in
    some_go c.args.core.now c.loop-crtc.crtc (omega (arith, low, size)) (sym c.has_go.ensures ∙ c.if-has_go.true)

pub returns : goal.returns
returns c =
    let over = c.loop-crtc-test.false in
    let size = ap (λ (w : Run). w.script.topology.crtcs) (c.stores.view_is ∙ c.deref-stores.ensures ∙ c.core.view_is) in
    no_go c.args.core.now (λ index within. c.loop-crtc.invariant index (omega (arith, within, over, size)))

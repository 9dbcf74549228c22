use Rattle.std.proofs.Common.{rules, sym, subst, ap, ◌∙◌}
use Rattle.std.specs.Fn.{FnOnceReturnsAtMut}
use Rattle.kms_device.specs.Kernels.{AddsPlain}
use Rattle.kms_device.proofs.Turning.{entries, finds_of, fixed}
use Rattle.kms_device.proofs.device.Device.turn.Goals as goal

pub with-requires-clause-callable : goal.with-requires-clause-callable
with-requires-clause-callable g c = λ x finds.
    let finds2 = finds_of c.args.self.now.script _ c.args.pass.now x (sym c.self.invariant ∙ ap (λ d. d.script) c.self.view_is) finds in
    λ p same lives at number held count lifetimes outlive. (
      λ q shown. c.requires.callable x finds2 q (shown ∙ same),
      λ left r called. (let at_x = subst (λ z. FnOnceReturnsAtMut g.F.FnOnce c.args.call z r left) same called
          in subst (λ z. AddsPlain z left) (sym same) (c.requires.steps x left r finds2 at_x).adds),
    )

pub with-requires-clause-goes_on : goal.with-requires-clause-goes_on
with-requires-clause-goes_on g c = λ x y r finds called.
    let finds2 = finds_of c.args.self.now.script _ c.args.pass.now x (sym c.self.invariant ∙ ap (λ d. d.script) c.self.view_is) finds in
    let inner : FnOnceReturnsAtMut g.F.FnOnce c.args.call x r y = search rules in
    let of = c.requires.steps x y r finds2 inner in
    record { longer = (of.adds.steps, ap entries of.adds.now, of.owners); same = ap fixed of.adds.now }

pub returns : goal.returns
returns g c =
    let t = c.with.ensures.turn in
    let inner : FnOnceReturnsAtMut g.F.FnOnce c.args.call t.found c.with.result t.left = (let called = t.called in search rules) in
    record {
      found = t.found;
      left = t.left;
      finds = finds_of c.args.self.now.script _ c.args.pass.now t.found (sym c.self.invariant ∙ ap (λ d. d.script) c.self.view_is) t.finds;
      called = inner;
      now = t.now;
      is_open = t.sound_left;
    }

use Rattle.std.proofs.Common.{◌∙◌, Some, ap, sym, refl}
use Rattle.kms_core.proofs.stores.FreedIds.{entry_is, entry_some, entry_told}
use Rattle.kms_core.proofs.freeing.freed.freed_label.Goals as goal

pub returns-then-is_open-clause-label : goal.returns-then-is_open-clause-label
returns-then-is_open-clause-label c = λ t m tell.
    sym (entry_told t m _ tell.world.things
    (entry_some c.args.things.now.things c.args.id c.in_ok-label.label c.in_ok-label.is_open
    (sym c.in_ok-label.was ∙ c.framebuffer.ensures)) refl
    ∙ rw c.if-is_open.true refl)

pub returns-then-is_named-clause-label : goal.returns-then-is_named-clause-label
returns-then-is_named-clause-label c = λ t m tell.
    sym (entry_told t m c.is_named.result tell.world.things
    (entry_some c.args.things.now.things c.args.id c.in_ok-label.label c.in_ok-label.is_open
    (sym c.in_ok-label.was ∙ c.framebuffer.ensures)) (c.is_named.ensures t m c.args.things.now tell)
    ∙ rw (c.if-is_open.false, c.if-is_named.true) refl)

pub returns : goal.returns
returns c = record {
  label = λ t m tell.
      sym (entry_told t m c.is_named.result tell.world.things
      (entry_some c.args.things.now.things c.args.id c.in_ok-label.label c.in_ok-label.is_open
      (sym c.in_ok-label.was ∙ c.framebuffer.ensures)) (c.is_named.ensures t m c.args.things.now tell)
      ∙ rw (c.if-is_open.false, c.if-is_named.false) refl);
  closed = sym (sym c.in_ok-label.was ∙ c.framebuffer.ensures) ∙ ap (λ b. Some (c.in_ok-label.label, b)) c.if-is_open.false;
  there = entry_is
      (entry_some c.args.things.now.things c.args.id c.in_ok-label.label c.in_ok-label.is_open
      (sym c.in_ok-label.was ∙ c.framebuffer.ensures));
}

use Rattle.std.proofs.Common.{◌∙◌, inl, inr, ◌+◌, ◌-◌, ◌≡◌, arith, ap, false, length, subst, sym, ℕ}
use Rattle.std.specs.List.{list_any}
use Rattle.std.proofs.lemmas.Bool.{cases_lt}
use Rattle.kms_model.specs.Machine.Histories.{steps_of_client}
use Rattle.kms_core.specs.Run.{Run}
use Rattle.kms_core.proofs.next.Movers.{able, client_moved, no_client_step, some_client}
use Rattle.kms_core.proofs.next.moving.has_client_step.Goals as goal

pub returns-then-client_moves : goal.returns-then-client_moves
returns-then-client_moves c =
    let low = c.loop-client-test.true in
    let size = c.len-client-end.ensures ∙ ap (λ (w : Run). length w.script.clients)
    (c.stores.view_is ∙ c.deref-stores.ensures ∙ c.core.view_is) in
    some_client c.args.core.now (c.loop-client.client + 1) (omega arith) (omega (arith, low, size))
    (sym (client_moved c.args.core.now (c.loop-client.client + 1)) ∙ sym c.client_moves.ensures ∙ c.if-client_moves.true)

pub loop-client-preserved : goal.loop-client-preserved
loop-client-preserved c = λ n low.
    elim (cases_lt n c.loop-client.client) [
      | inl before ↦ c.loop-client.invariant n before
      | inr behind ↦ (let same : c.loop-client.client ≡ n = omega (arith, low, behind) in
          subst (λ (j : ℕ). list_any (able c.args.core.now) (steps_of_client c.args.core.now.script.topology (j + 1)) ≡ false) same
          (sym (client_moved c.args.core.now (c.loop-client.client + 1)) ∙ sym c.client_moves.ensures ∙ c.if-client_moves.false))
    ]

pub returns : goal.returns
returns c =
    let over = c.loop-client-test.false in
    let size = c.len-client-end.ensures ∙ ap (λ (w : Run). length w.script.clients)
    (c.stores.view_is ∙ c.deref-stores.ensures ∙ c.core.view_is) in
    no_client_step c.args.core.now
    (λ j low high.
    (let back : j - 1 + 1 ≡ j = omega (arith, low) in
    subst (λ (n : ℕ). list_any (able c.args.core.now) (steps_of_client c.args.core.now.script.topology n) ≡ false) back
    (c.loop-client.invariant (j - 1) (omega (arith, low, high, over, size)))))

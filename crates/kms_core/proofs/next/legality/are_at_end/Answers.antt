use Rattle.std.proofs.Common.{◌∙◌, ◌+◌, ◌-◌, ◌≡◌, arith, sym, ap, length, subst, ℕ, true}
use Rattle.kms_model.specs.declared.scripts.Script.{Script}
use Rattle.kms_model.specs.Machine.Histories.{is_at_end}
use Rattle.kms_core.specs.Run.{machine}
use Rattle.kms_core.proofs.stores.Ranges.{all_pass, one_fails}
use Rattle.kms_core.proofs.next.legality.are_at_end.Goals as goal

pub returns-then-not-is_at_end : goal.returns-then-not-is_at_end
returns-then-not-is_at_end c =
    let low = c.loop-client-test.true in
    let size = c.len-client-end.ensures ∙ ap (λ (s : Script). length s.clients) c.script.ensures in
    sym
    (one_fails (is_at_end c.args.core.now.script (machine c.args.core.now)) 1 (length c.args.core.now.script.clients)
    (c.loop-client.client + 1) (omega arith) (omega (arith, low, size))
    (sym c.is_at_end.ensures ∙ c.if-not-is_at_end.true))

pub returns : goal.returns
returns c =
    let over = c.loop-client-test.false in
    let size = c.len-client-end.ensures ∙ ap (λ (s : Script). length s.clients) c.script.ensures in
    sym
    (all_pass (is_at_end c.args.core.now.script (machine c.args.core.now)) 1 (length c.args.core.now.script.clients)
    (λ j low high.
    (let back : j - 1 + 1 ≡ j = omega (arith, low) in
    subst (λ (n : ℕ). is_at_end c.args.core.now.script (machine c.args.core.now) n ≡ true) back
    (c.loop-client.invariant (j - 1) (omega (arith, low, high, over, size))))))

pub overflow_cast-client-end : goal.overflow_cast-client-end
overflow_cast-client-end c =
    let few = c.is_a_history.ensures.formed.few in
    let size = c.len-client-end.ensures ∙ ap (λ (s : Script). length s.clients) c.script.ensures in
    omega (arith, few, size)

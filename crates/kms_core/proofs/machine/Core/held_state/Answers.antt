use Rattle.std.proofs.Common.{◌≡◌, true, Some, ap, sym, rules, ◌∙◌}
use Rattle.kms_core.specs.Insides.{run_in}
use Rattle.kms_core.specs.Run.{Run, machine}
use Rattle.kms_core.specs.Locks.{has_lock, held_state}
use Rattle.kms_core.proofs.calls.HeldStates.{held_is}
use Rattle.kms_core.proofs.machine.Core.held_state.Goals as goal

pub returns : goal.returns
returns c =
    let r = run_in c.stores.inside in
    let lock : has_lock r.script.topology c.args.id.0 ≡ true = search rules in
    let holder : c.holder.result ≡ Some c.args.client = search rules in
    c.present_state.ensures
    ∙ held_is c.args.client c.args.id c.stores.invariant.stands lock
    (sym (c.holder.ensures.holder (machine r) c.stores.invariant.stands.stores.clients) ∙ holder)
    ∙ ap (λ (w : Run). held_state w c.args.client c.args.id) (c.stores.view_is ∙ c.deref-stores.ensures ∙ c.self.view_is)

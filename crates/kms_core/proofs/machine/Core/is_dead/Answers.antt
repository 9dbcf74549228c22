use Rattle.std.proofs.Common.{◌∙◌, ap, refl, sym}
use Rattle.std.specs.Prelude.{◌&&◌, ◌||◌, not}
use Rattle.kms_model.specs.Machine.Histories.{is_drained, is_enabled}
use Rattle.kms_core.specs.Run.{machine}
use Rattle.kms_core.proofs.stores.Histories.{seen}
use Rattle.kms_core.proofs.next.Legals.{dead_told, ended_told}
use Rattle.kms_core.proofs.machine.Core.is_dead.Goals as goal

pub returns-then-stores : goal.returns-then-stores
returns-then-stores c =
    c.if-stores.true ∙ ap (λ x. x ||
    (not (is_drained c.args.self.now.script (machine c.args.self.now)) && not
    (is_enabled c.args.self.now.script (machine c.args.self.now)))) (sym c.if-stores.true)
    ∙ dead_told c.args.self.now (is_drained c.args.self.now.script (machine c.args.self.now))
    (is_enabled c.args.self.now.script (machine c.args.self.now))
    (ended_told (seen c.stores.invariant (c.stores.view_is ∙ c.deref-stores.ensures ∙ c.self.view_is)).stands) refl refl

pub returns-then-not-drained : goal.returns-then-not-drained
returns-then-not-drained c =
    ap (λ x. not x && not c.enabled.result) (sym c.if-not-drained.true)
    ∙ ap (λ x. x || (not c.drained.result && not c.enabled.result)) (sym c.if-stores.false)
    ∙ dead_told c.args.self.now c.drained.result c.enabled.result
    (ended_told (seen c.stores.invariant (c.stores.view_is ∙ c.deref-stores.ensures ∙ c.self.view_is)).stands) c.drained.ensures
    c.enabled.ensures

pub returns-else-not-drained : goal.returns-else-not-drained
returns-else-not-drained c =
    ap not c.if-not-drained.false ∙ ap (λ x. not x && not (is_enabled c.args.self.now.script (machine c.args.self.now)))
    (sym c.if-not-drained.false)
    ∙ ap (λ x. x || (not c.drained.result && not (is_enabled c.args.self.now.script (machine c.args.self.now)))) (sym c.if-stores.false)
    ∙ dead_told c.args.self.now c.drained.result (is_enabled c.args.self.now.script (machine c.args.self.now))
    (ended_told (seen c.stores.invariant (c.stores.view_is ∙ c.deref-stores.ensures ∙ c.self.view_is)).stands) c.drained.ensures refl

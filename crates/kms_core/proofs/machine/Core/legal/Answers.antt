use Rattle.std.proofs.Common.{◌∙◌, ap, refl, sym}
use Rattle.std.specs.Prelude.{◌&&◌, not}
use Rattle.kms_model.specs.Machine.Histories.{is_dead}
use Rattle.kms_model.specs.Machine.Steps.{may}
use Rattle.kms_core.specs.Run.{machine}
use Rattle.kms_core.proofs.stores.Histories.{seen}
use Rattle.kms_core.proofs.next.Legals.{ended_told, legal_told, stall_told}
use Rattle.kms_core.proofs.machine.Core.legal.Goals as goal

pub returns-then-not-stores : goal.returns-then-not-stores
returns-then-not-stores c = ap (λ x. not x && c.is_dead.result) (sym c.if-not-stores.true)
    ∙ stall_told c.args.self.now c.is_dead.result c.in-Stall.is
    (ended_told (seen c.stores.invariant (c.stores.view_is ∙ c.deref-stores.ensures ∙ c.self.view_is)).stands) c.is_dead.ensures

pub returns-else-not-stores : goal.returns-else-not-stores
returns-else-not-stores c =
    ap not c.if-not-stores.false ∙ ap (λ x. not x && is_dead c.args.self.now.script (machine c.args.self.now)) (sym c.if-not-stores.false)
    ∙ stall_told c.args.self.now
    (is_dead c.args.self.now.script (machine c.args.self.now)) c.in-Stall.is
    (ended_told (seen c.stores.invariant (c.stores.view_is ∙ c.deref-stores.ensures ∙ c.self.view_is)).stands) refl

pub returns-then-not-stores-2 : goal.returns-then-not-stores-2
returns-then-not-stores-2 c = ap (λ x. not x && c.may.result) (sym c.if-not-stores-2.true)
    ∙ legal_told c.args.self.now c.args.step.now c.stores.inside.stalled c.may.result c.in_default.not-Stall
    (ended_told (seen c.stores.invariant (c.stores.view_is ∙ c.deref-stores.ensures ∙ c.self.view_is)).stands) c.may.ensures

pub returns-else-not-stores-2 : goal.returns-else-not-stores-2
returns-else-not-stores-2 c =
    ap not c.if-not-stores-2.false ∙ ap (λ x. not x && may c.args.self.now.script (machine c.args.self.now) c.args.step.now)
    (sym c.if-not-stores-2.false)
    ∙ legal_told c.args.self.now c.args.step.now c.stores.inside.stalled
    (may c.args.self.now.script (machine c.args.self.now) c.args.step.now) c.in_default.not-Stall
    (ended_told (seen c.stores.invariant (c.stores.view_is ∙ c.deref-stores.ensures ∙ c.self.view_is)).stands) refl

use Rattle.std.proofs.Common.{◌∙◌, ap, refl, sym}
use Rattle.std.specs.Prelude.{◌&&◌, not}
use Rattle.kms_core.specs.Next.{moves}
use Rattle.kms_core.specs.Run.{machine}
use Rattle.kms_core.proofs.stores.Histories.{seen}
use Rattle.kms_core.proofs.next.Legals.{enabled_told, ended_told}
use Rattle.kms_core.proofs.machine.Core.enabled.Goals as goal

pub returns-then-not-stores : goal.returns-then-not-stores
returns-then-not-stores c = ap (λ x. not x && c.can_move.result) (sym c.if-not-stores.true)
    ∙ enabled_told c.args.self.now c.stores.inside.stalled c.can_move.result
    (ended_told (seen c.stores.invariant (c.stores.view_is ∙ c.deref-stores.ensures ∙ c.self.view_is)).stands)
    c.can_move.ensures

pub returns-else-not-stores : goal.returns-else-not-stores
returns-else-not-stores c =
    ap not c.if-not-stores.false ∙ ap (λ x. not x && moves c.args.self.now.script (machine c.args.self.now))
    (sym c.if-not-stores.false)
    ∙ enabled_told c.args.self.now c.stores.inside.stalled
    (moves c.args.self.now.script (machine c.args.self.now))
    (ended_told (seen c.stores.invariant (c.stores.view_is ∙ c.deref-stores.ensures ∙ c.self.view_is)).stands)
    refl

use Rattle.std.proofs.Common.{◌∙◌, sym}
use Rattle.kms_core.proofs.stores.Histories.{seen}
use Rattle.kms_core.proofs.next.Drains.{cleaned_told, drained_both, drained_not}
use Rattle.kms_core.proofs.machine.Core.drained.Goals as goal

pub returns-then-are_at_end : goal.returns-then-are_at_end
returns-then-are_at_end c =
    drained_both c.args.self.now (sym c.are_at_end.ensures ∙ c.if-are_at_end.true)
    (cleaned_told c.first_from.result c.is_none.result (seen c.stores.invariant (c.stores.view_is ∙ c.deref-stores.ensures ∙
    c.self.view_is)).stands c.first_from.ensures.machine c.is_none.ensures)

pub returns-else-are_at_end : goal.returns-else-are_at_end
returns-else-are_at_end c = c.if-are_at_end.false ∙ drained_not c.args.self.now (sym c.are_at_end.ensures ∙ c.if-are_at_end.false)

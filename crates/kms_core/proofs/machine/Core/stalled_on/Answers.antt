use Rattle.std.proofs.Common.{sym, ◌∙◌}
use Rattle.kms_core.proofs.next.Stalls.{told_label, told_none}
use Rattle.kms_core.proofs.machine.Core.stalled_on.Goals as goal

pub returns-in-Some : goal.returns-in-Some
returns-in-Some c =
    c.label_of.ensures
    ∙ told_label c.args.self.now (sym c.is_dead.ensures ∙ c.if-not-is_dead.false)
    (sym c.in-Some.is ∙ c.awaited_fence.ensures)

pub returns-in-None : goal.returns-in-None
returns-in-None c = told_none c.args.self.now (sym c.is_dead.ensures ∙ c.if-not-is_dead.false) (sym c.in-None.is ∙ c.awaited_fence.ensures)

use Rattle.std.proofs.Common.{Some, None, refl, ◌∙◌, sym}
use Rattle.kms_core.specs.Decisions.{world}
use Rattle.kms_suspend.proofs.Wholes.{closed_by_kinds}
use Rattle.kms_suspend.proofs.closing.closed_object.Goals as goal

pub returns-in-Some : goal.returns-in-Some
returns-in-Some c =
    closed_by_kinds c.args.core.now.script.topology (world c.args.core.now) (Some c.in-Some.id) _
    (sym c.in-Some.is ∙ c.first_closed.ensures) refl

pub returns-in-None : goal.returns-in-None
returns-in-None c =
    closed_by_kinds c.args.core.now.script.topology (world c.args.core.now) None c.first_closed-in-None.result
    (sym c.in-None.is ∙ c.first_closed.ensures)
    c.first_closed-in-None.ensures

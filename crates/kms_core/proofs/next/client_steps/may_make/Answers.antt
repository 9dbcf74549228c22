use Rattle.std.proofs.Common.{◌∙◌, ap, sym}
use Rattle.std.specs.Option.{option_copied}
use Rattle.kms_core.proofs.next.ClientSteps.{make_told}
use Rattle.kms_core.proofs.next.client_steps.may_make.Goals as goal

pub returns-in-Some : goal.returns-in-Some
returns-in-Some c = c.is_making.ensures ∙ make_told c.args.core.now c.args.client
    (ap option_copied (sym c.in-Some.is) ∙ c.idle_command.ensures)

pub returns-in-None : goal.returns-in-None
returns-in-None c = make_told c.args.core.now c.args.client (ap option_copied (sym c.in-None.is) ∙ c.idle_command.ensures)

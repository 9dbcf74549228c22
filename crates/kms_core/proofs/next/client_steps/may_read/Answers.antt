use Rattle.std.proofs.Common.{◌∙◌, ap, sym}
use Rattle.std.specs.Option.{option_copied}
use Rattle.kms_core.proofs.next.ClientSteps.{read_absent, read_answered, read_other, read_there}
use Rattle.kms_core.proofs.next.client_steps.may_read.Goals as goal

pub returns-then-is_wait : goal.returns-then-is_wait
returns-then-is_wait c =
    read_answered c.args.core.now c.args.client
    (ap option_copied (sym c.in-Some.is) ∙ c.idle_command.ensures) (sym c.is_wait.ensures ∙ c.if-is_wait.true) c.is_answered.ensures

pub returns-else-is_wait : goal.returns-else-is_wait
returns-else-is_wait c =
    c.if-is_wait.false ∙ read_other c.args.core.now c.args.client
    (ap option_copied (sym c.in-Some.is) ∙ c.idle_command.ensures) (sym c.is_wait.ensures ∙ c.if-is_wait.false)

pub returns-in-None : goal.returns-in-None
returns-in-None c = read_absent c.args.core.now c.args.client (ap option_copied (sym c.in-None.is) ∙ c.idle_command.ensures)

pub is_answered-requires-clause-low : goal.is_answered-requires-clause-low
is_answered-requires-clause-low c = (read_there c.args.core.now c.args.client
    (ap option_copied (sym c.in-Some.is) ∙ c.idle_command.ensures)).0

pub is_answered-requires-clause-high : goal.is_answered-requires-clause-high
is_answered-requires-clause-high c = (read_there c.args.core.now c.args.client
    (ap option_copied (sym c.in-Some.is) ∙ c.idle_command.ensures)).1

use Rattle.std.proofs.Common.{◌∙◌, sym}
use Rattle.kms_core.proofs.next.ClientSteps.{back_not, back_told}
use Rattle.kms_core.proofs.next.client_steps.may_back_off.Goals as goal

pub returns-in-MustBackOff : goal.returns-in-MustBackOff
returns-in-MustBackOff c = back_told c.args.core.now c.args.client _ (sym c.in-MustBackOff.is ∙ c.doing.ensures)

pub returns-in_default : goal.returns-in_default
returns-in_default c = back_not c.args.core.now c.args.client c.doing.result c.in_default.not-MustBackOff c.doing.ensures

use Rattle.std.proofs.Common.{◌≡◌, subst}
use Rattle.std.specs.Prelude.{IfOk}
use Rattle.kms_model.specs.declared.scripts.Request.{Request}
use Rattle.kms_core.specs.Decisions.{world}
use Rattle.kms_suspend.proofs.Wholes.{off_parts}
use Rattle.kms_suspend.proofs.requests.suspend.Goals as goal

pub returns : goal.returns
returns c =
    subst (λ (q : Request). IfOk c.request_of.result (λ r. r ≡ q))
    (off_parts c.args.core.now.script.topology (world c.args.core.now)) c.request_of.ensures

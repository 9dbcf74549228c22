use Rattle.std.proofs.Common.{◌≡◌, ◌∙◌, Some, ap, sym}
use Rattle.std.specs.Option.{option_copied}
use Rattle.kms_model.specs.declared.scripts.Request.{Request}
use Rattle.kms_core.specs.SwappedIn.{signals_for}
use Rattle.kms_core.proofs.deciding.committing.signals_of.Goals as goal

pub returns : goal.returns
returns c = λ r is. (
    let found : Some c.in-Some.request.now ≡ Some r = ap option_copied (sym c.in-Some.is) ∙ c.request_of.ensures ∙ is in
    let same : c.in-Some.request.now ≡ r = cc in
    rw c.wants_event.ensures (ap (λ (x : Request). signals_for c.args.client x c.args.out_fences) same))

use Rattle.std.proofs.Common.{List, subst}
use Rattle.std.specs.List.{list_any}
use Rattle.kms_model.specs.declared.scripts.Assign.{Assign}
use Rattle.kms_request.specs.Naming.{AreCrtcs}
use Rattle.kms_request.specs.Whole.{is_named_between}
use Rattle.kms_request.proofs.Picked.{filter_every}
use Rattle.kms_request.proofs.whole.all_named_between.Goals as goal

pub returns : goal.returns
returns c =
    let Named : List Assign → Type 0 = λ xs. AreCrtcs (λ crtc. list_any (λ a. is_named_between c.args.states.now a crtc) xs)
    c.named_by_picked.result in
    subst Named (filter_every c.args.assigns.now) c.named_by_picked.ensures

use Rattle.std.proofs.Common.{◌≡◌, ◌∙◌, List, subst}
use Rattle.std.specs.List.{list_any}
use Rattle.kms_model.specs.declared.scripts.Assign.{Assign}
use Rattle.kms_model.specs.Request.Groups.{union}
use Rattle.kms_request.specs.Groups.{affected_below, objects_assigned}
use Rattle.kms_request.specs.Naming.{AreCrtcs}
use Rattle.kms_request.specs.Whole.{is_named_between}
use Rattle.kms_request.proofs.Picked.{filter_every}
use Rattle.kms_request.proofs.Reached.{spans-touched}
use Rattle.kms_request.proofs.WholeLemmas.{named_between-is}
use Rattle.kms_request.proofs.spanning.spans.Goals as goal

pub returns-clause-named : goal.returns-clause-named
returns-clause-named c = λ t w stand.
    let Named : List Assign → Type 0 = λ xs. AreCrtcs (λ crtc. list_any (λ a. is_named_between c.args.states.now a crtc) xs)
    c.spans_of_picked.result.0 in
    named_between-is stand
    (subst Named (filter_every c.as_slice.result.now ∙ c.as_slice.ensures.value) c.spans_of_picked.ensures.named)

pub returns-clause-touched : goal.returns-clause-touched
returns-clause-touched c = λ t w stand.
    let d = c.args.states.now in
    let named = c.spans_of_picked.result.0 in
    let Touched : List Assign → Type 0 = λ xs. c.spans_of_picked.result.1
    ≡ union (union (objects_assigned xs) (record { crtcs = named; planes = 0; conns = 0 })) (affected_below d.crtcs named 4) in
    spans-touched stand (returns-clause-named c t w stand)
    (subst Touched (filter_every c.as_slice.result.now ∙ c.as_slice.ensures.value) c.spans_of_picked.ensures.touched)

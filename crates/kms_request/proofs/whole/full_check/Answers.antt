use Rattle.std.proofs.Common.{◌∙◌, List, sym, subst}
use Rattle.std.specs.Prelude.{All}
use Rattle.std.specs.List.{list_any}
use Rattle.kms_model.specs.declared.scripts.Assign.{Assign}
use Rattle.kms_model.specs.Request.Resolves.{IsSettable}
use Rattle.kms_model.proofs.RequestLemmas.{has_few}
use Rattle.kms_request.specs.Fences.{TellOutFences}
use Rattle.kms_request.specs.Naming.{AreCrtcs}
use Rattle.kms_request.specs.Whole.{is_named_between}
use Rattle.kms_request.proofs.WholeLemmas.{fenced_is, limits_of, named_between-is, planes_in_range, settable_between, whole_is}
use Rattle.kms_request.proofs.whole.full_check.Goals as goal

pub out_fence_numbers-fences-requires : goal.out_fence_numbers-fences-requires
out_fence_numbers-fences-requires c =
    let Settable : List Assign → Type 0 = λ xs. All IsSettable xs in
    subst Settable (sym c.as_slice-assigns.ensures.value)
    (settable_between c.args.topology.now c.requires.world c.args.request.now c.args.states.now c.requires.between)

pub all_named_between-requires : goal.all_named_between-requires
all_named_between-requires c =
    let Settable : List Assign → Type 0 = λ xs. All IsSettable xs in
    subst Settable (sym c.as_slice-assigns.ensures.value)
    (settable_between c.args.topology.now c.requires.world c.args.request.now c.args.states.now c.requires.between)

pub late_refusal-requires : goal.late_refusal-requires
late_refusal-requires c = planes_in_range 4294967295
    c.requires.between

pub returns : goal.returns
returns c = λ w stand.
    let t = c.args.topology.now in
    let r = c.args.request.now in
    let d = c.args.states.now in
    let Named : List Assign → Type 0 = λ xs. AreCrtcs (λ crtc. list_any (λ a. is_named_between d a crtc) xs) c.all_named_between.result in
    let Fenced : List Assign → Type 0 = λ xs. TellOutFences xs c.out_fence_numbers-fences.result in
    let named = named_between-is stand
    (subst Named c.as_slice-assigns.ensures.value c.all_named_between.ensures) in
    let few = has_few t (limits_of t stand.device) in
    let fenced = c.with_number.ensures ∙ fenced_is t r c.out_fence_numbers-fences.result few.crtcs
    (subst Fenced c.as_slice-assigns.ensures.value c.out_fence_numbers-fences.ensures) in
    (rw c.of_request.ensures at c.late_refusal.ensures) ∙ whole_is stand named
    fenced

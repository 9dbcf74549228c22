use Rattle.std.proofs.Common.{None, Some, ap, refl, sym, ◌∙◌}
use Rattle.std.specs.Option.{option_map}
use Rattle.kms_model.specs.declared.objects.ObjId.{ObjId}
use Rattle.kms_core.specs.Order.{is_open}
use Rattle.kms_core.specs.Run.{machine}
use Rattle.kms_core.proofs.next.NextLocks.{first_told}
use Rattle.kms_core.proofs.next.lacking.first_open.Goals as goal

pub returns-in-Some : goal.returns-in-Some
returns-in-Some c =
    let v = c.args.core.now in
    ap Some c.of.ensures
    ∙ first_told v.script.topology (is_open v.script (machine v) c.args.client c.args.needs.now.request.now c.args.group)
    (Some c.in-Some.index) _ _ (sym c.in-Some.is ∙ c.first_of_kind.ensures.first) refl refl

pub returns-in-Some-first_of_kind : goal.returns-in-Some-first_of_kind
returns-in-Some-first_of_kind c =
    let v = c.args.core.now in
    ap Some c.of-in-Some-first_of_kind.ensures
    ∙ first_told v.script.topology (is_open v.script (machine v) c.args.client c.args.needs.now.request.now c.args.group) None
    (Some c.in-Some-first_of_kind.index) _ (sym c.in_default.is ∙ c.first_of_kind.ensures.first)
    (sym c.in-Some-first_of_kind.is ∙ c.first_of_kind-2.ensures.first) refl

pub returns-in_err-index : goal.returns-in_err-index
returns-in_err-index c =
    let v = c.args.core.now in
    ap (option_map (λ (id : ObjId). id.0)) c.from_residual.ensures
    ∙ first_told v.script.topology (is_open v.script (machine v) c.args.client c.args.needs.now.request.now c.args.group) None None None
    (sym c.in_default.is ∙ c.first_of_kind.ensures.first) (sym c.in_default-first_of_kind.is ∙ c.first_of_kind-2.ensures.first)
    c.in_err-index.ensures.first

pub returns : goal.returns
returns c =
    let v = c.args.core.now in
    ap Some c.of-2.ensures
    ∙ first_told v.script.topology (is_open v.script (machine v) c.args.client c.args.needs.now.request.now c.args.group) None None
    (Some c.in_ok-index.index) (sym c.in_default.is ∙ c.first_of_kind.ensures.first)
    (sym c.in_default-first_of_kind.is ∙ c.first_of_kind-2.ensures.first) c.in_ok-index.ensures.first

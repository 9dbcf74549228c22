use Rattle.std.proofs.Common.{ap, refl, sym, ◌∙◌}
use Rattle.std.specs.Option.{option_map}
use Rattle.kms_model.specs.declared.objects.ObjId.{ObjId}
use Rattle.kms_core.specs.Run.{machine}
use Rattle.kms_core.proofs.next.NextLocks.{next_told}
use Rattle.kms_core.proofs.next.lacking.next_lock.Goals as goal

pub returns-in-Some : goal.returns-in-Some
returns-in-Some c =
    let v = c.args.core.now in
    next_told v.script (machine v) c.args.client c.args.needs.now.request.now _
    c.first_lacked-group.ensures (ap (option_map (λ (id : ObjId). id.0)) (sym c.in-Some.is) ∙ c.first_open.ensures) refl

pub returns-in-None : goal.returns-in-None
returns-in-None c =
    let v = c.args.core.now in
    next_told v.script (machine v) c.args.client c.args.needs.now.request.now _
    c.first_lacked-group.ensures (ap (option_map (λ (id : ObjId). id.0)) (sym c.in-None.is) ∙ c.first_open.ensures)
    c.first_open-in-None.ensures

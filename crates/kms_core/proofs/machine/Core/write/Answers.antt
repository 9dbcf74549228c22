use Rattle.std.proofs.Common.{◌∙◌, ◌++◌, [], ◌∷◌, ap, refl, arith}
use Rattle.kms_model.specs.declared.replies.Step.{Step}
use Rattle.kms_core.specs.Work.{write_step}
use Rattle.kms_core.specs.Insides.{run_in}
use Rattle.kms_core.proofs.stores.Histories.{gained, seen}
use Rattle.kms_core.proofs.stores.Spared.{own_holds, own_room, own_step}
use Rattle.kms_core.proofs.tails.Writing.{has_registers, holds_old, tail_there, writes_next, writes_object}
use Rattle.kms_core.proofs.machine.Core.write.Goals as goal

pub unreachable-requires : goal.unreachable-requires
unreachable-requires c = tail_there
    (seen c.stores.invariant (c.stores.view_is ∙ c.deref_mut-stores.ensures.value ∙ c.self.view_is)).stands c.requires c.in_default.ensures

pub write_registers-requires : goal.write_registers-requires
write_registers-requires c = holds_old
    (seen c.stores.invariant (c.stores.view_is ∙ c.deref_mut-stores.ensures.value ∙ c.self.view_is)).stands c.requires c.in-Some.ensures

pub mark_written-requires : goal.mark_written-requires
mark_written-requires c = has_registers
    (seen c.stores.invariant (c.stores.view_is ∙ c.deref_mut-stores.ensures.value ∙ c.self.view_is)).stands c.requires

pub push-requires : goal.push-requires
push-requires c =
    let here = seen c.stores.invariant (c.stores.view_is ∙ c.deref_mut-stores.ensures.value ∙ c.self.view_is) in
    let step = write_step c.args.commit c.args.id in
    (own_room here
    (own_step step c.args.commit here.stands refl refl (writes_next c.requires).is_legal)).step

pub invariant_of-stores : goal.invariant_of-stores
invariant_of-stores c =
    let k = c.args.commit in
    let same = c.stores.view_is ∙ c.deref_mut-stores.ensures.value ∙ c.self.view_is in
    let here = seen c.stores.invariant same in
    let step = write_step k c.args.id in
    let more = gained (step ∷ []) same refl
    (c.push.ensures.items ∙ ap (λ (x : Step). (run_in c.stores.inside).steps ++ x ∷ []) c.write_step.ensures) in
    own_holds here
    (writes_object k c.args.id here.stands c.requires c.in-Some.ensures more c.write_registers.ensures
    (has_registers here.stands c.requires) c.mark_written.ensures)
    more (own_step step k here.stands refl refl (writes_next c.requires).is_legal) c.push.ensures.room (omega arith)

use Rattle.std.proofs.Common.{◌∙◌, [], ◌∷◌, refl}
use Rattle.kms_model.specs.declared.replies.Step.TheVariants.{Stall}
use Rattle.kms_core.proofs.stores.Histories.{gained, seen}
use Rattle.kms_core.proofs.stores.Spared.{other_holds}
use Rattle.kms_core.proofs.next.Stalls.{stalls}
use Rattle.kms_core.proofs.machine.Core.stall.Goals as goal

pub invariant_of-stores-2 : goal.invariant_of-stores-2
invariant_of-stores-2 c =
    let same = c.stores.view_is ∙ c.deref_mut-stores.ensures.value ∙ c.self.view_is in
    let here = seen c.stores.invariant same in
    let more = gained (Stall ∷ []) same c.in_ok-make_step_room.ensures.items c.push.ensures.items in
    other_holds _ _ here (stalls here.stands c.requires more) more refl refl c.in_ok-make_step_room.ensures.room c.push.ensures.room

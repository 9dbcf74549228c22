use Rattle.std.proofs.Common.{◌∙◌, [], ◌∷◌, refl, arith}
use Rattle.kms_model.specs.declared.replies.Step.TheVariants.{HwDone}
use Rattle.kms_core.proofs.stores.Histories.{gained, seen}
use Rattle.kms_core.proofs.stores.Spared.{own_holds, own_room, own_step}
use Rattle.kms_core.proofs.tails.Marking.{ends_writing}
use Rattle.kms_core.proofs.machine.Core.hw_done.Goals as goal

pub push-requires : goal.push-requires
push-requires c =
    let k = c.args.commit in
    let here = seen c.stores.invariant (c.stores.view_is ∙ c.deref_mut-stores.ensures.value ∙ c.self.view_is) in
    (own_room here (own_step (HwDone k) k here.stands refl refl c.requires)).step

pub invariant_of-stores : goal.invariant_of-stores
invariant_of-stores c =
    let k = c.args.commit in
    let same = c.stores.view_is ∙ c.deref_mut-stores.ensures.value ∙ c.self.view_is in
    let here = seen c.stores.invariant same in
    let more = gained (HwDone k ∷ []) same refl c.push.ensures.items in
    own_holds here (ends_writing k here.stands c.requires more c.hw_done.ensures) more
    (own_step (HwDone k) k here.stands refl refl c.requires) c.push.ensures.room (omega arith)

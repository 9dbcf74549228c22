use Rattle.std.proofs.Common.{[], ◌∷◌, refl, arith}
use Rattle.kms_model.specs.declared.replies.Step.TheVariants.{Claim}
use Rattle.kms_core.proofs.stores.Histories.{gained, seen}
use Rattle.kms_core.proofs.stores.Spared.{own_holds, own_room, own_step}
use Rattle.kms_core.proofs.tails.Marking.{claims}
use Rattle.kms_core.proofs.tails.workers.claim_commit.Goals as goal

pub push-requires : goal.push-requires
push-requires c =
    let k = c.args.commit in
    let here = seen c.stores.invariant c.stores.view_is in
    (own_room here (own_step (Claim k) k here.stands refl refl c.requires)).step

pub invariant_of-stores : goal.invariant_of-stores
invariant_of-stores c =
    let k = c.args.commit in
    let here = seen c.stores.invariant c.stores.view_is in
    let more = gained (Claim k ∷ []) c.stores.view_is refl c.push.ensures.items in
    own_holds here (claims k here.stands c.requires more c.claim.ensures) more
    (own_step (Claim k) k here.stands refl refl c.requires) c.push.ensures.room (omega arith)

use Rattle.std.proofs.Common.{[], ◌∷◌, ap, length, refl}
use Rattle.kms_core.specs.Run.{machine}
use Rattle.kms_core.proofs.deciding.Answering.{decided_stands, may_decide_as}
use Rattle.kms_core.proofs.stores.Histories.{gained, seen}
use Rattle.kms_core.proofs.stores.Spared.{decision_other, other_holds}
use Rattle.kms_core.proofs.deciding.decide.Goals as goal

pub decide-requires-clause-command : goal.decide-requires-clause-command
decide-requires-clause-command c =
    (may_decide_as (seen c.stores.invariant c.stores.view_is).stands c.requires).command_fits

pub invariant_of-stores-2 : goal.invariant_of-stores-2
invariant_of-stores-2 c =
    let here = seen c.stores.invariant c.stores.view_is in
    let more = gained (c.args.step ∷ []) c.stores.view_is c.in_ok-make_step_room.ensures.items c.push.ensures.items in
    other_holds _ _ here
    (decided_stands c.place-command.result.command (length c.as_slice.result.now) c.decide.new.self c.make_room.new.self
    c.push-2.new.self here.stands c.requires (ap (λ p. p.command) c.place-command.ensures) (ap length c.as_slice.ensures) more
    c.in_ok-make_room.ensures.items c.push-2.ensures.items
    (c.decide.ensures (machine c.args.stores.now) here.stands.stores.clients))
    more (decision_other c.requires) refl c.in_ok-make_step_room.ensures.room c.push.ensures.room

use Rattle.std.proofs.Common.{◌∙◌, [], ◌∷◌, refl}
use Rattle.kms_model.specs.declared.replies.Step.TheVariants.{Begin}
use Rattle.kms_core.specs.Run.{machine}
use Rattle.kms_core.proofs.calls.Locking.{begins, begins_idle, tickets_fit}
use Rattle.kms_core.proofs.stores.Histories.{gained, seen}
use Rattle.kms_core.proofs.stores.Spared.{other_holds}
use Rattle.kms_core.proofs.machine.Core.begin.Goals as goal

pub begin-requires-clause-client : goal.begin-requires-clause-client
begin-requires-clause-client c =
    (begins_idle (seen c.stores.invariant (c.stores.view_is ∙ c.deref_mut-stores.ensures.value ∙ c.self.view_is)).stands
    c.requires).is_client

pub begin-requires-clause-idle : goal.begin-requires-clause-idle
begin-requires-clause-idle c =
    (begins_idle (seen c.stores.invariant (c.stores.view_is ∙ c.deref_mut-stores.ensures.value ∙ c.self.view_is)).stands c.requires).idle

pub begin-requires-clause-ticket_left : goal.begin-requires-clause-ticket_left
begin-requires-clause-ticket_left c = tickets_fit c.stores.invariant.stands

pub invariant_of-stores-2 : goal.invariant_of-stores-2
invariant_of-stores-2 c =
    let same = c.stores.view_is ∙ c.deref_mut-stores.ensures.value ∙ c.self.view_is in
    let here = seen c.stores.invariant same in
    let more = gained (Begin c.args.client ∷ []) same c.in_ok-make_step_room.ensures.items c.push.ensures.items in
    other_holds _ _ here
    (begins here.stands c.args.client c.requires more
    (c.in_ok-ticket.ensures.stands (machine c.args.self.now) here.stands.stores.clients))
    more refl refl c.in_ok-make_step_room.ensures.room c.push.ensures.room

use Rattle.std.proofs.Common.{◌∙◌, ap, [], ◌∷◌, refl}
use Rattle.kms_wwlock.specs.Standing.{ticket_in}
use Rattle.kms_model.specs.declared.replies.Step.TheVariants as step
use Rattle.kms_core.specs.Run.{machine}
use Rattle.kms_core.proofs.calls.BackingOff.{client_of_context, is_found, must_place, backoff_goes_on, gains_step}
use Rattle.kms_core.proofs.stores.Histories.{gained, seen}
use Rattle.kms_core.proofs.stores.Spared.{other_holds}
use Rattle.kms_core.proofs.machine.Core.backoff.Goals as goal

pub unreachable-requires : goal.unreachable-requires
unreachable-requires c =
    let has = ap ticket_in c.requires.must in
    let here = seen c.stores.invariant (c.stores.view_is ∙ c.deref_mut-stores.ensures.value ∙ c.self.view_is) in
    c.in_default.ensures.none c.requires.client (client_of_context here.stands has)
    (is_found here.stands c.args.t c.requires.client has)

pub backoff-requires-clause-must : goal.backoff-requires-clause-must
backoff-requires-clause-must c =
    must_place (seen c.stores.invariant (c.stores.view_is ∙ c.deref_mut-stores.ensures.value ∙ c.self.view_is)).stands
    c.in-Some.ensures.some c.requires

pub invariant_of-stores-2 : goal.invariant_of-stores-2
invariant_of-stores-2 c =
    let same = c.stores.view_is ∙ c.deref_mut-stores.ensures.value ∙ c.self.view_is in
    let here = seen c.stores.invariant same in
    let more = gained (step.BackOff c.in-Some.client ∷ []) same c.in_ok-make_step_room.ensures.items c.push.ensures.items in
    other_holds _ _ here
    (backoff_goes_on here.stands c.in-Some.ensures.some c.requires more
    (c.backoff.ensures (machine c.args.self.now) here.stands.stores.clients))
    more refl refl c.in_ok-make_step_room.ensures.room c.push.ensures.room

pub returns-clause-history : goal.returns-clause-history
returns-clause-history c =
    let same = c.stores.view_is ∙ c.deref_mut-stores.ensures.value ∙ c.self.view_is in
    gains_step (seen c.stores.invariant same).stands c.in-Some.ensures.some (λ n. step.BackOff n ∷ [])
    (gained _ same c.in_ok-make_step_room.ensures.items c.push.ensures.items)

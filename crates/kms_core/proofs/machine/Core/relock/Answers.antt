use Rattle.std.proofs.Common.{◌≡◌, sym, ap, ◌∙◌, [], ◌∷◌, subst, refl}
use Rattle.kms_wwlock.specs.Standing.{ticket_in}
use Rattle.kms_wwlock.specs.declared.table.Relock.TheVariants as again
use Rattle.kms_model.specs.declared.replies.Step.TheVariants as step
use Rattle.kms_model.specs.declared.objects.ObjId.{ObjId}
use Rattle.kms_model.specs.declared.objects.Ticket.{Ticket}
use Rattle.kms_model.specs.declared.runs.Doing.{Doing}
use Rattle.kms_model.specs.declared.runs.Doing.TheVariants as doing
use Rattle.kms_model.specs.declared.runs.Place.{Place}
use Rattle.kms_wwlock.specs.InStep as Clients
use Rattle.kms_wwlock.specs.declared.table.Relock.{Relock}
use Rattle.kms_core.specs.States.{stored_state}
use Rattle.kms_core.specs.Run.{gains, machine}
use Rattle.kms_core.specs.Insides.{run_in, stores_of}
use Rattle.kms_core.specs.Stands.{StandsWithSpare}
use Rattle.kms_core.proofs.calls.Locking.{stays}
use Rattle.kms_core.proofs.calls.BackingOff.{client_of_context, is_found, off_place, off_stored, off_there, relock_answered, relock_goes_on}
use Rattle.kms_core.proofs.calls.BackingOff.{gains_step}
use Rattle.kms_core.proofs.stores.Histories.{gained, seen}
use Rattle.kms_core.proofs.stores.Spared.{other_holds, same_le, still_spared}
use Rattle.kms_core.proofs.machine.Core.relock.Goals.{In-Some, In-BackedOff, After-push}
use Rattle.kms_core.proofs.machine.Core.relock.Goals as goal

here : (c : In-Some) → StandsWithSpare c.args.self.now (stores_of c.stores.inside) c.stores.inside.steps.room
here c = seen c.stores.invariant (c.stores.view_is ∙ c.deref_mut-stores.ensures.value ∙ c.self.view_is)

-- the object of the place is the one that it backed off for
id_is : (d : Doing) {t u : Ticket} {id object : ObjId} → d ≡ doing.BackedOff u id → d ≡ doing.BackedOff t object → id ≡ object
id_is d {t} {u} {id} {object} found known = let both : doing.BackedOff u id ≡ doing.BackedOff t object = sym found ∙ known in cc

object_is : (c : In-BackedOff) → c.in-BackedOff.id ≡ c.requires.object
object_is c = id_is _ (ap (λ (p : Place). p.doing) (sym c.place.ensures) ∙ c.in-BackedOff.is)
    (off_stored (seen c.stores.invariant (c.stores.view_is ∙ c.deref_mut-stores.ensures.value ∙ c.self.view_is)).stands
    c.in-Some.ensures.some c.requires)

more : (c : After-push) → record { script = c.stores.inside.script; steps = c.push.new.self.items }
    ≡ gains c.args.self.now (step.Relock c.in-Some.client ∷ [])
more c = gained _ (c.stores.view_is ∙ c.deref_mut-stores.ensures.value ∙ c.self.view_is) c.in_ok-make_step_room.ensures.items
    c.push.ensures.items

pub unreachable-requires : goal.unreachable-requires
unreachable-requires c =
    let has = ap ticket_in c.requires.off in
    let here = seen c.stores.invariant (c.stores.view_is ∙ c.deref_mut-stores.ensures.value ∙ c.self.view_is) in
    c.in_default.ensures.none c.requires.client (client_of_context here.stands has)
    (is_found here.stands c.args.t c.requires.client has)

pub unreachable-requires-in_default-doing : goal.unreachable-requires-in_default-doing
unreachable-requires-in_default-doing c = c.in_default-doing.not-BackedOff _ _
    (ap (λ p. p.doing) c.place.ensures
    ∙ off_stored (here (goal.at.unreachable-requires-in_default-doing c).In-Some).stands c.in-Some.ensures.some c.requires)

pub unreachable-requires-in_default-present_state : goal.unreachable-requires-in_default-present_state
unreachable-requires-in_default-present_state c =
    let known = goal.at.unreachable-requires-in_default-present_state c in
    c.in_default-present_state.not-Some _
    (c.present_state.ensures ∙ ap (λ (o : ObjId). stored_state c.stores.inside.present o.0) (object_is known.In-BackedOff)
    ∙ off_there (here known.In-Some).stands c.in-Some.ensures.some c.requires)

pub relock-requires-clause-off : goal.relock-requires-clause-off
relock-requires-clause-off c = off_place (here (goal.at.relock-requires-clause-off c).In-Some).stands c.in-Some.ensures.some c.requires

pub invariant_of-stores-in-Held-1 : goal.invariant_of-stores-in-Held-1
invariant_of-stores-in-Held-1 c = record {
  stands = stays c.stores.invariant.stands c.in_ok-make_step_room.ensures.items
      (subst (λ (a : Relock). Clients.AreClientsOf (Clients.after_relock (machine (run_in c.stores.inside)) c.in-Some.client a)
      c.relock.new.self) c.in-Held.is (c.relock.ensures.stands (machine (run_in c.stores.inside))
      c.stores.invariant.stands.stores.clients));
  spare = still_spared c.in_ok-make_step_room.ensures.items c.stores.invariant.spare c.in_ok-make_step_room.ensures.kept (same_le _);
}

pub returns-in-Held-clause-answer : goal.returns-in-Held-clause-answer
returns-in-Held-clause-answer c =
    let known = goal.at.returns-in-Held-clause-answer c in
    let stands = (here known.In-Some).stands in
    relock_answered stands c.in-Some.ensures.some c.requires {answer = again.Held c.in-Held.holder} (object_is known.In-BackedOff)
    (sym c.present_state.ensures ∙ c.in-Some-present_state.is)
    (sym c.in-Held.is ∙ c.relock.ensures.answer (machine c.args.self.now) stands.stores.clients)

pub invariant_of-stores-in-Got : goal.invariant_of-stores-in-Got
invariant_of-stores-in-Got c =
    let known = goal.at.invariant_of-stores-in-Got c in
    let holds = here known.In-Some in
    let clients = holds.stands.stores.clients in
    other_holds _ _ holds
    (relock_goes_on holds.stands c.in-Some.ensures.some c.requires
    (sym c.in-Got.is ∙ c.relock.ensures.answer (machine c.args.self.now) clients) (more known.After-push)
    (subst (λ (a : Relock). Clients.AreClientsOf (Clients.after_relock (machine c.args.self.now) c.in-Some.client a) c.relock.new.self)
    c.in-Got.is (c.relock.ensures.stands (machine c.args.self.now) clients)))
    (more known.After-push) refl refl c.in_ok-make_step_room.ensures.room c.push.ensures.room

pub returns-in-Got-clause-answer : goal.returns-in-Got-clause-answer
returns-in-Got-clause-answer c =
    let known = goal.at.returns-in-Got-clause-answer c in
    let stands = (here known.In-Some).stands in
    relock_answered stands c.in-Some.ensures.some c.requires {answer = again.Got} (object_is known.In-BackedOff)
    (sym c.present_state.ensures ∙ c.in-Some-present_state.is)
    (sym c.in-Got.is ∙ c.relock.ensures.answer (machine c.args.self.now) stands.stores.clients)

pub returns-in-Got-clause-history : goal.returns-in-Got-clause-history
returns-in-Got-clause-history c =
    let known = goal.at.returns-in-Got-clause-history c in
    gains_step (here known.In-Some).stands c.in-Some.ensures.some (λ n. step.Relock n ∷ []) (more known.After-push)

use Rattle.std.proofs.Common.{◌≡◌, Option, Some, refl, ap, ◌∙◌, subst}
use Rattle.std.specs.Prelude.{option_and_then}
use Rattle.kms_model.specs.declared.runs.Doing.TheVariants as doing
use Rattle.kms_model.specs.Machine.State.{Machine}
use Rattle.kms_wwlock.specs.declared.contexts.ContextDoing.{ContextDoing}
use Rattle.kms_wwlock.specs.declared.contexts.ContextDoing.TheVariants as context
use Rattle.kms_wwlock.specs.Objects.{IsLockable}
use Rattle.kms_wwlock.specs.declared.table.Relock.{Relock}
use Rattle.kms_wwlock.specs.declared.table.Relock.TheVariants as relock
use Rattle.kms_wwlock.specs.Table.{Table, backed_off_for, holder_of}
use Rattle.kms_wwlock.specs.Calls.{relocked as table_relocked, relock_from, after_relock as after_relock_of}
use Rattle.kms_wwlock.specs.Standing.{IsBegun, NamesLockable}
use Rattle.kms_wwlock.proofs.Places.{HasContext, has_context}
use Rattle.kms_wwlock.proofs.Ties.{tied_still}
use Rattle.kms_wwlock.proofs.InMachine.{again_answers, takes_again}
use Rattle.kms_wwlock.proofs.clients.Clients.relock.Goals as goal
use Rattle.kms_wwlock.proofs.clients.Clients.relock.Goals.{In-BackedOff, In-Got}

found : (c : In-BackedOff) → HasContext (record { places = c.self.inside.places; table = c.self.inside.table }) c.args.client
    c.in-BackedOff.ticket (doing.BackedOff c.in-BackedOff.ticket c.in-BackedOff.field-1)
found c = has_context _ _ _ _ _ _ c.self.invariant c.requires.client c.self.view_is c.place.ensures c.in-BackedOff.is refl

-- its context has backed off, as the client has
off : (c : In-BackedOff) → IsBegun c.self.inside.table.contexts (doing.BackedOff c.in-BackedOff.ticket c.in-BackedOff.field-1)
off c = subst (IsBegun c.self.inside.table.contexts) (found c).does (c.self.invariant.begun c.args.client c.requires.client)

lockable : (c : In-BackedOff) → IsLockable c.in-BackedOff.field-1
lockable c = subst NamesLockable (found c).does (c.self.invariant.lockable c.args.client c.requires.client)

after : (c : In-Got) → IsBegun c.self.inside.table.contexts (doing.BackedOff c.in-BackedOff.ticket c.in-BackedOff.field-1)
    → c.relock-answer.new.self ≡ table_relocked c.self.inside.table c.in-BackedOff.ticket (Some c.in-BackedOff.field-1) relock.Got
after c is =
    c.relock-answer.ensures.after ∙ ap (λ (a : Relock). after_relock_of c.self.inside.table c.in-BackedOff.ticket a) c.in-Got.is
    ∙ ap (λ (d : Option ContextDoing). table_relocked c.self.inside.table c.in-BackedOff.ticket (backed_off_for d) relock.Got) is

pub invariant_of-self : goal.invariant_of-self
invariant_of-self c =
    let at = goal.at.invariant_of-self c in
    let is = off at.In-BackedOff in
    let on = (c.relock-answer.ensures.got c.in-Got.is c.in-BackedOff.field-1 is).1 in
    tied_still _ _ c.relock-answer.new.self _ _ _ _ (found at.In-BackedOff) c.set_doing.ensures context.Taking refl tt on.now on.others
    (ap (λ (w : Table). w.contexts) (after at.In-Got is))

pub returns-in-Got-clause-answer : goal.returns-in-Got-clause-answer
returns-in-Got-clause-answer c = λ (m : Machine) stand.
    let at = goal.at.returns-in-Got-clause-answer c in
    again_answers m _ (rw c.self.view_is stand) _ _ _ (found at.In-BackedOff) c.in-BackedOff.field-1 refl (lockable at.In-BackedOff)
    c.relock-answer.result
    (c.relock-answer.ensures.answer ∙ ap (λ (d : Option ContextDoing). relock_from
    (option_and_then (holder_of c.self.inside.table) (backed_off_for d))) (off at.In-BackedOff))

pub returns-in-Got-clause-stands : goal.returns-in-Got-clause-stands
returns-in-Got-clause-stands c = λ (m : Machine) stand.
    let at = goal.at.returns-in-Got-clause-stands c in
    let is = off at.In-BackedOff in
    rw c.in-Got.is
    (takes_again m _ (rw c.self.view_is stand) _ _ _ (found at.In-BackedOff) c.in-BackedOff.field-1 refl (lockable at.In-BackedOff) _ _
    (ap (λ (w : Table). w.drawn) (after at.In-Got is)) c.set_doing.ensures
    (c.relock-answer.ensures.got c.in-Got.is c.in-BackedOff.field-1 is).0)

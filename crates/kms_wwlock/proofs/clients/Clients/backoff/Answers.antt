use Rattle.std.proofs.Common.{◌≡◌, Option, Some, refl, ap, ◌∙◌, subst}
use Rattle.kms_model.specs.declared.runs.Doing.TheVariants as doing
use Rattle.kms_model.specs.Machine.State.{Machine}
use Rattle.kms_wwlock.specs.declared.contexts.ContextDoing.{ContextDoing}
use Rattle.kms_wwlock.specs.declared.contexts.ContextDoing.TheVariants as context
use Rattle.kms_wwlock.specs.Table.{Table, must_back_off_for}
use Rattle.kms_wwlock.specs.Calls.{backed_off as table_backed_off}
use Rattle.kms_wwlock.specs.Standing.{IsBegun, NamesLockable}
use Rattle.kms_wwlock.proofs.Places.{HasContext, has_context}
use Rattle.kms_wwlock.proofs.Ties.{tied_still}
use Rattle.kms_wwlock.proofs.InMachine.{backs_off}
use Rattle.kms_wwlock.proofs.clients.Clients.backoff.Goals as goal
use Rattle.kms_wwlock.proofs.clients.Clients.backoff.Goals.{In-MustBackOff, After-backoff}

found : (c : In-MustBackOff) → HasContext (record { places = c.self.inside.places; table = c.self.inside.table }) c.args.client
    c.in-MustBackOff.ticket (doing.MustBackOff c.in-MustBackOff.ticket c.in-MustBackOff.object)
found c = has_context _ _ _ _ _ _ c.self.invariant c.requires.client c.self.view_is c.place.ensures c.in-MustBackOff.is refl

-- its context has to back off, as the client does
met : (c : In-MustBackOff) → IsBegun c.self.inside.table.contexts (doing.MustBackOff c.in-MustBackOff.ticket c.in-MustBackOff.object)
met c = subst (IsBegun c.self.inside.table.contexts) (found c).does (c.self.invariant.begun c.args.client c.requires.client)

after : (c : After-backoff) → IsBegun c.self.inside.table.contexts (doing.MustBackOff c.in-MustBackOff.ticket c.in-MustBackOff.object)
    → c.backoff.new.self ≡ table_backed_off c.self.inside.table c.in-MustBackOff.ticket (Some c.in-MustBackOff.object)
after c is = c.backoff.ensures.after ∙ ap (λ (d : Option ContextDoing). table_backed_off c.self.inside.table c.in-MustBackOff.ticket
    (must_back_off_for d)) is

pub invariant_of-self : goal.invariant_of-self
invariant_of-self c =
    let at = goal.at.invariant_of-self c in
    let f = found at.In-MustBackOff in
    let is = met at.In-MustBackOff in
    let on = c.backoff.ensures.backed_off c.in-MustBackOff.object is in
    tied_still _ _ c.backoff.new.self _ _ _ _ f c.set_doing.ensures (context.BackedOff c.in-MustBackOff.object) refl
    (subst NamesLockable f.does (c.self.invariant.lockable c.args.client c.requires.client))
    on.now on.others (ap (λ (w : Table). w.contexts) (after at.After-backoff is))

pub returns : goal.returns
returns c = λ (m : Machine) stand.
    let at = goal.at.returns c in
    backs_off m _ (rw c.self.view_is stand) _ _ _ (found at.In-MustBackOff) c.in-MustBackOff.object _ _ refl
    (ap (λ (w : Table). w.drawn) (after at.After-backoff (met at.In-MustBackOff))) c.set_doing.ensures c.backoff.ensures.freed

use Rattle.std.proofs.Common.{◌≡◌, ℕ, ◌+◌, None, refl, sym, ap, ◌∙◌}
use Rattle.std.specs.Prelude.{◌++◌, ◌∷◌, []}
use Rattle.kms_model.specs.declared.objects.Ticket.{Ticket}
use Rattle.kms_model.specs.declared.runs.Doing.TheVariants as doing
use Rattle.kms_model.specs.declared.runs.Place.{Place}
use Rattle.kms_model.specs.Machine.State.{Machine}
use Rattle.kms_wwlock.specs.declared.contexts.ContextDoing.TheVariants as context
use Rattle.kms_wwlock.specs.Table.{Table}
use Rattle.kms_wwlock.specs.Standing.{Standing, place_in, place_of, doing_in, ticket_in}
use Rattle.kms_wwlock.specs.InStep.{AreClientsOf}
use Rattle.kms_wwlock.proofs.Places.{Moves, moves}
use Rattle.kms_wwlock.proofs.Ties.{tied_begun}
use Rattle.kms_wwlock.proofs.InMachine.{goes}
use Rattle.kms_wwlock.proofs.clients.Clients.begin.Goals as goal

pub invariant_of-self-2 : goal.invariant_of-self-2
invariant_of-self-2 c =
    let v : Standing = record { places = c.self.inside.places; table = c.self.inside.table } in
    let new = c.set_doing.new.places in
    let t = c.in_ok-ticket.ticket in
    let place : Place = record { command = (place_in v.places c.args.client).command; doing = doing.Taking t } in
    let m : Moves v.places new c.args.client place = moves v.places new c.args.client place c.self.invariant.size c.requires.client
    c.set_doing.ensures in
    let idle : ticket_in (doing_in v.places c.args.client)
    ≡ None = ap (λ (u : Standing). ticket_in (place_of u c.args.client).doing) c.self.view_is ∙ ap ticket_in c.requires.idle in
    let after : c.begin.new.self.contexts ≡ v.table.contexts ++ record { ticket = t; client = c.args.client; doing = context.Taking } ∷ [] =
    ap (λ (w : Table). w.contexts) c.in_ok-ticket.ensures.after ∙ ap
    (λ (w : Ticket). v.table.contexts ++ record { ticket = w; client = c.args.client; doing = context.Taking } ∷ [])
    (sym c.in_ok-ticket.ensures.ticket) in
    rw after (tied_begun v.places new v.table.contexts c.self.invariant c.args.client c.requires.client place m t
    c.in_ok-ticket.ensures.fresh context.Taking idle refl
    (rw after at c.in_ok-ticket.ensures.taking.others) (rw after at c.in_ok-ticket.ensures.taking.now))

pub returns-clause-stands : goal.returns-clause-stands
returns-clause-stands c = λ (m : Machine) stand.
    let v : Standing = record { places = c.self.inside.places; table = c.self.inside.table } in
    let at : AreClientsOf m.contexts v = rw c.self.view_is stand in
    let t = c.in_ok-ticket.ticket in
    let idle : ticket_in (doing_in v.places c.args.client)
    ≡ None = ap (λ (u : Standing). ticket_in (place_of u c.args.client).doing) c.self.view_is ∙ ap ticket_in c.requires.idle in
    let next : t ≡ record { 0 = m.contexts.tickets } = c.in_ok-ticket.ensures.ticket ∙ ap
    (λ (n : ℕ). let w : Ticket = record { 0 = n } in w) at.tickets in
    rw (← next)
    (goes m v at c.self.invariant c.args.client c.requires.client idle c.set_doing.new.places
    (λ (p : Place). record p { doing = doing.Taking t }) c.begin.new.self (m.contexts.tickets + 1) c.set_doing.ensures
    (ap (λ (w : Table). w.holders) c.in_ok-ticket.ensures.after)
    (ap (λ (w : Table). w.drawn) c.in_ok-ticket.ensures.after ∙ ap (λ n. n + 1) at.tickets))

use Rattle.std.proofs.Common.{◌+◌, refl, ap, ◌∙◌}
use Rattle.kms_model.specs.declared.runs.Doing.TheVariants as doing
use Rattle.kms_model.specs.declared.runs.Place.{Place}
use Rattle.kms_model.specs.Machine.State.{Machine}
use Rattle.kms_wwlock.specs.Standing.{Standing, place_in, place_of, ticket_in}
use Rattle.kms_wwlock.specs.InStep.{AreClientsOf}
use Rattle.kms_wwlock.proofs.Places.{Moves, moves}
use Rattle.kms_wwlock.proofs.Ties.{tied_beside}
use Rattle.kms_wwlock.proofs.InMachine.{goes}
use Rattle.kms_wwlock.proofs.clients.Clients.go_on.Goals as goal

pub returns : goal.returns
returns c = λ (m : Machine) stand.
    let v : Standing = record { places = c.self.inside.places; table = c.self.inside.table } in
    let at : AreClientsOf m.contexts v = rw c.self.view_is stand in
    goes m v at c.self.invariant c.args.client c.requires.client
    (ap (λ (u : Standing). ticket_in (place_of u c.args.client).doing) c.self.view_is ∙ c.requires.no_context) c.set_next.new.places
    (λ (p : Place). record { command = p.command + 1; doing = doing.Idle }) c.self.inside.table m.contexts.tickets c.set_next.ensures refl
    at.tickets

pub invariant_of-self : goal.invariant_of-self
invariant_of-self c =
    let v : Standing = record { places = c.self.inside.places; table = c.self.inside.table } in
    let new = c.set_next.new.places in
    let place : Place = record { command = (place_in v.places c.args.client).command + 1; doing = doing.Idle } in
    let m : Moves v.places new c.args.client place = moves v.places new c.args.client place c.self.invariant.size c.requires.client
    c.set_next.ensures in
    tied_beside v.places new v.table.contexts c.self.invariant c.args.client c.requires.client place m
    (ap (λ (u : Standing). ticket_in (place_of u c.args.client).doing) c.self.view_is ∙ c.requires.no_context) refl

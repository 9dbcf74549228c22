use Rattle.std.proofs.Common.{refl, ap}
use Rattle.kms_model.specs.declared.runs.Doing.TheVariants as doing
use Rattle.kms_model.specs.declared.runs.Place.{Place}
use Rattle.kms_model.specs.Machine.State.{Machine}
use Rattle.kms_wwlock.specs.Table.{Table}
use Rattle.kms_wwlock.proofs.Places.{HasContext, has_context}
use Rattle.kms_wwlock.proofs.Ties.{tied_over}
use Rattle.kms_wwlock.proofs.InMachine.{drops}
use Rattle.kms_wwlock.proofs.clients.Clients.wait_for.Goals as goal
use Rattle.kms_wwlock.proofs.clients.Clients.wait_for.Goals.{In-Taking}

found : (c : In-Taking) → HasContext (record { places = c.self.inside.places; table = c.self.inside.table }) c.args.client
    c.in-Taking.ticket (doing.Taking c.in-Taking.ticket)
found c = has_context _ _ _ _ _ _ c.self.invariant c.requires.client c.self.view_is c.place.ensures c.in-Taking.is refl

pub invariant_of-self : goal.invariant_of-self
invariant_of-self c = tied_over _ _ _ _ _ _ _ (found (goal.at.invariant_of-self c).In-Taking) c.set_doing.ensures refl
    c.drop_all.ensures.after c.drop_all.ensures.over.others

pub returns : goal.returns
returns c = λ (m : Machine) stand.
    drops m _ (rw c.self.view_is stand) _ _ _ (found (goal.at.returns c).In-Taking) _ _
    (ap (λ (w : Table). w.drawn) c.drop_all.ensures.after)
    (λ (p : Place). record p { doing = doing.Returning c.args.commit }) c.set_doing.ensures c.drop_all.ensures.freed

use Rattle.std.proofs.Common.{◌≡◌, refl, sym, ap, ◌∙◌}
use Rattle.kms_model.specs.declared.runs.Doing.TheVariants as doing
use Rattle.kms_model.specs.Machine.State.{Machine, holder_at}
use Rattle.kms_wwlock.specs.declared.contexts.ContextDoing.TheVariants as context
use Rattle.kms_wwlock.specs.Table.{Table}
use Rattle.kms_wwlock.specs.InStep.{AreClientsOf, lock_answer}
use Rattle.kms_wwlock.proofs.Places.{HasContext, has_context}
use Rattle.kms_wwlock.proofs.Ties.{tied_still}
use Rattle.kms_wwlock.proofs.InMachine.{lock_answers, meets_older, meets_no_older}
use Rattle.kms_wwlock.proofs.clients.Clients.lock.Goals as goal
use Rattle.kms_wwlock.proofs.clients.Clients.lock.Goals.{In-Taking}

found : (c : In-Taking) → HasContext (record { places = c.self.inside.places; table = c.self.inside.table }) c.args.client
    c.in-Taking.ticket (doing.Taking c.in-Taking.ticket)
found c = has_context _ _ _ _ _ _ c.self.invariant c.requires.client c.self.view_is c.place.ensures c.in-Taking.is refl

pub invariant_of-self : goal.invariant_of-self
invariant_of-self c =
    tied_still _ _ c.lock-answer.new.self _ _ _ _ (found (goal.at.invariant_of-self c).In-Taking) c.set_doing.ensures
    (context.MustBackOff c.args.id) refl c.requires.lockable
    c.in-Older.ensures.older.now c.in-Older.ensures.older.others (ap (λ (w : Table). w.contexts) c.in-Older.ensures.after)

pub returns-in-Older-clause-stands : goal.returns-in-Older-clause-stands
returns-in-Older-clause-stands c = λ (m : Machine) stand.
    let f = found (goal.at.returns-in-Older-clause-stands c).In-Taking in
    let at : AreClientsOf m.contexts (record { places = c.self.inside.places; table = c.self.inside.table }) = rw c.self.view_is stand in
    rw c.in-Older.is
    (meets_older m _ at _ _ _ f _ _ c.args.id c.in-Older.holder _
    (ap (λ (w : Table). w.drawn) c.in-Older.ensures.after) c.set_doing.ensures (ap (λ (w : Table). w.holders) c.in-Older.ensures.after)
    (sym (lock_answers m _ at _ _ _ f c.args.id c.requires.lockable) ∙ sym c.lock-answer.ensures.answer ∙ c.in-Older.is))

pub returns-in_default-answer : goal.returns-in_default-answer
returns-in_default-answer c =
    let f = found (goal.at.returns-in_default-answer c).In-Taking in
    let answers : (m : Machine) → AreClientsOf m.contexts c.args.self.now → c.lock-answer.result
    ≡ lock_answer m c.args.client (holder_at m c.args.id.0) =
    λ (m : Machine) stand. c.lock-answer.ensures.answer ∙ lock_answers m _ (rw c.self.view_is stand) _ _ _ f c.args.id c.requires.lockable
    in
    record {
      answer = answers;
      stands = λ (m : Machine) stand. meets_no_older m _ (rw c.self.view_is stand) _ _ _ f c.args.id c.lock-answer.result
          c.lock-answer.new.self
          c.in_default-answer.not-Older c.lock-answer.ensures.got c.lock-answer.ensures.after (answers m stand);
    }

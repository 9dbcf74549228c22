use Rattle.std.proofs.Common.{◌∙◌, sym, ap, ◌≡◌, ◌++◌, ◌∷◌, [], refl}
use Rattle.kms_model.specs.Order.Turns.{lock_step}
use Rattle.kms_model.specs.declared.replies.Step.{Step}
use Rattle.kms_core.specs.Run.{gains, machine}
use Rattle.kms_core.specs.Insides.{run_in, stores_of}
use Rattle.kms_core.specs.Stands.{StandsWithSpare}
use Rattle.kms_core.proofs.calls.Locking.{Asks, asks, lock_answered, lock_goes_on, lock_history, lock_stays}
use Rattle.kms_core.proofs.stores.Histories.{gained, seen}
use Rattle.kms_core.proofs.stores.Spared.{other_holds, same_le, still_spared}
use Rattle.kms_core.proofs.machine.Core.lock.Goals.{In-Some, After-push}
use Rattle.kms_core.proofs.machine.Core.lock.Goals as goal

here : (c : In-Some) → StandsWithSpare c.args.self.now (stores_of c.stores.inside) c.stores.inside.steps.room
here c = seen c.stores.invariant (c.stores.view_is ∙ c.deref_mut-stores.ensures.value ∙ c.self.view_is)

asked : (c : In-Some) → Asks c.args.self.now (stores_of c.stores.inside) c.args.t c.args.id c.in-Some.client
asked c = asks (here c).stands c.requires c.in-Some.ensures.some

more : (c : After-push) → record { script = c.stores.inside.script; steps = c.push.new.self.items }
    ≡ gains c.args.self.now (lock_step c.in-Some.client c.args.id.0 ∷ [])
more c = gained _ (c.stores.view_is ∙ c.deref_mut-stores.ensures.value ∙ c.self.view_is) c.in_ok-make_step_room.ensures.items
    (c.push.ensures.items ∙ ap (λ (x : Step). c.make_step_room.new.steps.items ++ x ∷ []) c.lock_step.ensures)

pub lock-answer-requires-clause-taking : goal.lock-answer-requires-clause-taking
lock-answer-requires-clause-taking c = (asked (goal.at.lock-answer-requires-clause-taking c).In-Some).place

pub invariant_of-stores-then-not-is_step : goal.invariant_of-stores-then-not-is_step
invariant_of-stores-then-not-is_step c = record {
  stands = lock_stays c.stores.invariant.stands c.args.id c.in-Some.client c.lock-answer.result
      (sym c.is_step.ensures ∙ c.if-not-is_step.true) c.in_ok-make_step_room.ensures.items
      (c.lock-answer.ensures.stands (machine (run_in c.stores.inside)) c.stores.invariant.stands.stores.clients);
  spare = still_spared c.in_ok-make_step_room.ensures.items c.stores.invariant.spare c.in_ok-make_step_room.ensures.kept (same_le _);
}

pub returns-then-not-is_step-clause-answer : goal.returns-then-not-is_step-clause-answer
returns-then-not-is_step-clause-answer c = λ client taking.
    let known = (goal.at.returns-then-not-is_step-clause-answer c).In-Some in
    c.answer_with_state.ensures
    ∙ lock_answered (here known).stands (asked known) (sym c.present_state.ensures ∙ c.in-Some-present_state.is)
    (c.lock-answer.ensures.answer (machine c.args.self.now) (here known).stands.stores.clients) client taking

pub invariant_of-stores-2 : goal.invariant_of-stores-2
invariant_of-stores-2 c =
    let known = (goal.at.invariant_of-stores-2 c).In-Some in
    let gains = more (goal.at.invariant_of-stores-2 c).After-push in
    let clients = (here known).stands.stores.clients in
    other_holds _ _ (here known)
    (lock_goes_on (here known).stands (asked known) (c.lock-answer.ensures.answer (machine c.args.self.now) clients)
    (sym c.is_step.ensures ∙ c.if-not-is_step.false) gains (c.lock-answer.ensures.stands (machine c.args.self.now) clients))
    gains refl refl c.in_ok-make_step_room.ensures.room c.push.ensures.room

pub returns-clause-answer : goal.returns-clause-answer
returns-clause-answer c = λ client taking.
    let known = (goal.at.returns-clause-answer c).In-Some in
    c.answer_with_state-2.ensures
    ∙ lock_answered (here known).stands (asked known) (sym c.present_state.ensures ∙ c.in-Some-present_state.is)
    (c.lock-answer.ensures.answer (machine c.args.self.now) (here known).stands.stores.clients) client taking

pub returns-clause-history : goal.returns-clause-history
returns-clause-history c = lock_history c.in-Some-present_state.state c.lock-answer.result
    (asked (goal.at.returns-clause-history c).In-Some) c.answer_with_state-2.ensures (sym c.is_step.ensures ∙ c.if-not-is_step.false)
    (more (goal.at.returns-clause-history c).After-push)

use Rattle.std.proofs.Common.{◌∙◌, [], ◌∷◌, ap, subst, sym}
use Rattle.kms_model.specs.declared.replies.Step.TheVariants as step
use Rattle.kms_model.specs.Request.Lookups.{look_up}
use Rattle.kms_core.specs.Decisions.{IsDecided, steps_of, taker, world}
use Rattle.kms_core.specs.Run.{Run, gains, machine}
use Rattle.kms_core.specs.Swaps.{MaySwap, swap_answer}
use Rattle.kms_core.proofs.stores.Histories.{seen}
use Rattle.kms_core.proofs.stores.Fresh.{answers_again, fresh_now}
use Rattle.kms_core.proofs.Swapped.{commit_as, committed_as, gained_as, hindered_as, ready_as, steps_as}
use Rattle.kms_core.proofs.machine.Core.swap.Goals as goal

pub returns-in-Some-clause-answer : goal.returns-in-Some-clause-answer
returns-in-Some-clause-answer c =
    answers_again c.args.used.now c.in-Some.stale (swap_answer c.args.self.now (taker (machine c.args.self.now) c.args.t.0)) c.again.result
    (seen c.stores.invariant (c.stores.view_is ∙ c.deref_mut-stores.ensures.value ∙ c.self.view_is)).stands c.in-Some.ensures
    c.again.ensures

pub refuse_or_put_off-requires : goal.refuse_or_put_off-requires
refuse_or_put_off-requires c =
    let told = c.deref_mut-stores.ensures.value ∙ c.self.view_is in
    ready_as (seen c.stores.invariant
    c.stores.view_is).stands c.in_default.ensures (subst (λ (w : Run). MaySwap w c.args.t.0 c.args.used.now c.args.checked.now
    c.args.resolved.now) (sym told) c.requires) c.taker-client.ensures

pub returns-in-Some-2-clause-answer : goal.returns-in-Some-2-clause-answer
returns-in-Some-2-clause-answer c =
    subst (λ (w : Run). IsDecided (look_up (world w)) c.args.used.now (swap_answer w (taker (machine w) c.args.t.0)) c.in-Some-2.decided)
    (c.deref_mut-stores.ensures.value ∙ c.self.view_is)
    (hindered_as c.args.t.0 c.args.used.now _ (seen c.stores.invariant c.stores.view_is).stands
    c.in_default.ensures c.taker-client.ensures (sym c.in-Some-2.is) c.in_ok-decided.ensures.answer)

pub returns-in-Some-2-clause-history : goal.returns-in-Some-2-clause-history
returns-in-Some-2-clause-history c =
    steps_as c.args.t.0 (seen c.stores.invariant
    c.stores.view_is).stands c.taker-client.ensures (sym c.in-Some-2.is) c.in_ok-decided.ensures.history
    ∙ ap (λ (w : Run). gains w (steps_of (taker (machine w) c.args.t.0) (step.Swap (taker (machine w) c.args.t.0)) c.in-Some-2.decided))
    (c.deref_mut-stores.ensures.value ∙ c.self.view_is)

pub commit-requires : goal.commit-requires
commit-requires c =
    let told = c.deref_mut-stores.ensures.value ∙ c.self.view_is in
    commit_as c.refuse_or_put_off.new.stores c.args.t.0 c.args.used.now c.args.checked.now c.args.resolved.now c.taker-client.result _ (seen
    c.stores.invariant c.stores.view_is).stands c.in_default.ensures (subst
    (λ (w : Run). MaySwap w c.args.t.0 c.args.used.now c.args.checked.now c.args.resolved.now) (sym told) c.requires)
    c.taker-client.ensures (sym c.in_default-2.is) c.in_ok-decided.ensures.history c.in_ok-decided.ensures.may

pub returns-clause-answer : goal.returns-clause-answer
returns-clause-answer c = (
  fresh_now c.args.used.now (seen c.stores.invariant (c.stores.view_is ∙ c.deref_mut-stores.ensures.value ∙ c.self.view_is)).stands
      c.in_default.ensures,
  committed_as c.args.t.0 (seen c.stores.invariant
      c.stores.view_is).stands c.taker-client.ensures (sym c.in_default-2.is) c.in_ok-decided.ensures.history c.in_ok-decided.ensures.answer
      c.in_ok-commit.ensures.number
      ∙ ap (λ (w : Run). swap_answer w (taker (machine w) c.args.t.0)) (c.deref_mut-stores.ensures.value ∙ c.self.view_is),
)

pub returns-clause-history : goal.returns-clause-history
returns-clause-history c =
    gained_as c.args.t.0 (seen c.stores.invariant
    c.stores.view_is).stands c.taker-client.ensures (sym c.in_default-2.is) c.in_ok-decided.ensures.history c.in_ok-commit.ensures.history
    ∙ ap (λ (w : Run). gains w (step.Swap (taker (machine w) c.args.t.0) ∷ [])) (c.deref_mut-stores.ensures.value ∙ c.self.view_is)

use Rattle.std.proofs.Common.{ap, subst, sym, ◌∙◌}
use Rattle.std.specs.Prelude.{IfOk}
use Rattle.kms_model.specs.declared.replies.Reply.TheVariants as reply
use Rattle.kms_model.specs.declared.replies.Step.TheVariants as step
use Rattle.kms_model.specs.Request.Lookups.{look_up}
use Rattle.kms_core.specs.declared.stores.looking.Decided.TheVariants as decided
use Rattle.kms_core.specs.Decisions.{IsDecided, MayRefuse, steps_of, taker, world}
use Rattle.kms_core.specs.Run.{Run, gains, if_ok, machine}
use Rattle.kms_core.proofs.stores.Histories.{seen}
use Rattle.kms_core.proofs.Takers.{taker_as}
use Rattle.kms_core.proofs.Verdicts.{refuses_as}
use Rattle.kms_core.proofs.machine.Core.refuse.Goals as goal

pub decide_fresh-requires : goal.decide_fresh-requires
decide_fresh-requires c = λ fresh.
    let told = c.deref_mut-stores.ensures.value ∙ c.self.view_is in
    refuses_as (seen c.stores.invariant c.stores.view_is).stands fresh (subst
    (λ (w : Run). MayRefuse w c.args.t.0 c.args.used.now c.args.why) (sym told) c.requires) c.taker-client.ensures

pub returns-clause-answer : goal.returns-clause-answer
returns-clause-answer c =
    subst (λ (w : Run). IfOk c.decide_fresh.result
    (IsDecided (look_up (world w)) c.args.used.now (decided.Done (reply.Refused c.args.why))))
    (c.deref_mut-stores.ensures.value ∙ c.self.view_is) c.decide_fresh.ensures.answer

pub returns-clause-history : goal.returns-clause-history
returns-clause-history c =
    let X = c.deref_mut-stores.result.now in
    c.decide_fresh.ensures.history
    ∙ ap (λ n. gains X (if_ok c.decide_fresh.result (steps_of n (step.Refuse n))))
    (taker_as c.args.t.0 (seen c.stores.invariant c.stores.view_is).stands c.taker-client.ensures)
    ∙ ap (λ (w : Run). gains w (if_ok c.decide_fresh.result
    (steps_of (taker (machine w) c.args.t.0) (step.Refuse (taker (machine w) c.args.t.0)))))
    (c.deref_mut-stores.ensures.value ∙ c.self.view_is)

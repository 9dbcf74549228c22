use Rattle.std.proofs.Common.{rules, refl, sym, subst, ◌∙◌, inl, inr}
use Rattle.std.proofs.lemmas.Bool.{false≢true}
use Rattle.kms_model.specs.declared.replies.Reply.TheVariants as reply
use Rattle.kms_model.specs.declared.replies.Step.TheVariants as step
use Rattle.kms_track.specs.InStep.{HasStates}
use Rattle.kms_check.specs.Moves.{AcceptedAs, RefusedBy}
use Rattle.kms_core.specs.declared.stores.looking.Decided.TheVariants as decided
use Rattle.kms_core.proofs.Applied.{IsHistoryOf}
use Rattle.kms_course.specs.Deciding.{accepting_answer, accepting_step}
use Rattle.kms_course.proofs.Decided.{may_refuse, no_world, own_taker, steps_own}
use Rattle.kms_course.proofs.Taken.{fresh}
use Rattle.kms_course.proofs.single.deciding.decide_with.Goals as goal

pub next_move-requires-clause-fresh : goal.next_move-requires-clause-fresh
next_move-requires-clause-fresh c = fresh c.args.core.now c.args.context.now c.requires.taken

pub refuse-requires : goal.refuse-requires
refuse-requires c =
    let is : IsHistoryOf c.args.core.now = record { formed = c.is_a_history.ensures.formed; history = c.is_a_history.ensures.history } in
    let refused : RefusedBy c.args.core.now.script.topology c.args.context.now.request c.args.used.now c.args.context.now.states
    c.in-Refuse.why = search rules in
    may_refuse c.args.core.now c.args.context.now c.args.used.now c.in-Refuse.why is c.has_sound_contexts.ensures c.requires.taken
    c.requires.labels c.requires.going refused

pub returns-in_ok-refuse-in-Refuse-clause-answer : goal.returns-in_ok-refuse-in-Refuse-clause-answer
returns-in_ok-refuse-in-Refuse-clause-answer c =
    let is : IsHistoryOf c.args.core.now = record { formed = c.is_a_history.ensures.formed; history = c.is_a_history.ensures.history } in
    let refused : RefusedBy c.args.core.now.script.topology c.args.context.now.request c.args.used.now c.args.context.now.states
    c.in-Refuse.why = search rules in
    record {
      going = c.requires.going;
      labels = c.requires.labels;
      by = step.Refuse c.args.context.now.client;
      decision = decided.Done (reply.Refused c.in-Refuse.why);
      due = inl (record { why = c.in-Refuse.why; refused = refused; is_refusal = refl; says_why = refl });
      answered = c.in_ok-refuse-in-Refuse.ensures.answer;
      history =
          steps_own c.args.core.now c.refuse.new.self c.args.context.now (λ client. step.Refuse client) c.in_ok-refuse-in-Refuse.field-0
          (own_taker c.args.core.now c.args.context.now is c.has_sound_contexts.ensures c.requires.taken)
          c.in_ok-refuse-in-Refuse.ensures.history;
    }

pub returns-then-not-has_states-clause-answer : goal.returns-then-not-has_states-clause-answer
returns-then-not-has_states-clause-answer c =
    let accepted : AcceptedAs c.args.core.now.script.topology c.args.context.now.request c.args.used.now
    c.args.context.now.states c.in-Accept.boxed.value c.in-Accept.resolved = search rules in (
      inr (inr (inr (no_world c.args.core.now c.args.context.now c.args.used.now c.in-Accept.boxed.value
          c.in-Accept.resolved accepted
          (λ has. false≢true (sym c.if-not-has_states.true
          ∙ c.has_states.ensures.1 (subst HasStates (sym c.deref-checked.ensures) has)))))),
      refl,
    )

pub accept-requires-clause-accepted : goal.accept-requires-clause-accepted
accept-requires-clause-accepted c =
    let accepted : AcceptedAs c.args.core.now.script.topology c.args.context.now.request c.args.used.now
    c.args.context.now.states c.in-Accept.boxed.value c.in-Accept.resolved = search rules in
    subst (λ checked. AcceptedAs c.args.core.now.script.topology c.args.context.now.request c.args.used.now
    c.args.context.now.states checked c.in-Accept.resolved) (sym c.deref-checked.ensures) accepted

pub returns-in_ok-decided-in-Accept-clause-answer : goal.returns-in_ok-decided-in-Accept-clause-answer
returns-in_ok-decided-in-Accept-clause-answer c =
    let accepted : AcceptedAs c.args.core.now.script.topology c.args.context.now.request c.args.used.now
    c.args.context.now.states c.in-Accept.boxed.value c.in-Accept.resolved = search rules in
    record {
      going = c.requires.going;
      labels = c.requires.labels;
      by = accepting_step c.args.context.now;
      decision = accepting_answer c.args.core.now c.args.context.now;
      due = inr (record {
        checked = c.in-Accept.boxed.value;
        resolved = c.in-Accept.resolved;
        accepted = accepted;
        is_acceptance = refl;
        says_so = refl;
      });
      answered = c.in_ok-decided-in-Accept.ensures.answer;
      history = c.in_ok-decided-in-Accept.ensures.history;
    }

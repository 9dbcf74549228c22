use Rattle.std.proofs.Common.{◌≡◌, rules, refl, sym, ◌∙◌, inl, inr}
use Rattle.std.proofs.lemmas.Bool.{false≢true}
use Rattle.kms_model.specs.Request.Lookups.{lookups}
use Rattle.kms_core.specs.Decisions.{world}
use Rattle.kms_course.proofs.Decided.{alike_given, of_labels}
use Rattle.kms_course.proofs.single.deciding.decide.Goals as goal

pub returns-then-not-are_of_same-clause-answer : goal.returns-then-not-are_of_same-clause-answer
returns-then-not-are_of_same-clause-answer c =
    let given : c.as_slice.result.now ≡ c.args.used.now = search rules in
    let now : c.as_slice-2.result.now ≡ lookups (world c.args.core.now) c.args.context.now.request = search rules in (
      inr (inl (λ own. false≢true (sym c.if-not-are_of_same.true ∙ c.are_of_same.ensures.1
          (alike_given c.args.core.now c.args.context.now c.args.used.now c.as_slice.result.now c.as_slice-2.result.now given now own)))),
      refl,
    )

pub decide_with-requires-clause-labels : goal.decide_with-requires-clause-labels
decide_with-requires-clause-labels c =
    let given : c.as_slice.result.now ≡ c.args.used.now = search rules in
    let now : c.as_slice-2.result.now ≡ lookups (world c.args.core.now) c.args.context.now.request = search rules in
    of_labels c.args.core.now c.args.context.now c.args.used.now c.as_slice.result.now c.as_slice-2.result.now given now
    (c.are_of_same.ensures.0 c.if-not-are_of_same.false)

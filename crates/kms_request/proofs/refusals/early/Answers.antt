use Rattle.std.proofs.Common.{◌≡◌, ◌∙◌, List, [], Option, Some, None, refl, sym, subst}
use Rattle.std.specs.Prelude.{IsNone}
use Rattle.kms_model.specs.declared.replies.Refusal.{Refusal}
use Rattle.kms_model.specs.declared.scripts.Assign.{Assign}
use Rattle.kms_model.specs.Request.Refusals.{assigns_refusal}
use Rattle.kms_model.proofs.RequestLemmas.{all_allowed, all_settable}
use Rattle.kms_request.specs.Answers.{refusal_number}
use Rattle.kms_request.proofs.refusals.early.Goals as goal

no_number : (refusal : Option Refusal) → IsNone refusal → refusal_number refusal ≡ None
no_number None none = refl
no_number (Some refusal) none = absurd cc

pub returns-clause-allowed : goal.returns-clause-allowed
returns-clause-allowed g c = λ is.
    let t = c.args.topology.now in
    let f = g.L.Looker.meaning c.args.found.now in
    let none = sym c.first_refusal.ensures ∙ no_number c.first_refusal.result is in
    let NoneIn : List Assign → Type 0 = λ xs. assigns_refusal t f [] xs ≡ None in
    all_allowed t f [] c.args.request.now.assigns (subst NoneIn c.as_slice.ensures.value none)

pub returns-clause-settable : goal.returns-clause-settable
returns-clause-settable g c = λ is.
    let f = g.L.Looker.meaning c.args.found.now in
    all_settable c.args.topology.now f c.args.request.now.assigns c.requires (returns-clause-allowed g c is)

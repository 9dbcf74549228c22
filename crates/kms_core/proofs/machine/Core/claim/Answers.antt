use Rattle.std.proofs.Common.{◌∙◌, None, Some}
use Rattle.kms_core.proofs.stores.Histories.{seen}
use Rattle.kms_core.proofs.stores.Seeking.{claim_found, claim_legal, claim_none, few_tails}
use Rattle.kms_core.proofs.machine.Core.claim.Goals as goal

pub first_ready-requires : goal.first_ready-requires
first_ready-requires c = few_tails c.stores.invariant.stands

pub returns-then-stores-clause-answer : goal.returns-then-stores-clause-answer
returns-then-stores-clause-answer c = claim_none (seen c.stores.invariant (c.stores.view_is ∙ c.deref_mut-stores.ensures.value ∙
    c.self.view_is)).stands c.if-stores.true

pub returns-in_default-clause-answer : goal.returns-in_default-clause-answer
returns-in_default-clause-answer c = claim_found None (seen c.stores.invariant (c.stores.view_is ∙ c.deref_mut-stores.ensures.value ∙
    c.self.view_is)).stands c.if-stores.false c.in_default.ensures

pub claim_commit-requires : goal.claim_commit-requires
claim_commit-requires c = claim_legal c.in-Some.commit (seen c.stores.invariant c.stores.view_is).stands c.if-stores.false
    c.in-Some.ensures

pub returns-clause-answer : goal.returns-clause-answer
returns-clause-answer c = claim_found (Some c.in-Some.commit) (seen c.stores.invariant
    (c.stores.view_is ∙ c.deref_mut-stores.ensures.value ∙ c.self.view_is)).stands c.if-stores.false c.in-Some.ensures

use Rattle.std.proofs.Common.{sym, ◌∙◌}
use Rattle.kms_core.proofs.stores.Histories.{seen}
use Rattle.kms_core.proofs.next.Legals.{ended_told}
use Rattle.kms_core.proofs.next.ClientTurns.{client_ended}
use Rattle.kms_core.proofs.machine.Core.client_step.Goals as goal

pub returns-then-stores : goal.returns-then-stores
returns-then-stores c = client_ended c.args.client (seen c.stores.invariant (c.stores.view_is ∙ c.deref-stores.ensures ∙
    c.self.view_is)).stands c.if-stores.true c.requires.low c.requires.high

pub taking_step-requires-clause-going : goal.taking_step-requires-clause-going
taking_step-requires-clause-going c = sym
    (ended_told (seen c.stores.invariant (c.stores.view_is ∙ c.deref-stores.ensures ∙ c.self.view_is)).stands)
    ∙ c.if-stores.false

pub other_step-requires-clause-going : goal.other_step-requires-clause-going
other_step-requires-clause-going c = sym
    (ended_told (seen c.stores.invariant (c.stores.view_is ∙ c.deref-stores.ensures ∙ c.self.view_is)).stands)
    ∙ c.if-stores.false

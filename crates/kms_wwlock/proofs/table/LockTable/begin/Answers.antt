use Rattle.kms_wwlock.specs.Table.{Table}
use Rattle.kms_wwlock.proofs.Meanings.{next_is_fresh, begun_is_doing}
use Rattle.kms_wwlock.proofs.table.LockTable.begin.Goals as goal

-- the ticket is that of no other context
pub returns-clause-taking : goal.returns-clause-taking
returns-clause-taking c =
    let old : Table = record { holders = c.self.inside.holders; contexts = c.self.inside.contexts.items; drawn = c.self.inside.drawn } in
    rw (← c.self.view_is, c.in_ok-push.ensures.items) (begun_is_doing old c.args.client c.self.invariant)

pub returns-clause-fresh : goal.returns-clause-fresh
returns-clause-fresh c =
    let old : Table = record { holders = c.self.inside.holders; contexts = c.self.inside.contexts.items; drawn = c.self.inside.drawn } in
    rw (← c.self.view_is) (next_is_fresh old c.self.invariant)

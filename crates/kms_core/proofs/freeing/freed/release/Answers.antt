use Rattle.std.proofs.Common.{◌∙◌, ap}
use Rattle.kms_core.proofs.stores.StoredCalls.{gives_last, may_give}
use Rattle.kms_core.proofs.freeing.freed.release.Goals as goal

pub give-last-requires : goal.give-last-requires
give-last-requires c = may_give _ (rw c.in-Some.is at c.requires.last)

pub returns-in-Some-clause-given : goal.returns-in-Some-clause-given
returns-in-Some-clause-given c =
    rw c.in-Some.is
    (c.give-last.ensures.given
    ∙ ap (λ fbs. record c.args.things.now { fbs = fbs }) (gives_last c.args.things.now.fbs c.args.id (rw c.in-Some.is at c.requires.last)))

use Rattle.kms_players.proofs.Standing.{attempting_on}
use Rattle.kms_players.proofs.site.Site.attempt.Goals as goal

pub returns-in-Did-clause-knows : goal.returns-in-Did-clause-knows
returns-in-Did-clause-knows g c = attempting_on _ _ _ _ _ _ c.requires.attempting (rw c.in-Did.is at c.in_ok-attempt.ensures.goes_on)
    c.attempt.ensures.serves c.attempt.ensures.stands

pub returns-in-NotYet-clause-knows : goal.returns-in-NotYet-clause-knows
returns-in-NotYet-clause-knows g c = attempting_on _ _ _ _ _ _ c.requires.attempting (rw c.in-NotYet.is at c.in_ok-attempt.ensures.goes_on)
    c.attempt.ensures.serves c.attempt.ensures.stands

use Rattle.kms_device.specs.Turns.{run_seen}
use Rattle.kms_device.proofs.Went.{went_later, went_not}
use Rattle.kms_players.specs.UnderWay.{IsAttempting, IsKnownAt}
use Rattle.kms_players.proofs.Standing.{err_then, ok_attempt, ok_known, ok_told, stands_told}
use Rattle.kms_players.proofs.Waits.{at_told, went_none}
use Rattle.kms_players.proofs.site.Site.turn.Goals as goal

pub returns-in-Attempting-clause-turn : goal.returns-in-Attempting-clause-turn
returns-in-Attempting-clause-turn g c =
    let at : IsAttempting (run_seen c.args.self.now.device.now.script c.args.pass.now) c.args.self.now.client c.args.kept.now
    c.in-Attempting.command = rw c.in-Attempting.is at c.requires.knows in
    ok_attempt _ _ _ _ _ _ _ c.attempt.result (went_not c.args.pass.now) at.may c.attempt.ensures.turn

pub returns-in-At-clause-turn : goal.returns-in-At-clause-turn
returns-in-At-clause-turn g c =
    let at : IsKnownAt (run_seen c.args.self.now.device.now.script c.args.pass.now) c.args.self.now.client c.in-At.place =
    (rw c.in-At.is at c.requires.knows).1 in
    ok_known _ _ _ _ _ _ at.goes_on c.play_at.result c.play_at.ensures.plays

pub play_at-requires : goal.play_at-requires
play_at-requires g c =
    let both = rw c.in-At.is at c.requires.knows in
    record { at = c.requires.at; new = both.0; stands = both.1.stands }

pub play_at-requires-in-Unknown : goal.play_at-requires-in-Unknown
play_at-requires-in-Unknown g c = record {
  at = at_told _ _ _ _ _ c.requires.at c.place-place.ensures;
  new = rw c.in-Unknown.is at c.requires.knows;
  stands = stands_told _ _ _ _ _ c.place-place.ensures;
}

pub returns-in-Unknown-clause-turn : goal.returns-in-Unknown-clause-turn
returns-in-Unknown-clause-turn g c = ok_told _ _ _ _ _ _ c.place-place.ensures _ _ c.play_at-in-Unknown.result
    c.play_at-in-Unknown.ensures.plays

pub returns-in-Unknown-clause-no_step : goal.returns-in-Unknown-clause-no_step
returns-in-Unknown-clause-no_step g c = err_then c.play_at-in-Unknown.result (went_later _ _ _ _ (went_none _ _ _ _ c.place-place.ensures))
    c.play_at-in-Unknown.ensures.no_step

use Rattle.std.proofs.Common.{subst}
use Rattle.kms_players.specs.PlayerTurns.{TickTurn}
use Rattle.kms_players.proofs.tick.VblankTick.play.Goals as goal

pub returns-clause-turn : goal.returns-clause-turn
returns-clause-turn g c = subst (λ s. TickTurn s.device.script s.crtc s.pass c.tick-turn.new.pass c.tick-turn.result) c.self.view_is
    c.tick-turn.ensures

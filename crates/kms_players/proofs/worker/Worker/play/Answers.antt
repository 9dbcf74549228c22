use Rattle.std.proofs.Common.{subst}
use Rattle.kms_players.specs.PlayerTurns.{WorkerTurn}
use Rattle.kms_players.proofs.worker.Worker.play.Goals as goal

pub returns-clause-turn : goal.returns-clause-turn
returns-clause-turn g c = subst (λ s. WorkerTurn s.device.script s.pass s.hand c.work-turn.new.pass c.work-turn.result.1
    c.work-turn.result.0) c.self.view_is c.work-turn.ensures

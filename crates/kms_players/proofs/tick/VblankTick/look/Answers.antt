use Rattle.std.proofs.Common.{ap, subst}
use Rattle.kms_players.specs.Players.{TickState}
use Rattle.kms_players.specs.Took.{Reads}
use Rattle.kms_players.proofs.tick.VblankTick.look.Goals as goal

pub returns-clause-looked : goal.returns-clause-looked
returns-clause-looked g c = record {
  reads = subst (λ s. Reads s.pass c.look.new.pass c.look.result) c.self.view_is c.look.ensures.reads;
  rest = ap (λ (s : TickState). record s { pass = c.look.new.pass }) c.self.view_is;
}

use Rattle.std.proofs.Common.{ap, subst}
use Rattle.kms_players.specs.Players.{ClientState}
use Rattle.kms_players.specs.Took.{Reads}
use Rattle.kms_players.proofs.Waits.{look_keeps}
use Rattle.kms_players.proofs.client.Client.look.Goals as goal

pub returns-clause-looked : goal.returns-clause-looked
returns-clause-looked g c = record {
  reads = subst (λ s. Reads s.pass c.look.new.pass c.look.result) c.self.view_is c.look.ensures.reads;
  rest = ap (λ (s : ClientState). record s { pass = c.look.new.pass }) c.self.view_is;
}

pub invariant_of-self : goal.invariant_of-self
invariant_of-self g c = look_keeps _ _ _ _ _ _ c.look.ensures.reads c.self.invariant

use Rattle.std.proofs.Common.{◌≡◌}
use Rattle.kms_pool.proofs.work.give_turns.Given as goal

abbrev pub invariant-loop-given : goal.invariant-loop-given
invariant-loop-given g l = record {
  name : g.P.Player.name l.participant.player.value ≡ g.P.Player.name l.fn.participant.player.value;
  first : l.given ≡ 0 → l.participant.player.value ≡ l.fn.participant.player.value;
}

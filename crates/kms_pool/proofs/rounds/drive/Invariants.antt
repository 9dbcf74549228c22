use Rattle.std.proofs.Common.{map, IsPermutation}
use Rattle.kms_pool.proofs.rounds.drive.Given as goal

abbrev pub invariant-loop : goal.invariant-loop
invariant-loop g l = IsPermutation (map g.P.Player.name l.fn.players) (map (λ x. g.P.Player.name x.player.value) l.participants.items)

use Rattle.std.proofs.Common.{◌≡◌, ◌++◌, length, map}
use Rattle.std.specs.Vec.Iter.{into_iter_items, into_iter_len}
use Rattle.kms_pool.proofs.rounds.participants_of.Given as goal

abbrev pub invariant-loop-player : goal.invariant-loop-player
invariant-loop-player g l = (map (λ x. x.player.value) l.participants.items ++ into_iter_items l.player-iterator ≡ l.fn.players)
    × (into_iter_len l.player-iterator ≡ length (into_iter_items l.player-iterator))

use Rattle.std.proofs.Common.{◌≡◌, ◌++◌, length, map}
use Rattle.std.specs.Vec.Iter.{into_iter_items, into_iter_len}
use Rattle.kms_pool.proofs.rounds.players_of.Given as goal

abbrev pub invariant-loop-participant : goal.invariant-loop-participant
invariant-loop-participant g l = (l.players.items ++ map (λ x. x.player.value) (into_iter_items l.participant-iterator)
    ≡ map (λ x. x.player.value) l.fn.participants.items)
    × (into_iter_len l.participant-iterator ≡ length (into_iter_items l.participant-iterator))

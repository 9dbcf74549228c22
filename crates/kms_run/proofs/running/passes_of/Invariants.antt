use Rattle.std.proofs.Common.{◌≡◌, ◌++◌, length, map}
use Rattle.std.specs.Vec.Iter.{into_iter_items, into_iter_len}
use Rattle.kms_players.specs.Players.{name_of_pass}
use Rattle.kms_players.specs.AnyPlayers.{pass_of}
use Rattle.kms_run.proofs.running.passes_of.Given as goal

abbrev pub invariant-loop-player : goal.invariant-loop-player
invariant-loop-player g l =
    (map name_of_pass l.passes.items ++ map (λ p. name_of_pass (pass_of p)) (into_iter_items l.player-iterator)
    ≡ map (λ p. name_of_pass (pass_of p)) l.fn.players)
    × (into_iter_len l.player-iterator ≡ length (into_iter_items l.player-iterator))

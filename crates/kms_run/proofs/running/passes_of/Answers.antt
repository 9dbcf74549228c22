use Rattle.std.specs.Vec.Iter.{into_iter_items, into_iter_len}
use Rattle.kms_players.specs.AnyPlayers.{pass_of}
use Rattle.kms_players.specs.Players.{name_of_pass}
use Rattle.kms_run.proofs.Seats.{all_done}
use Rattle.kms_run.proofs.running.passes_of.Goals as goal

pub returns : goal.returns
returns g c =
    all_done name_of_pass (λ p. name_of_pass (pass_of p)) c.loop-player.passes.items c.from_vec.result
    (into_iter_items c.loop-player.player-iterator)
    (into_iter_len c.loop-player.player-iterator) _ c.loop-player.invariant.0 c.in-None.ensures.steps.0
    c.loop-player.invariant.1 c.from_vec.ensures

use Rattle.std.proofs.Common.{◌≡◌}
use Rattle.kms_players.specs.Players.{name_of_pass}
use Rattle.kms_thread_tests.proofs.players.Players.finish.Given as goal

abbrev pub invariant-loop : goal.invariant-loop
invariant-loop g l =
    (name_of_pass l.self.one.pass ≡ name_of_pass l.fn.self.one.pass)
    × (name_of_pass l.self.other.pass ≡ name_of_pass l.fn.self.other.pass)
    × (name_of_pass l.self.worker.pass ≡ name_of_pass l.fn.self.worker.pass)
    × (name_of_pass l.self.tick.pass ≡ name_of_pass l.fn.self.tick.pass)

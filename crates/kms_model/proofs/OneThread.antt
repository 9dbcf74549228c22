-- What clients' commands are answered on the device of one thread, where the clients execute in rounds.
use Rattle.std.specs.Prelude.{ℕ, ◌+◌, List, [], ◌∷◌, ◌++◌, length, Option, Some, None, max, slice_get}
use Rattle.std.specs.List.{flat_map, range_with_len}
use Rattle.kms_model.specs.declared.objects.Topology.{Topology}
use Rattle.kms_model.specs.declared.replies.Reply.{Reply}
use Rattle.kms_model.specs.declared.scripts.Command.{Command}
use Rattle.kms_model.specs.declared.worlds.World.{World}
use Rattle.kms_model.specs.Device.Execution.{execute}
use Rattle.kms_model.specs.Device.World.{start}

-- a client's command, where it has one
abbrev turn_of : ℕ → Option Command → List (ℕ × Command)
turn_of client None = []
turn_of client (Some c) = (client, c) ∷ []

-- one round: each client that is not at its end executes its command of this place
abbrev round : ℕ → ℕ → List (List Command) → List (ℕ × Command)
round place client [] = []
round place client (commands ∷ rest) = turn_of client (slice_get commands place) ++ round place (client + 1) rest

abbrev longest : List (List Command) → ℕ
longest [] = 0
longest (commands ∷ rest) = max (length commands) (longest rest)

-- the replies to commands executed one after the other
unfoldable pub answers : Topology → World → List (ℕ × Command) → List Reply
answers t w [] = []
answers t w (turn ∷ turns) =
    let executed = execute t w turn.0 turn.1 in
    executed.reply ∷ answers t executed.world turns

-- the replies to all commands of clients, in the order in which they are executed
abbrev pub replies : Topology → List (List Command) → List Reply
replies t clients = answers t (start t) (flat_map (λ place. round place 1 clients) (range_with_len 0 (longest clients)))

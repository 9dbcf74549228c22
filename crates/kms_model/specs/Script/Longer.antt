-- Scripts with more commands of their last client: what a script becomes whose device is turned off and brought back behind it, and
-- the history of that. This device's own.
use Rattle.std.specs.Prelude.{◌≡◌, ℕ, ◌≤◌, true, List, [], ◌∷◌, ◌++◌, length, max, None}
use Rattle.kms_model.specs.declared.replies.Step.{Step}
use Rattle.kms_model.specs.declared.scripts.Command.{Command}
use Rattle.kms_model.specs.declared.scripts.Command.TheVariants.{Atomic}
use Rattle.kms_model.specs.declared.scripts.Script.{Script}
use Rattle.kms_model.specs.declared.worlds.World.{World}
use Rattle.kms_model.specs.Machine.Histories.{at, is_drained}
use Rattle.kms_model.specs.Order.Rounds.{IsFinished, IsOne}
use Rattle.kms_model.specs.Order.Suspending.{off_request, on_request, closed_object}

-- the clients with more commands of the last one, or a client of these commands where there is none
abbrev pub at_last : List Command → List (List Command) → List (List Command)
at_last more [] = more ∷ []
at_last more (commands ∷ []) = (commands ++ more) ∷ []
at_last more (commands ∷ next ∷ clients) = commands ∷ at_last more (next ∷ clients)

abbrev pub with_commands : List Command → Script → Script
with_commands more s = record s { clients = at_last more s.clients }

-- the number of the client that gets them, counted from 1, and the commands that it has
abbrev pub last_client : Script → ℕ
last_client s = max 1 (length s.clients)

abbrev pub commands_of_last : List (List Command) → List Command
commands_of_last [] = []
commands_of_last (commands ∷ []) = commands
commands_of_last (commands ∷ next ∷ clients) = commands_of_last (next ∷ clients)

-- the most commands of a client of a script whose device is to be turned off and brought back, so that two more fit behind the last
-- client's
abbrev pub most_before_two : ℕ
most_before_two = 4094

abbrev pub HasRoomForTwo : Script → Type 0
HasRoomForTwo s = length (commands_of_last s.clients) ≤ most_before_two

-- A script with the request that turns its device off and the one that brings it back, both of them for the device as it is in one
-- world: the second is made before the first is done.
abbrev pub extended : Script → World → Script
extended s w = with_commands (Atomic (off_request s.topology w) ∷ Atomic (on_request s.topology w) ∷ []) s

-- the world that a history leaves
abbrev pub world_after : Script → List Step → World
world_after s h = (at s h).device.world

-- the script that goes on behind a history of a script
abbrev pub extended_after : Script → List Step → Script
extended_after s h = extended s (world_after s h)

-- The first history is the one that one thread makes of the script; it is drained, and nothing that it shows is closed. The other
-- begins with it, and goes on to the end of the longer script.
pub record IsSlept (s : Script) (h slept : List Step) : Type 0 where
  pub one : IsOne s h
  pub drained : is_drained s (at s h) ≡ true
  pub none_closed : closed_object s.topology (world_after s h) ≡ None
  pub continued : IsFinished (extended_after s h) h slept

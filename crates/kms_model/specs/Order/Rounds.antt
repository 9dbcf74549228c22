-- The order in which one thread does the steps of all actors: rounds, and the history that they end in. This device's own.
use Rattle.std.specs.Prelude.{◌≡◌, ℕ, zero, suc, ◌==◌, List, [], length, reverse, Bool, true, if◌then◌else◌}
use Rattle.std.specs.List.{fold}
use Rattle.kms_model.specs.declared.replies.Step.{Step}
use Rattle.kms_model.specs.declared.replies.Step.TheVariants.{Stall}
use Rattle.kms_model.specs.declared.scripts.Script.{Script}
use Rattle.kms_model.specs.Machine.Histories.{at, client_numbers, legal}
use Rattle.kms_model.specs.Order.Turns.{Progress, does, settles, turn}

-- A round: each client has its turn, in order of number, and then the tails settle once more.
unfoldable pub round : Script → Progress → Progress
round s run = settles s (fold (turn s) run (client_numbers s))

-- a round has no step
abbrev pub is_still : Script → Progress → Bool
is_still s run = length (round s run).steps == length run.steps

-- rounds until one has no step, at most so many
unfoldable pub rounds : Script → ℕ → Progress → Progress
rounds s zero run = run
rounds s (suc most) run = if is_still s run then run else rounds s most (round s run)

-- a dead history is ended
abbrev pub ends : Script → Progress → Progress
ends s run = if legal s run.machine Stall then does s run Stall else run

abbrev pub run_of : Script → List Step → Progress
run_of s h = record { steps = reverse h; machine = at s h }

-- a history that is continued by at most so many rounds, and ended where it is dead
abbrev pub finished_within : Script → ℕ → List Step → List Step
finished_within s most h = reverse (ends s (rounds s most (run_of s h))).steps

-- A history is continued to its end: by rounds until one has no step, and by `stall` where it is dead.
pub record IsFinished (s : Script) (h finished : List Step) : Type 0 where
  pub most : ℕ
  pub still : is_still s (rounds s most (run_of s h)) ≡ true
  pub steps : finished ≡ finished_within s most h

-- the history that one thread makes of a script
abbrev pub IsOne : Script → List Step → Type 0
IsOne s h = IsFinished s [] h

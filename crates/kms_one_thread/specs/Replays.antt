-- What a schedule that is replayed behind a history comes to.
use Rattle.std.specs.Prelude.{◌≡◌, ◌≤◌, ℕ, ◌-◌, List, length, take, Option, Some}
use Rattle.kms_model.specs.declared.replies.Step.{Step}
use Rattle.kms_model.specs.Machine.Histories.{first_illegal}
use Rattle.kms_core.specs.Run.{Run, gains, machine}
use Rattle.kms_one_thread.specs.declared.replaying.ReplayError.{ReplayError}
use Rattle.kms_one_thread.specs.declared.replaying.ReplayError.TheVariants.{Illegal, NoMemory}

-- the place of the first step that is not legal after the history and the steps before it, counted from 1
abbrev pub illegal_behind : Run → List Step → Option ℕ
illegal_behind r steps = first_illegal r.script (machine r) 1 steps

-- so many steps of the schedule are done
pub record Did (old : Run) (steps : List Step) (new : Run) : Type 0 where
  pub done : ℕ
  pub within : done ≤ length steps
  pub history : new ≡ gains old (take done steps)

-- the place is that of the first step that is not legal, and the steps before it are done
pub record StopsAt (old : Run) (steps : List Step) (new : Run) (place : ℕ) : Type 0 where
  pub first : illegal_behind old steps ≡ Some place
  pub history : new ≡ gains old (take (place - 1) steps)

-- a step is not legal, or memory ran out
abbrev pub Stops : Run → List Step → Run → ReplayError → Type 0
Stops old steps new (Illegal place) = StopsAt old steps new place
Stops old steps new NoMemory = Did old steps new

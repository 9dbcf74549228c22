-- What the order of one thread makes of a core. This device's own.
use Rattle.std.specs.Prelude.{◌≡◌, ◌++◌, ◌-◌, ◌^◌, ℕ, List}
use Rattle.kms_model.specs.declared.replies.Step.{Step}
use Rattle.kms_model.specs.Machine.State.{first_machine}
use Rattle.kms_model.specs.Order.Rounds.{run_of}
use Rattle.kms_model.specs.Order.Turns.{Progress}
use Rattle.kms_laws.specs.Ends.{moves_in}
use Rattle.kms_core.specs.Run.{Run}

-- the history of a core, and the machine after it
abbrev pub progress : Run → Progress
progress r = run_of r.script r.steps

-- the script stays, and the history becomes a longer one, or stays
pub record ExtendsRun (old new : Run) : Type 0 where
  pub script : new.script ≡ old.script
  pub more : List Step
  pub steps : new.steps ≡ old.steps ++ more

-- a history has less than 2^53 steps that are no vblanks without GO: how many it may still have
abbrev pub moves_left : Run → ℕ
moves_left r = 2 ^ 53 - moves_in r.script (first_machine r.script.topology) r.steps

-- What a call of the device does. That calls take turns, and what a pass has seen, are this device's own.
use Rattle.std.specs.Prelude.{◌≡◌, ℕ, ◌+◌, ◌-◌, true, List, ◌++◌, length}
use Rattle.std.specs.Fn.{FnOnceReturnsAtMut, Once}
use denote.Ref.{MutBor}
use Rattle.kms_model.specs.declared.replies.Step.{Step}
use Rattle.kms_model.specs.declared.scripts.Script.{Script}
use Rattle.kms_model.specs.Machine.Histories.{is_history}
use Rattle.kms_model.specs.Script.WellFormed.{IsWellFormed}
use Rattle.kms_core.specs.Run.{Run}
use Rattle.kms_histlock.specs.Passes.{IsFound, LockName, PassState}
use Rattle.kms_laws.specs.Blankings.{blankings}
use Rattle.kms_device.specs.Steps.{NeverEnds, owner}

-- what contracts see of a device: its lock's name, how many passes it was made with, and its script
pub record SharedDevice : Type 0 where
  pub lock : LockName Script
  pub seats : ℕ
  pub script : Script

-- what contracts see of a pass of a device
abbrev pub DevicePass : Type 0
DevicePass = PassState Step Script

-- the script with the history that a pass has seen
abbrev pub run_seen : Script → DevicePass → Run
run_seen script pass = record { script = script; steps = pass.seen }

-- the script is well formed, and the steps are a history of it that was not ended
pub record IsOpen (r : Run) : Type 0 where
  pub formed : IsWellFormed r.script
  pub history : is_history r.script r.steps ≡ true
  pub goes_on : NeverEnds r.steps

-- What a pass may find at its turn: a history of the script that begins with what the pass has seen, has none of its client's steps
-- behind that, and reaches the numbers that the pass has read.
pub record MayBeFound (script : Script) (pass : DevicePass) (found : Run) : Type 0 where
  pub history : IsFound owner blankings pass found.steps
  pub same : found.script ≡ script
  pub is_open : IsOpen found

-- A call took the turn once. Of the history that it found `says` holds. It added these steps, which the pass has then made, and the
-- pass has seen what it left, which is a history of the script.
pub record DeviceTurn (script : Script) (says : Run → Type 0) (steps : List Step) (before after : DevicePass) : Type 0 where
  pub found : Run
  pub finds : MayBeFound script before found
  pub said : says found
  pub now : after ≡ record before { seen = found.steps ++ steps; made = before.made + length steps; turns = before.turns + 1 }
  pub left : IsOpen (record found { steps = found.steps ++ steps })

-- A call of the machine was made in one turn: `f` at what was found gave `r` and left a history.
pub record Called {F R : Type 0} (script : Script) (g : Once F (MutBor Run × Unit {0}) (R × (MutBor Run × Unit {0}))) (f : F) (r : R)
    (before after : DevicePass) : Type 0 where
  pub found : Run
  pub left : Run
  pub finds : MayBeFound script before found
  pub called : FnOnceReturnsAtMut g f found r left
  pub now : after ≡ record before {
    seen = left.steps;
    made = before.made + (length left.steps - length found.steps);
    turns = before.turns
        + 1;
  }
  pub is_open : IsOpen left

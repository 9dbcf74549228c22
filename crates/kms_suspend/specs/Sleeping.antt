-- A machine whose device was turned off and brought back.
use Rattle.std.specs.Prelude.{◌≡◌, true}
use Rattle.kms_model.specs.Machine.Histories.{is_drained}
use Rattle.kms_model.specs.Order.Rounds.{IsOne}
use Rattle.kms_model.specs.Order.SleepAndWake.{SleepsAndWakes}
use Rattle.kms_model.specs.Script.Longer.{HasRoomForTwo, IsSlept, extended_after}
use Rattle.kms_core.specs.Run.{Run, machine}

-- A machine may sleep: its history is the one that one thread makes of its script, and is drained, and the script has room for
-- both requests.
pub record MaySleep (r : Run) : Type 0 where
  pub one : IsOne r.script r.steps
  pub drained : is_drained r.script (machine r) ≡ true
  pub room : HasRoomForTwo r.script

-- What it is afterwards: the machine of the longer script, whose history goes on behind its own to the end, with all that is
-- promised of that.
pub record HasWoken (before after : Run) : Type 0 where
  pub script : after.script ≡ extended_after before.script before.steps
  pub slept : IsSlept before.script before.steps after.steps
  pub wakes : SleepsAndWakes before.script after.script before.steps after.steps

-- Scripts with more commands: each history of a script is one of each longer script. This device's own.
use Rattle.std.specs.Prelude.{◌≡◌, true, false, List, [], ◌∷◌, ◌++◌, Some}
use Rattle.kms_model.specs.declared.replies.Step.{Step}
use Rattle.kms_model.specs.declared.scripts.Command.{Command}
use Rattle.kms_model.specs.declared.scripts.Script.{Script}
use Rattle.kms_model.specs.Device.Serial.{Entry, command_of}
use Rattle.kms_model.specs.Machine.Histories.{at, is_history}
use Rattle.kms_model.specs.Script.Longer.{with_commands}

-- A script is longer than another of the same device: each command of the other one is there, of the same client and with the
-- same number, and names its labels by the same numbers. The longer one may have more commands, clients and names.
pub record IsLonger (s longer : Script) : Type 0 where
  pub topology : longer.topology ≡ s.topology
  pub commands : (e : Entry) (c : Command) → command_of s e ≡ Some c → command_of longer e ≡ Some c

-- a history of a script is one of a longer script too, and leaves the same machine
pub record StaysHistory (s longer : Script) (h : List Step) : Type 0 where
  pub history : is_history longer h ≡ true
  pub machine : at longer h ≡ at s h

-- So it is of each history that was not ended by `stall`: whether a history is dead is told by the commands that are left.
abbrev pub HistoriesStay : Type 0
HistoriesStay =
    (s longer : Script) (h : List Step) → IsLonger s longer → is_history s h ≡ true → (at s h).stalled ≡ false
    → StaysHistory s longer h

-- A script becomes longer by commands behind all of its last client's, or of a client where it has none; and by a client more.
pub record AddedIsLonger : Type 0 where
  pub behind_last : (s : Script) (more : List Command) → IsLonger s (with_commands more s)
  pub own_client : (s : Script) (more : List Command) → IsLonger s (record s { clients = s.clients ++ more ∷ [] })

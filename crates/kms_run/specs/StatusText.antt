-- The number and the text of a status. This device's own.
use Rattle.std.specs.Prelude.{ℕ, List, [], ◌++◌, codes}
use Rattle.std.specs.Fmt.{decimal}
use Rattle.kms_model.specs.declared.scripts.Why.{Why}
use Rattle.kms_model.specs.declared.scripts.Why.TheVariants.{Bytes, Cut, Form, Label, Limit}
use Rattle.kms_one_thread.specs.declared.ending.End.{End}
use Rattle.kms_one_thread.specs.declared.ending.End.TheVariants as end
use Rattle.kms_run.specs.declared.status.Status.{Status}
use Rattle.kms_run.specs.declared.status.Status.TheVariants as status

abbrev pub status_number : Status → ℕ
status_number status.Ok = 0
status_number status.ReadFault = 1
status_number status.WriteFault = 2
status_number status.Usage = 3
status_number (status.Script line why) = 4
status_number status.Stalled = 5
status_number status.NoMemory = 6
status_number (status.Illegal at) = 7
status_number status.Open = 8
status_number (status.AuditNo line) = 9
status_number (status.Closed object) = 10

abbrev pub why_text : Why → List ℕ
why_text Bytes = codes "bytes"
why_text Cut = codes "cut"
why_text Form = codes "form"
why_text Label = codes "label"
why_text Limit = codes "limit"

abbrev pub status_text : Status → List ℕ
status_text status.Ok = []
status_text status.ReadFault = codes "kms: read fault"
status_text status.WriteFault = codes "kms: write fault"
status_text status.Usage = codes "kms: usage: kms one, replay, run, gen, audit, legacy, suspend"
status_text (status.Script line why) = codes "kms: line " ++ decimal line ++ codes ": " ++ why_text why
status_text status.Stalled = codes "kms: stalled"
status_text status.NoMemory = codes "kms: out of memory"
status_text (status.Illegal at) = codes "kms: event " ++ decimal at ++ codes " is not legal"
status_text status.Open = codes "kms: open"
status_text (status.AuditNo line) = codes "kms: audit: line " ++ decimal line
status_text (status.Closed object) = codes "kms: closed " ++ decimal object.0

-- the status of a run whose report is written
abbrev pub status_of : End → Status
status_of end.Drained = status.Ok
status_of end.Dead = status.Stalled
status_of end.Open = status.Open

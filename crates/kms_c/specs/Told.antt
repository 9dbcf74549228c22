-- What a call tells its caller, and what it leaves in the caller's memory. This device's own.
use Rattle.std.specs.Prelude.{ℕ, ◌++◌, List, length, drop, nat_lt, if◌then◌else◌}
use Rattle.kms_model.specs.declared.objects.ObjId.{ObjId}
use Rattle.kms_model.specs.declared.scripts.Why.{Why}
use Rattle.kms_model.specs.declared.scripts.Why.TheVariants.{Bytes, Cut, Form, Label, Limit}
use Rattle.kms_run.specs.StatusText.{status_number}
use Rattle.kms_run.specs.declared.status.Status.{Status}
use Rattle.kms_run.specs.declared.status.Status.TheVariants as status
use Rattle.kms_c.specs.declared.told.Told.{Told}

abbrev pub why_number : Why → ℕ
why_number Bytes = 1
why_number Cut = 2
why_number Form = 3
why_number Label = 4
why_number Limit = 5

-- an ending with nothing but its status, whose number is that of the program
abbrev pub status_told : Status → Told
status_told s = record { status = status_number s; line = 0; why = 0; object = 0; place = 0; length = 0 }

abbrev pub fault_told : ℕ → Why → Told
fault_told line why = record (status_told (status.Script line why)) { line = line; why = why_number why }

abbrev pub illegal_told : ℕ → Told
illegal_told place = record (status_told (status.Illegal place)) { place = place }

abbrev pub wrong_told : ℕ → Told
wrong_told line = record (status_told (status.AuditNo line)) { line = line }

abbrev pub closed_told : ObjId → Told
closed_told object = record (status_told (status.Closed object)) { object = object.0 }

-- a text of so many bytes that stands in the caller's memory
abbrev pub written_told : Status → ℕ → Told
written_told s count = record (status_told s) { length = count }

-- a text that needs so much room, and has less
abbrev pub cut_told : ℕ → Told
cut_told count = written_told status.WriteFault count

-- what is told of a text, by the room for it
abbrev pub text_told : Status → List ℕ → List ℕ → Told
text_told s text before = if nat_lt (length before) (length text) then cut_told (length text) else written_told s (length text)

-- The caller's memory behind the call: as it was, where it has too little room; else the text at its front, and all else as it was.
abbrev pub with_text : List ℕ → List ℕ → List ℕ
with_text text before = if nat_lt (length before) (length text) then before else text ++ drop (length text) before

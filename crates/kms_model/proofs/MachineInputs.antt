-- What an input's worked history is compared with: the report that one thread makes of it, that of its schedule, or where the
-- schedule is not legal.
use Rattle.std.specs.Prelude.{ℕ, true, false, List, [], Option, None, Result, Ok, Err, if◌then◌else◌}
use Rattle.kms_model.specs.declared.scripts.Part.TheVariants as part
use Rattle.kms_model.specs.declared.scripts.Script.{Script}
use Rattle.kms_model.specs.Machine.Histories.{is_history, illegal_at}
use Rattle.kms_model.specs.Order.Rounds.{finished_within}
use Rattle.kms_model.specs.Report.History.{Options, text}
use Rattle.kms_model.specs.Script.InputLines.{Fault}
use Rattle.kms_model.specs.Script.Schedules.{Parts, input_of}

abbrev pub plain : Options
plain = record { trace = false; ppm = false }

abbrev pub traced : Options
traced = record { trace = true; ppm = false }

abbrev pub pixmaps : Options
pixmaps = record { trace = false; ppm = true }

-- the report that one thread makes of a script, in at most 64 rounds
abbrev pub report_of_script : Options → Script → List ℕ
report_of_script options s = text s (finished_within s 64 []) options

abbrev pub report_of_one : Options → Result Parts Fault → List ℕ
report_of_one options (Err fault) = []
report_of_one options (Ok parts) = report_of_script options parts.script

-- the same of the script that an input spells
abbrev pub one : Options → List ℕ → List ℕ
one options bytes = report_of_one options (input_of part.Script bytes)

abbrev pub report_of_schedule : Options → Result Parts Fault → List ℕ
report_of_schedule options (Err fault) = []
report_of_schedule options (Ok parts) = if is_history parts.script parts.steps then text parts.script parts.steps options else []

-- the report of a script's schedule, where it is a history
abbrev pub replayed : Options → List ℕ → List ℕ
replayed options bytes = report_of_schedule options (input_of part.Schedule bytes)

abbrev pub illegal_in : Result Parts Fault → Option ℕ
illegal_in (Err fault) = None
illegal_in (Ok parts) = illegal_at parts.script parts.steps

-- the place of the first step of a schedule that is not legal
abbrev pub not_legal_at : List ℕ → Option ℕ
not_legal_at bytes = illegal_in (input_of part.Schedule bytes)

-- What a reader may answer.
use Rattle.std.specs.Prelude.{◌≡◌, ℕ, List, Result, Ok, Err}
use Rattle.kms_model.specs.declared.scripts.Command.{Command}
use Rattle.kms_model.specs.declared.scripts.Why.{Why}
use Rattle.kms_model.specs.declared.scripts.Why.TheVariants.{Bytes, Cut, Form, Label, Limit}
use Rattle.kms_script.specs.declared.one_line.LineError.{LineError}
use Rattle.kms_script.specs.declared.one_line.LineError.TheVariants as refusals
use Rattle.kms_model.specs.declared.objects.Topology.{Topology}
use Rattle.kms_model.specs.declared.replies.Step.{Step}
use Rattle.kms_model.specs.declared.scripts.Script.{Script}
use Rattle.kms_model.specs.Script.InputLines.{Fault}
use Rattle.kms_model.specs.Script.Schedules.{Parts}
use Rattle.kms_model.specs.Script.WholeInput.{Draft, topology_in}
use Rattle.kms_script.specs.declared.devices.TopologyRead.{TopologyRead}
use Rattle.kms_script.specs.declared.faults.ParseError.{ParseError}
use Rattle.kms_script.specs.declared.faults.ParseError.TheVariants as errors
use Rattle.kms_script.specs.declared.inputs.Parsed.{Parsed}
use Rattle.kms_script.specs.declared.stop.Stop.{Stop}
use Rattle.kms_script.specs.declared.stop.Stop.TheVariants as stops

-- What was read, as the definitions see it, exactly where that is stated, and a fault exactly where that fault is; want
-- of memory may come anywhere.
abbrev pub Gives : {A B : Type 0} → (A → B) → Result A ParseError → Result B Fault → Type 0
Gives seen (Ok x) stated = stated ≡ Ok (seen x)
Gives seen (Err (errors.Fault line why)) stated = stated ≡ Err (record { line = line; why = why })
Gives seen (Err errors.NoMemory) stated = Unit {0}

-- a script with what follows it
abbrev pub parts_of : Script → List Step → ℕ → Parts
parts_of s steps rest = record { script = s; steps = steps; rest = rest }

abbrev pub parts_in : Parsed → Parts
parts_in p = parts_of p.script p.steps p.rest

-- the device that lines spell, and the place behind them
abbrev pub device_in : Draft → TopologyRead
device_in d = record { version = d.names.profile; topology = topology_in d; rest = d.size }

-- What a reader of a device at the front of an input answers.
abbrev pub GivesDevice : Result TopologyRead ParseError → Result (Topology × ℕ) Fault → Type 0
GivesDevice (Ok r) stated = (r.version ≡ r.topology.profile) × (stated ≡ Ok (r.topology, r.rest))
GivesDevice (Err (errors.Fault line why)) stated = stated ≡ Err (record { line = line; why = why })
GivesDevice (Err errors.NoMemory) stated = Unit {0}

-- The same of a line's command, with the names after it.
abbrev pub GivesCommand : Result Command LineError → Result (Command × List (List ℕ)) Why → List (List ℕ) → Type 0
GivesCommand (Ok c) stated after = stated ≡ Ok (c, after)
GivesCommand (Err refusals.Form) stated after = stated ≡ Err Form
GivesCommand (Err refusals.Label) stated after = stated ≡ Err Label
GivesCommand (Err refusals.Limit) stated after = stated ≡ Err Limit
GivesCommand (Err refusals.NoMemory) stated after = Unit {0}

-- the error of a line by what stopped its reader: no line of a command has another fault than these three
abbrev pub line_error : Stop → LineError
line_error (stops.Fault Label) = refusals.Label
line_error (stops.Fault Limit) = refusals.Limit
line_error (stops.Fault Form) = refusals.Form
line_error (stops.Fault Bytes) = refusals.Form
line_error (stops.Fault Cut) = refusals.Form
line_error stops.NoMemory = refusals.NoMemory

-- What a reader of one line answers, with the names before and after it.
use Rattle.std.specs.Prelude.{◌≡◌, Result, Ok, Err, List, ℕ, ⊤}
use Rattle.kms_model.specs.declared.scripts.Command.{Command}
use Rattle.kms_model.specs.declared.scripts.Why.{Why}
use Rattle.kms_model.specs.declared.scripts.Why.TheVariants.{Label, Limit}
use Rattle.kms_model.specs.Script.CommandLines.{Names, Read, command_read, is_over, or_form, unless}
use Rattle.kms_script.specs.declared.stop.Stop.{Stop}
use Rattle.kms_script.specs.declared.stop.Stop.TheVariants as stops

-- a command that was read, or its first fault in the order Form, Label, Limit
abbrev pub checked : Read → Result (Command × Names) Why
checked read = or_form read (λ c. unless c.1.is_twice Label (unless (is_over c.0) Limit (Ok c)))

-- the command of a line, with the names after it, or the line's first fault
abbrev pub line_of : Names → List ℕ → Result (Command × Names) Why
line_of names text = checked (command_read names text)

-- A command exactly where it is stated with these names after it, and a fault exactly where that fault is; want of
-- memory may come anywhere.
abbrev pub GivesLine : Result Command Stop → Result (Command × Names) Why → Names → Type 0
GivesLine (Ok c) stated after = stated ≡ Ok (c, after)
GivesLine (Err (stops.Fault why)) stated after = stated ≡ Err why
GivesLine (Err stops.NoMemory) stated after = ⊤

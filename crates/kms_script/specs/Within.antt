-- Inputs whose clients may have fewer commands than others', with what follows their scripts.
use Rattle.std.specs.Prelude.{ℕ, ◌+◌, nat_lt, List, [], ◌∷◌, length, Result, Err, if◌then◌else◌}
use Rattle.kms_model.specs.declared.scripts.Part.{Part}
use Rattle.kms_model.specs.declared.scripts.Why.TheVariants.{Limit}
use Rattle.kms_model.specs.Script.FewerCommands.{within}
use Rattle.kms_model.specs.Script.InputLines.{Row, Fault, rows_of, input_limit}
use Rattle.kms_model.specs.Script.Schedules.{Parts, at_end_of_lines, behind_script, ends_script}
use Rattle.kms_model.specs.Script.WholeInput.{Draft, blank_draft, line_after, or_fault}

-- lines that follow lines, of an input of a size, of clients with at most so many commands
unfoldable pub parts_within : ℕ → Part → ℕ → Draft → ℕ → List Row → Result Parts Fault
parts_within most p size d line [] = at_end_of_lines p size d line
parts_within most p size d line (row ∷ rows) =
    if ends_script p d row then behind_script p size d line row rows
    else or_fault line (within most (line_after d row)) (λ next. parts_within most p size next (line + 1) rows)

-- what an input spells, of clients with at most so many commands, or its first fault
unfoldable pub input_within_of : ℕ → Part → List ℕ → Result Parts Fault
input_within_of most p bytes =
    if nat_lt input_limit (length bytes) then Err (record { line = 0; why = Limit })
    else parts_within most p (length bytes) blank_draft 1 (rows_of bytes)

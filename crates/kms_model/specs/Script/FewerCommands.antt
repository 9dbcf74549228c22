-- Inputs whose clients may have fewer commands than others', so that commands can be added.
use Rattle.std.specs.Prelude.{ℕ, ◌+◌, nat_lt, List, [], ◌∷◌, length, Result, Ok, Err, if◌then◌else◌}
use Rattle.kms_model.specs.declared.scripts.Script.{Script}
use Rattle.kms_model.specs.declared.scripts.Why.TheVariants.{Limit}
use Rattle.kms_model.specs.Script.CommandLines.{unless}
use Rattle.kms_model.specs.Script.InputLines.{Row, Fault, rows_of, input_limit}
use Rattle.kms_model.specs.Script.WholeInput.{Draft, Lined, blank_draft, drafted, line_after, lines_after, or_fault}

-- what a line gives, where the present client then has at most so many commands
abbrev pub within : ℕ → Lined → Lined
within most (Ok d) = unless (nat_lt most (length d.commands)) Limit (Ok d)
within most (Err why) = Err why

-- lines that follow lines, of clients with at most so many commands: any other fault of a line comes before that limit
unfoldable pub lines_within : ℕ → Draft → ℕ → List Row → Result Draft Fault
lines_within most d line [] = lines_after d line []
lines_within most d line (row ∷ rows) = or_fault line (within most (line_after d row)) (λ next. lines_within most next (line + 1) rows)

-- the script that the bytes spell, of clients with at most so many commands, or their first fault; a fault at line 0 is of the
-- input's size
unfoldable pub input_within : ℕ → List ℕ → Result Script Fault
input_within most bytes =
    if nat_lt input_limit (length bytes) then Err (record { line = 0; why = Limit })
    else drafted (lines_within most blank_draft 1 (rows_of bytes))

-- Scripts with older calls, as bytes: the lines of the device, at most one client, and of its commands a call in place of
-- each request. The grammar is that of scripts, line by line, with the same limits.
use Rattle.std.specs.Prelude.{◌≡◌, ℕ, ◌+◌, not, ◌&&◌, ◌||◌, nat_lt, nat_le, List, [], ◌∷◌, ◌++◌, length, Option, Some, None, option_map}
use Rattle.std.specs.Prelude.{Result, Ok, Err, if◌then◌else◌}
use Rattle.std.specs.List.{list_all}
use Rattle.std.specs.Result.{result_ok}
use Rattle.kms_model.specs.declared.legacy.LegacyCommand.{LegacyCommand}
use Rattle.kms_model.specs.declared.legacy.LegacyScript.{LegacyScript}
use Rattle.kms_model.specs.declared.scripts.Why.{Why}
use Rattle.kms_model.specs.declared.scripts.Why.TheVariants.{Bytes, Cut, Label, Limit}
use Rattle.kms_model.specs.Legacy.LegacyCalls.{legacy_command_read}
use Rattle.kms_model.specs.Script.CommandLines.{or_form, unless}
use Rattle.kms_model.specs.Script.Grammar.{is_printable}
use Rattle.kms_model.specs.Script.InputLines.{Row, Fault, rows_of, input_limit}
use Rattle.kms_model.specs.Script.WholeInput.{Draft, Lined, blank_draft, is_nil, missing_line, script_in, script_line, sized, topology_in}
use Rattle.kms_model.specs.Script.Words.{◌>>=◌}

-- what the lines so far spell
pub record LegacyDraft : Type 0 where
  -- what those up to `client` spell, with the names and the bytes of all lines
  pub draft : Draft
  -- the commands of the client
  pub commands : List LegacyCommand

-- what no line spells
abbrev pub blank_legacy_draft : LegacyDraft
blank_legacy_draft = record { draft = blank_draft; commands = [] }

-- Lines, each after the lines before it

abbrev pub LegacyLined : Type 0
LegacyLined = Result LegacyDraft Why

-- commands behind such lines
abbrev pub followed_by : List LegacyCommand → Lined → LegacyLined
followed_by commands (Ok d) = Ok (record { draft = d; commands = commands })
followed_by commands (Err why) = Err why

-- A command, or a call: at most 4096 of them, and 4096 labels in all. A second `client` is none, and neither is a request.
unfoldable pub legacy_command_line : LegacyDraft → List ℕ → LegacyLined
legacy_command_line d text =
    or_form (legacy_command_read (topology_in d.draft) d.draft.names text) (λ c.
    unless c.1.is_twice Label
    (unless (nat_le 4096 (length d.commands) || nat_lt 4096 c.1.made) Limit
    (Ok (record { draft = record d.draft { names = c.1 }; commands = d.commands ++ c.0 ∷ [] }))))

-- up to `client` a line is one of scripts
unfoldable pub legacy_line : LegacyDraft → List ℕ → LegacyLined
legacy_line d text = if d.draft.has_client then legacy_command_line d text else followed_by [] (script_line d.draft text)

-- some bytes more, where a script may have them
abbrev pub legacy_sized : ℕ → LegacyLined → LegacyLined
legacy_sized n (Ok d) = followed_by d.commands (sized n (Ok d.draft))
legacy_sized n (Err why) = Err why

-- a line, or its first fault in the order Bytes, Cut, Form, Label, Limit
unfoldable pub legacy_line_after : LegacyDraft → Row → LegacyLined
legacy_line_after d row =
    unless (not (list_all is_printable row.text)) Bytes
    (unless (not row.is_ended) Cut
    (legacy_sized (length row.text + 1) (legacy_line d row.text)))

-- Inputs

abbrev pub or_legacy_fault : ℕ → LegacyLined → (LegacyDraft → Result LegacyDraft Fault) → Result LegacyDraft Fault
or_legacy_fault line (Ok d) f = f d
or_legacy_fault line (Err why) f = Err (record { line = line; why = why })

-- Lines that follow lines. Where the input ends before the first connector, the fault is the number after the last line.
unfoldable pub legacy_lines_after : LegacyDraft → ℕ → List Row → Result LegacyDraft Fault
legacy_lines_after d line [] = if is_nil d.draft.conns then Err (missing_line line) else Ok d
legacy_lines_after d line (row ∷ rows) = or_legacy_fault line (legacy_line_after d row) (λ next. legacy_lines_after next (line + 1) rows)

-- the names are those of all lines, in order of first occurrence
abbrev pub legacy_script_in : LegacyDraft → LegacyScript
legacy_script_in d = record { base = record (script_in d.draft) { clients = [] }; client = d.draft.has_client; commands = d.commands }

abbrev pub legacy_drafted : Result LegacyDraft Fault → Result LegacyScript Fault
legacy_drafted (Ok d) = Ok (legacy_script_in d)
legacy_drafted (Err fault) = Err fault

-- the script with older calls that the bytes spell, or their first fault; a fault at line 0 is of the input's size
unfoldable pub legacy_input : List ℕ → Result LegacyScript Fault
legacy_input bytes =
    if nat_lt input_limit (length bytes) then Err (record { line = 0; why = Limit })
    else legacy_drafted (legacy_lines_after blank_legacy_draft 1 (rows_of bytes))

-- Which bytes spell such a script: lines of forms that may stand there, within the limits, whatever their bytes in all

abbrev pub spelt_legacy_line : LegacyDraft → Row → Option LegacyDraft
spelt_legacy_line d row = if row.is_ended && list_all is_printable row.text then result_ok (legacy_line d row.text) else None

abbrev pub spelt_legacy_lines : LegacyDraft → List Row → Option LegacyDraft
spelt_legacy_lines d [] = if is_nil d.draft.conns then None else Some d
spelt_legacy_lines d (row ∷ rows) = spelt_legacy_line d row >>= (λ next. spelt_legacy_lines next rows)

-- bytes spell a script with older calls
abbrev pub SpellsLegacy : List ℕ → LegacyScript → Type 0
SpellsLegacy bytes s = option_map legacy_script_in (spelt_legacy_lines blank_legacy_draft (rows_of bytes)) ≡ Some s

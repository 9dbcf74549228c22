-- What is read of clients with fewer commands is read without that limit.
use Rattle.std.proofs.Common.{◌≡◌, ℕ, ◌+◌, Bool, true, false, List, [], ◌∷◌, length, Result, Ok, Err, refl, ap, ◌∙◌}
use Rattle.std.specs.Prelude.{nat_lt, if◌then◌else◌}
use Rattle.kms_model.specs.declared.scripts.Script.{Script}
use Rattle.kms_model.specs.declared.scripts.Why.TheVariants.{Limit}
use Rattle.kms_model.specs.Script.CommandLines.{unless}
use Rattle.kms_model.specs.Script.FewerCommands.{input_within, lines_within, within}
use Rattle.kms_model.specs.Script.InputLines.{Fault, Row, input_limit, rows_of}
use Rattle.kms_model.specs.Script.WholeInput.{Draft, Lined, blank_draft, drafted, input, line_after, lines_after, or_fault}

-- behind a line that may stand there within the limit, what follows counts
further : (most line : ℕ) (r : Lined) (limited free : Draft → Result Draft Fault) (e : Draft)
    → ((next : Draft) → limited next ≡ Ok e → free next ≡ Ok e)
    → or_fault line (within most r) limited ≡ Ok e → or_fault line r free ≡ Ok e
further most line (Err why) limited free e go is = absurd cc
further most line (Ok d) limited free e go is = by_count (nat_lt most (length d.commands)) is
  where
    by_count : (over : Bool) → or_fault line (unless over Limit (Ok d)) limited ≡ Ok e → free d ≡ Ok e
    by_count true is = absurd cc
    by_count false is = go d is

pub lines-read : (most : ℕ) (rows : List Row) (d e : Draft) (line : ℕ)
    → lines_within most d line rows ≡ Ok e → lines_after d line rows ≡ Ok e
unfolding lines_within lines_after
lines-read most [] d e line is = is
lines-read most (row ∷ rows) d e line is =
    further most line (line_after d row) (λ next. lines_within most next (line + 1) rows) (λ next. lines_after next (line + 1) rows) e
    (λ next. lines-read most rows next e (line + 1)) is

-- a script that is read within fewer commands is what the bytes spell
pub input-read : (most : ℕ) (bytes : List ℕ) (s : Script) → input_within most bytes ≡ Ok s → input bytes ≡ Ok s
unfolding input_within input
input-read most bytes s is = by_size (nat_lt input_limit (length bytes)) is
  where
    by_lines : (r : Result Draft Fault) → lines_within most blank_draft 1 (rows_of bytes) ≡ r → drafted r ≡ Ok s
        → drafted (lines_after blank_draft 1 (rows_of bytes)) ≡ Ok s
    by_lines (Ok d) same is = ap drafted (lines-read most (rows_of bytes) blank_draft d 1 same) ∙ is
    by_lines (Err fault) same is = absurd cc

    by_size : (long : Bool)
        → (if long then Err (record { line = 0; why = Limit }) else drafted (lines_within most blank_draft 1 (rows_of bytes))) ≡ Ok s
        → (if long then Err (record { line = 0; why = Limit }) else drafted (lines_after blank_draft 1 (rows_of bytes))) ≡ Ok s
    by_size true is = absurd cc
    by_size false is = by_lines (lines_within most blank_draft 1 (rows_of bytes)) refl is

-- Lines of an input whose clients have at most so many commands, one after the other, and what follows them; and that they are
-- read without that limit.
use Rattle.std.proofs.Common.{◌≡◌, ℕ, ◌+◌, ◌≤◌, Bool, true, false, List, [], ◌∷◌, length, cond, Result, Ok, Err, refl, sym, ap, ◌∙◌, subst}
use Rattle.std.proofs.Common.{arith}
use Rattle.std.specs.Prelude.{IfOk, nat_lt}
use Rattle.kms_model.specs.declared.scripts.Part.{Part}
use Rattle.kms_model.specs.declared.scripts.Part.TheVariants as part
use Rattle.kms_model.specs.declared.scripts.Why.TheVariants.{Limit}
use Rattle.kms_model.specs.Script.CommandLines.{unless}
use Rattle.kms_model.specs.Script.FewerCommands.{input_within, lines_within, within}
use Rattle.kms_model.specs.Script.InputLines.{Fault, Row, input_limit, rows_of}
use Rattle.kms_model.specs.Script.Schedules.{Parts, at_end_of_lines, behind_script, ends_script, input_of, parts_after}
use Rattle.kms_model.specs.Script.WellFormed.{IsWellFormed}
use Rattle.kms_model.specs.Script.WholeInput.{Draft, Lined, blank_draft, drafted, is_nil, line_after, lines_after, or_fault}
use Rattle.kms_model.proofs.FewerClients.{line_kept, same_further}
use Rattle.kms_words.specs.Fitting.{KeepsLimits}
use Rattle.kms_script.specs.declared.faults.ParseError.{ParseError}
use Rattle.kms_script.specs.declared.faults.ParseError.TheVariants as errors
use Rattle.kms_script.specs.declared.inputs.Parsed.{Parsed}
use Rattle.kms_script.specs.declared.stop.Stop.{Stop}
use Rattle.kms_script.specs.declared.stop.Stop.TheVariants as stops
use Rattle.kms_script.specs.Drafted.{Becomes, error_at}
use Rattle.kms_script.specs.Stated.{Gives, parts_in}
use Rattle.kms_script.specs.Within.{input_within_of, parts_within}
use Rattle.kms_script.proofs.Alone.{alone, end_alone, fault_alone, given_alone, line_alone, read_well, sized_alone}
use Rattle.kms_script.proofs.Drafts.{failed}

abbrev Answer : Type 0
Answer = Result Parsed ParseError

-- One line after the other

pub next_line : (most : ℕ) (p : Part) (size : ℕ) (d next : Draft) (n : ℕ) (row : Row) (rows : List Row) → ends_script p d row ≡ false
    → within most (line_after d row) ≡ Ok next → parts_within most p size d n (row ∷ rows) ≡ parts_within most p size next (n + 1) rows
unfolding parts_within
next_line most p size d next n row rows more e = rw (more, e) refl

pub stopped : (most : ℕ) (p : Part) (size : ℕ) (d after : Draft) (n : ℕ) (row : Row) (rows : List Row) (stop : Stop)
    → ends_script p d row ≡ false
    → Becomes (Err stop) (within most (line_after d row)) after → Gives parts_in (failed (error_at n stop))
    (parts_within most p size d n (row ∷ rows))
unfolding parts_within
stopped most p size d after n row rows (stops.Fault why) more e = rw (more, e) refl
stopped most p size d after n row rows stops.NoMemory more e = tt

pub script_ended : (most : ℕ) (p : Part) (size : ℕ) (d : Draft) (n : ℕ) (row : Row) (rows : List Row) → ends_script p d row ≡ true
    → parts_within most p size d n (row ∷ rows) ≡ behind_script p size d n row rows
unfolding parts_within
script_ended most p size d n row rows last = rw last refl

pub lines_ended : (most : ℕ) (p : Part) (size : ℕ) (d : Draft) (n : ℕ) (rest : List ℕ) → length rest ≡ 0
    → parts_within most p size d n (rows_of rest) ≡ at_end_of_lines p size d n
unfolding parts_within rows_of
lines_ended most p size d n [] e = refl
lines_ended most p size d n (b ∷ bs) e = absurd (omega arith)

-- What is read within the limit is read without it

further : (most line : ℕ) (r : Lined) (limited free : Draft → Result Parts Fault) (x : Parts)
    → ((next : Draft) → limited next ≡ Ok x → free next ≡ Ok x)
    → or_fault line (within most r) limited ≡ Ok x → or_fault line r free ≡ Ok x
further most line (Err why) limited free x go is = absurd cc
further most line (Ok d) limited free x go is = by_count (nat_lt most (length d.commands)) is
  where
    by_count : (over : Bool) → or_fault line (unless over Limit (Ok d)) limited ≡ Ok x → free d ≡ Ok x
    by_count true is = absurd cc
    by_count false is = go d is

-- lines behind a line, where what is read behind it within the limit is read without it
row_read : (most : ℕ) (p : Part) (size : ℕ) (row : Row) (rows : List Row) (d : Draft) (line : ℕ) (x : Parts)
    → ((next : Draft) → parts_within most p size next (line + 1) rows ≡ Ok x → parts_after p size next (line + 1) rows ≡ Ok x)
    → (last : Bool)
    → cond last (behind_script p size d line row rows)
    (or_fault line (within most (line_after d row)) (λ next. parts_within most p size next (line + 1) rows)) ≡ Ok x
    → cond last (behind_script p size d line row rows)
    (or_fault line (line_after d row) (λ next. parts_after p size next (line + 1) rows)) ≡ Ok x
row_read most p size row rows d line x go true is = is
row_read most p size row rows d line x go false is =
    further most line (line_after d row) (λ next. parts_within most p size next (line + 1) rows)
    (λ next. parts_after p size next (line + 1) rows) x go is

parts_read : (most : ℕ) (p : Part) (size : ℕ) (rows : List Row) (d : Draft) (line : ℕ) (x : Parts)
    → parts_within most p size d line rows ≡ Ok x → parts_after p size d line rows ≡ Ok x
unfolding parts_within parts_after
parts_read most p size [] d line x is = is
parts_read most p size (row ∷ rows) d line x is =
    row_read most p size row rows d line x (λ next. parts_read most p size rows next (line + 1) x) (ends_script p d row) is

input_read : (most : ℕ) (p : Part) (bytes : List ℕ) (x : Parts) → input_within_of most p bytes ≡ Ok x → input_of p bytes ≡ Ok x
unfolding input_within_of input_of
input_read most p bytes x is = by_size (nat_lt input_limit (length bytes)) is
  where
    by_size : (long : Bool)
        → cond long (Err (record { line = 0; why = Limit })) (parts_within most p (length bytes) blank_draft 1 (rows_of bytes)) ≡ Ok x
        → cond long (Err (record { line = 0; why = Limit })) (parts_after p (length bytes) blank_draft 1 (rows_of bytes)) ≡ Ok x
    by_size true is = is
    by_size false is = parts_read most p (length bytes) (rows_of bytes) blank_draft 1 x is

-- so it is a well-formed script
pub well_within : (most : ℕ) (p : Part) (bytes : List ℕ) (r : Answer) → Gives parts_in r (input_within_of most p bytes)
    → IfOk r (λ x. KeepsLimits x.script)
    → IfOk r (λ x. IsWellFormed x.script)
well_within most p bytes (Ok x) value limits = read_well p bytes (Ok x) (input_read most p bytes (parts_in x) value) limits
well_within most p bytes (Err e) value limits = tt

-- With 4096 commands it is the grammar itself

parts_same : (p : Part) (size : ℕ) (rows : List Row) (d : Draft) (line : ℕ) → length d.commands ≤ 4096
    → parts_within 4096 p size d line rows ≡ parts_after p size d line rows
unfolding parts_within parts_after
parts_same p size [] d line few = refl
parts_same p size (row ∷ rows) d line few =
    ap (cond (ends_script p d row) (behind_script p size d line row rows))
    (same_further line (line_after d row) (λ next. parts_within 4096 p size next (line + 1) rows)
    (λ next. parts_after p size next (line + 1) rows)
    d few (line_kept d row) (λ next few_next. parts_same p size rows next (line + 1) few_next))

pub input_same : (p : Part) (bytes : List ℕ) → input_within_of 4096 p bytes ≡ input_of p bytes
unfolding input_within_of input_of
input_same p bytes =
    ap (cond (nat_lt input_limit (length bytes)) (Err (record { line = 0; why = Limit })))
    (parts_same p (length bytes) (rows_of bytes) blank_draft 1 (omega arith))

-- A script alone

lines_alone : (most size n : ℕ) (d : Draft) (rows : List Row) → parts_within most part.Script size d n rows ≡ alone size
    (drafted (lines_within most d n rows))
unfolding parts_within lines_within lines_after
lines_alone most size n d [] = end_alone (is_nil d.conns) size n d
lines_alone most size n d (row ∷ rows) = line_alone size n (within most (line_after d row)) _ _
    (λ next. lines_alone most size (n + 1) next rows)

input_alone : (most : ℕ) (bytes : List ℕ) → input_within_of most part.Script bytes ≡ alone (length bytes) (input_within most bytes)
unfolding input_within_of input_within
input_alone most bytes = sized_alone (nat_lt input_limit (length bytes)) (record { line = 0; why = Limit }) (length bytes) _ _
    (lines_alone most (length bytes) 1 blank_draft (rows_of bytes))

script_given : (most : ℕ) (bytes : List ℕ) (r : Answer) → Gives parts_in r (input_within_of most part.Script bytes)
    → Gives (λ x. x.script) r (input_within most bytes)
script_given most bytes (Ok x) e = given_alone (length bytes) (input_within most bytes) (parts_in x) (sym (input_alone most bytes) ∙ e)
script_given most bytes (Err (errors.Fault line why)) e = fault_alone (length bytes) (input_within most bytes)
    (record { line = line; why = why }) (sym (input_alone most bytes) ∙ e)
script_given most bytes (Err errors.NoMemory) e = tt

-- what is read of an input that has a script alone is the input's script
pub alone_within : (most : ℕ) (p : Part) (bytes : List ℕ) (r : Answer) → Gives parts_in r (input_within_of most p bytes) → p ≡ part.Script
    → Gives (λ x. x.script) r (input_within most bytes)
alone_within most p bytes r e is = script_given most bytes r (subst (λ (q : Part). Gives parts_in r (input_within_of most q bytes)) is e)

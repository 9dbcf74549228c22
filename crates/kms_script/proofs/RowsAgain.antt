-- Lines put together again are cut into the same lines.
use Rattle.std.proofs.Common.{◌≡◌, ℕ, Bool, true, false, List, [], ◌∷◌, ◌++◌, append-nil, append_assoc, cond, Some, refl, sym, ap, ◌∙◌}
use Rattle.std.proofs.Common.{arith}
use Rattle.std.specs.Prelude.{◌==◌}
use Rattle.std.specs.List.{flat_map, list_all}
use Rattle.std.proofs.lemmas.Bool.{and_parts}
use Rattle.std.proofs.lemmas.Bool.Decides.{nat_tests}
use Rattle.kms_model.specs.Script.Grammar.{is_printable}
use Rattle.kms_model.specs.Script.InputLines.{Row, before_rows, rows_of}
use Rattle.kms_model.specs.Script.Spelling.{spelt_line, spelt_lines}
use Rattle.kms_model.specs.Script.WholeInput.{Draft}
use Rattle.kms_script.proofs.Inverted.{bind_some}
use Rattle.kms_script.proofs.RowsSpelt.{is_line}
use Rattle.kms_script.proofs.SpelledRows.{ended_text}

-- a line that a line feed ends
abbrev pub ended_row : List ℕ → Row
ended_row text = record { text = text; is_ended = true }

no_feed : (b : ℕ) → is_printable b ≡ true → (b == 10) ≡ false
no_feed b p = grind (arith, nat_tests)

byte_more : (t : Bool) (b : ℕ) (bs : List ℕ) (rows : List Row) (all : List Row) → t ≡ false → rows ≡ ended_row bs ∷ all
    → cond t (ended_row [] ∷ rows) (before_rows b rows) ≡ ended_row (b ∷ bs) ∷ all
byte_more true b bs rows all e is = absurd cc
byte_more false b bs rows all e is = rw is refl

-- the first of several lines
pub first_row : (text rest : List ℕ) → list_all is_printable text ≡ true → rows_of (text ++ 10 ∷ rest) ≡ ended_row text ∷ rows_of rest
unfolding rows_of
first_row [] rest p = refl
first_row (b ∷ bs) rest p =
    let both = and_parts (is_printable b) (list_all is_printable bs) p in
    byte_more (b == 10) b bs (rows_of (bs ++ 10 ∷ rest)) (rows_of rest) (no_feed b both.0) (first_row bs rest both.1)

is_ended_row : (row : Row) → row.is_ended ≡ true → ended_row row.text ≡ row
is_ended_row row e = ap (λ (t : Bool). record { text = row.text; is_ended = t }) (sym e)

-- lines that spell a script, and what follows them
pub rows_again : (d last : Draft) (rows : List Row) (more : List ℕ) → spelt_lines d rows ≡ Some last
    → rows_of (flat_map ended_text rows ++ more) ≡ rows ++ rows_of more
rows_again d last [] more e = refl
rows_again d last (row ∷ rows) more e =
    let b = bind_some (spelt_line d row) _ last e in
    let l = is_line d b.value row b.given in
    let later : List ℕ = flat_map ended_text rows ++ more in
    let parted : (ended_text row ++ flat_map ended_text rows) ++ more ≡ row.text ++ 10
    ∷ later = append_assoc (ended_text row) (flat_map ended_text rows) more ∙ append_assoc row.text (10 ∷ []) later in
    ap rows_of parted ∙ first_row row.text later l.printable ∙ rw (is_ended_row row l.is_ended, rows_again b.value last rows more b.then)
    refl

pub rows_alone : (d last : Draft) (rows : List Row) → spelt_lines d rows ≡ Some last → rows_of (flat_map ended_text rows) ≡ rows
unfolding rows_of
rows_alone d last rows e = ap rows_of (sym (append-nil (flat_map ended_text rows))) ∙ rows_again d last rows [] e ∙ append-nil rows

-- Lines that spell a script are the text of the draft that they make.
use Rattle.std.proofs.Common.{◌≡◌, ℕ, ◌≤◌, inl, inr, Bool, true, false, List, [], ◌∷◌, ◌++◌, append-nil, append_assoc, cond, Some, None, Ok}
use Rattle.std.proofs.Common.{Err, refl, sym, ap, ◌∙◌, subst, arith}
use Rattle.std.specs.Prelude.{◌&&◌}
use Rattle.std.specs.List.{flat_map, list_all}
use Rattle.std.proofs.lemmas.Bool.{and_parts, cases_lt}
use Rattle.kms_model.specs.Script.Grammar.{is_printable}
use Rattle.kms_model.specs.Script.InputLines.{Row}
use Rattle.kms_model.specs.Script.CommandLines.{words_in}
use Rattle.kms_model.specs.Script.WholeInput.{Draft, Lined, blank_draft, is_nil, script_in, script_line}
use Rattle.kms_model.specs.Script.Spelling.{lined, spelt_line, spelt_lines, spelling}
use Rattle.kms_script.proofs.DraftGrows.{IsInOrder, Follows}
use Rattle.kms_script.proofs.DraftText.{draft_text, script_text}
use Rattle.kms_script.proofs.Inverted.{bind_some, if_some, some_same}
use Rattle.kms_script.proofs.NamesBegin.{Begins}
use Rattle.kms_script.proofs.ScriptLines.{line_follows}
use Rattle.kms_script.proofs.SpelledRows.{all_ended, ended_text}

-- a line that may stand behind a draft
pub record IsLine (d next : Draft) (row : Row) : Type 0 where
  pub is_ended : row.is_ended ≡ true
  pub printable : list_all is_printable row.text ≡ true
  pub accepted : script_line d row.text ≡ Ok next

-- a draft that a line gave
lined_some : (r : Lined) (d : Draft) → lined r ≡ Some d → r ≡ Ok d
lined_some (Ok x) d e = ap Ok (some_same x d e)
lined_some (Err why) d e = absurd cc

-- a row that spells a line is one
pub is_line : (d next : Draft) (row : Row) → spelt_line d row ≡ Some next → IsLine d next row
is_line d next row e =
    let passed = if_some (row.is_ended && list_all is_printable row.text) _ next e in
    let both = and_parts row.is_ended (list_all is_printable row.text) passed.0 in
    record { is_ended = both.0; printable = both.1; accepted = lined_some (script_line d row.text) next passed.1 }

-- the end of the lines behind a draft
pub ended_draft : (none : Bool) (d last : Draft) → cond none None (Some d) ≡ Some last → (none ≡ false) × (d ≡ last)
ended_draft true d last e = absurd cc
ended_draft false d last e = (refl, some_same d last e)

-- lines behind a draft's text make the text of the last draft, with all names of the script that both begin
pub record AreSpelt (all : List (List ℕ)) (d last : Draft) (rows : List Row) : Type 0 where
  pub begins : Begins d.names all
  pub grown : draft_text all d ++ flat_map ended_text rows ≡ draft_text all last

-- lines lead from a draft to a whole one in order, and are spelt as what they add
pub record Reaches (d last : Draft) (rows : List Row) : Type 0 where
  pub ordered : IsInOrder last
  pub some : is_nil last.conns ≡ false
  pub ended : all_ended rows ≡ true
  pub spelt : (all : List (List ℕ)) → Begins last.names all → AreSpelt all d last rows

-- a whole draft, with no line behind it
no_rows : (d : Draft) → IsInOrder d → is_nil d.conns ≡ false → Reaches d d []
no_rows d o some =
    record { ordered = o; some = some; ended = refl; spelt = λ all b. record { begins = b; grown = append-nil (draft_text all d) } }

-- a line, and the lines behind it
first_row : (d next last : Draft) (row : Row) (rows : List Row) → row.is_ended ≡ true → Follows d next row.text → Reaches next last rows
    → Reaches d last (row ∷ rows)
first_row d next last row rows ended f r = record {
  ordered = r.ordered;
  some = r.some;
  ended = rw (ended, r.ended) refl;
  spelt = λ all b. (let later = r.spelt all b in let first = f.spelt all later.begins in record {
    begins = first.begins;
    grown = sym (append_assoc (draft_text all d) (ended_text row) (flat_map ended_text rows)) ∙ ap
        (λ (bs : List ℕ). bs ++ flat_map ended_text rows) first.grown ∙ later.grown;
  });
}

-- lines that spell a draft lead to it
pub rows_reach : (d last : Draft) (rows : List Row) → IsInOrder d → spelt_lines d rows ≡ Some last → Reaches d last rows
rows_reach d last [] o e = let end = ended_draft (is_nil d.conns) d last e in subst (λ x. Reaches d x []) end.1 (no_rows d o end.0)
rows_reach d last (row ∷ rows) o e =
    let b = bind_some (spelt_line d row) _ last e in
    let l = is_line d b.value row b.given in
    let f = line_follows d b.value row.text o l.accepted in
    first_row d b.value last row rows l.is_ended f (rows_reach b.value last rows f.ordered b.then)

-- what no line spells is in order
blank_ordered : IsInOrder blank_draft
blank_ordered =
    record { crtcs = omega arith; planes = λ lt. refl; conns = λ lt. refl; late_client = λ nil. refl; first_client = λ none. refl }

-- a device with connectors has its first two lines
whole_head : (d : Draft) → IsInOrder d → is_nil d.conns ≡ false → 2 ≤ d.head
whole_head d o some = elim (cases_lt d.head 2) [
  | inl early ↦ (let none : is_nil d.conns ≡ true = ap is_nil (o.conns early) in absurd cc)
  | inr late ↦ late
]

-- the lines of a script are its text
pub rows_are_text : (last : Draft) (rows : List Row) → spelt_lines blank_draft rows ≡ Some last
    → (all_ended rows ≡ true) × (flat_map ended_text rows ≡ spelling (script_in last))
rows_are_text last rows e =
    let r = rows_reach blank_draft last rows blank_ordered e in
    let s = r.spelt (words_in last.names) (record { more = []; whole = sym (append-nil (words_in last.names)) }) in
    (r.ended, s.grown ∙ script_text last (whole_head last r.ordered r.some))

-- Lines that spell a script are read, where they are no more bytes than a script may have.
use Rattle.std.proofs.Common.{◌≡◌, ℕ, ◌+◌, ◌≤◌, Bool, true, false, List, [], ◌∷◌, length, length-append, cond, Some, None, Ok, Err, refl}
use Rattle.std.proofs.Common.{ap, arith}
use Rattle.std.specs.Prelude.{Result, not, nat_lt}
use Rattle.std.specs.List.{flat_map, list_all}
use Rattle.std.proofs.lemmas.Bool.{le-ltb}
use Rattle.kms_model.specs.declared.scripts.Why.TheVariants.{Bytes, Cut, Limit}
use Rattle.kms_model.specs.Script.Grammar.{is_printable}
use Rattle.kms_model.specs.Script.InputLines.{Fault, Row}
use Rattle.kms_model.specs.Script.WholeInput.{Draft, Lined, is_nil, script_line, script_limit, sized, line_after, lines_after, or_fault}
use Rattle.kms_model.specs.Script.WholeInput.{missing_line}
use Rattle.kms_model.specs.Script.Spelling.{spelt_line, spelt_lines}
use Rattle.kms_script.proofs.Accepted.{unless_ok, on_from, ok_same}
use Rattle.kms_script.proofs.Inverted.{bind_some}
use Rattle.kms_script.proofs.RowsSpelt.{is_line, ended_draft}
use Rattle.kms_script.proofs.Sizes.{resized, line_same}
use Rattle.kms_script.proofs.SpelledRows.{ended_text}

-- What is read is spelt

-- the draft that a line made, before its bytes were counted
record Sized (n : ℕ) (r : Lined) (next : Draft) : Type 0 where
  made : Draft
  is : r ≡ Ok made
  counts : resized (made.size + n) made ≡ next

-- a draft whose bytes were counted was made before
is_sized : (n : ℕ) (r : Lined) (next : Draft) → sized n r ≡ Ok next → Sized n r next
is_sized n (Ok d) next e =
    let fits = unless_ok (nat_lt script_limit (d.size + n)) Limit _ next e in
    record { made = d; is = refl; counts = ok_same (resized (d.size + n) d) next fits.1 }
is_sized n (Err why) next e = absurd cc

-- a row that was read
pub record IsRow (d next : Draft) (row : Row) : Type 0 where
  pub printable : list_all is_printable row.text ≡ true
  pub ended : row.is_ended ≡ true
  pub made : Draft
  pub is : script_line d row.text ≡ Ok made
  pub counts : resized (made.size + (length row.text + 1)) made ≡ next

pub row_parts : (d next : Draft) (row : Row) → line_after d row ≡ Ok next → IsRow d next row
unfolding line_after
row_parts d next row e =
    let bytes = unless_ok (not (list_all is_printable row.text)) Bytes _ next e in
    let cut = unless_ok (not row.is_ended) Cut _ next bytes.1 in
    let s = is_sized (length row.text + 1) (script_line d row.text) next cut.1 in
    record {
      printable = on_from (list_all is_printable row.text) bytes.0;
      ended = on_from row.is_ended cut.0;
      made = s.made;
      is = s.is;
      counts = s.counts;
    }

-- it spells the same, whatever the bytes so far
pub line_is_spelt : (m : ℕ) (d next : Draft) (row : Row) → line_after d row ≡ Ok next → spelt_line (resized m d) row ≡ Some (resized m next)
line_is_spelt m d next row e =
    let r = row_parts d next row e in
    rw (r.printable, r.ended, line_same m d row.text, r.is) (ap (λ (x : Draft). Some (resized m x)) r.counts)

-- the draft behind a line, and what followed
pub record Unfaulted {A : Type 0} (r : Lined) (f : Draft → Result A Fault) (x : A) : Type 0 where
  pub next : Draft
  pub is : r ≡ Ok next
  pub then : f next ≡ Ok x

-- behind a row without a fault the reading goes on
pub no_fault : {A : Type 0} (n : ℕ) (r : Lined) (f : Draft → Result A Fault) (x : A) → or_fault n r f ≡ Ok x → Unfaulted r f x
no_fault n (Ok d) f x e = record { next = d; is = refl; then = e }
no_fault n (Err why) f x e = absurd cc

-- a whole draft ends both
whole_end : (none : Bool) (n m : ℕ) (d last : Draft) → cond none (Err (missing_line n)) (Ok d) ≡ Ok last
    → cond none None (Some (resized m d)) ≡ Some (resized m last)
whole_end true n m d last e = absurd cc
whole_end false n m d last e = cc

-- rows that were read spell the same draft, whatever its bytes
pub read_is_spelt : (m n : ℕ) (d last : Draft) (rows : List Row) → lines_after d n rows ≡ Ok last
    → spelt_lines (resized m d) rows ≡ Some (resized m last)
unfolding lines_after
read_is_spelt m n d last [] e = whole_end (is_nil d.conns) n m d last e
read_is_spelt m n d last (row ∷ rows) e =
    let u = no_fault n (line_after d row) _ last e in
    rw (line_is_spelt m d u.next row u.is) (read_is_spelt m (n + 1) u.next last rows u.then)

-- What is spelt is read

-- the bytes of lines
abbrev pub bytes_in : List Row → ℕ
bytes_in rows = length (flat_map ended_text rows)

-- the bytes of a row more
bytes_more : (row : Row) (rows : List Row) (size : ℕ) → (size + (length row.text + 1)) + bytes_in rows ≡ size + bytes_in (row ∷ rows)
bytes_more row rows size = omega (arith, length-append (ended_text row) (flat_map ended_text rows), length-append row.text (10 ∷ []))

-- a row that spells a line is read, within the limit
spelt_line_is_read : (size : ℕ) (d next : Draft) (row : Row) → spelt_line d row ≡ Some next → size + (length row.text + 1) ≤ script_limit
    → line_after (resized size d) row ≡ Ok (resized (size + (length row.text + 1)) next)
unfolding line_after
spelt_line_is_read size d next row e le =
    let l = is_line d next row e in
    rw (l.printable, l.is_ended, line_same size d row.text, l.accepted, le-ltb script_limit (size + (length row.text + 1)) le) refl

-- rows that spell a draft are read as it, with their bytes, within the limit
pub spelt_is_read : (size n : ℕ) (d last : Draft) (rows : List Row) → spelt_lines d rows ≡ Some last → size + bytes_in rows ≤ script_limit
    → lines_after (resized size d) n rows ≡ Ok (resized (size + bytes_in rows) last)
unfolding lines_after
spelt_is_read size n d last [] e le =
    let end = ended_draft (is_nil d.conns) d last e in
    let same : size ≡ size + 0 = omega arith in
    rw (end.0, end.1) (ap (λ k. Ok (resized k last)) same)
spelt_is_read size n d last (row ∷ rows) e le =
    let b = bind_some (spelt_line d row) _ last e in
    let after : ℕ = size + (length row.text + 1) in
    let same = bytes_more row rows size in
    rw (spelt_line_is_read size d b.value row b.given (omega (arith, same)), ← same)
    (spelt_is_read after (n + 1) b.value last rows b.then (omega (arith, same)))

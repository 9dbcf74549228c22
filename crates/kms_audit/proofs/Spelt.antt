-- A report that a text spells has no more lines than the text has bytes.
use Rattle.std.proofs.Common.{◌≡◌, ℕ, ◌+◌, ◌≤◌, Bool, true, false, List, [], ◌∷◌, length, Option, Some, None, refl, sym, ap, subst, arith}
use Rattle.std.specs.Prelude.{◌==◌, Result, Ok, Err, if◌then◌else◌}
use Rattle.std.specs.List.{filter_map}
use Rattle.kms_audit.specs.Told.{IsSpelt}
use Rattle.kms_model.specs.declared.reports.Report.{Report}
use Rattle.kms_model.specs.declared.reports.ReportLine.{ReportLine}
use Rattle.kms_model.specs.declared.reports.ReportLine.TheVariants as says
use Rattle.kms_model.specs.Report.ReportLines.{answer_said, entry_said, event_said, freed_said, grouped, grouped_where_read, latch_said}
use Rattle.kms_model.specs.Report.ReportLines.{least_behind, or_line, report_lines_read, report_read, report_row_read, with_line}
use Rattle.kms_model.specs.Script.InputLines.{Row, before_rows, rows_of}

-- Rows

before_short : (b : ℕ) (rows : List Row) (n : ℕ) → length rows ≤ n → length (before_rows b rows) ≤ n + 1
before_short b [] n l = omega arith
before_short b (r ∷ rs) n l = omega (arith, l)

rows-short : (bytes : List ℕ) → length (rows_of bytes) ≤ length bytes
unfolding rows_of
rows-short [] = omega arith
rows-short (b ∷ bs) = by_end (b == 10) (rows-short bs) where
  by_end : (e : Bool) → length (rows_of bs) ≤ length bs
      → length (if e then record { text = []; is_ended = true } ∷ rows_of bs else before_rows b (rows_of bs)) ≤ length (b ∷ bs)
  by_end true l = omega arith
  by_end false l = omega (arith, before_short b (rows_of bs) (length bs) l)

-- Lines

line_count : (l : ReportLine) (o : Result (List ReportLine) ℕ) (n : ℕ) (lines : List ReportLine)
    → ((ls : List ReportLine) → o ≡ Ok ls → length ls ≡ n)
    → with_line l o ≡ Ok lines → length lines ≡ n + 1
line_count l (Err number) n lines rest e = absurd cc
line_count l (Ok ls) n lines rest e =
    let same : l ∷ ls ≡ lines = cc in
    omega (arith, ap length (sym same), rest ls refl)

read-count : (rows : List Row) (least number : ℕ) (lines : List ReportLine) → report_lines_read least number rows ≡ Ok lines
    → length lines ≡ length rows
unfolding report_lines_read
read-count [] least number lines e = at_end (least == 6) e where
  at_end : (b : Bool) → (if b then Ok [] else Err number) ≡ Ok lines → length lines ≡ 0
  at_end true f = let same : [] ≡ lines = cc in ap length (sym same)
  at_end false f = absurd cc
read-count (row ∷ rows) least number lines e = by_row (report_row_read least row) e
    (λ l ls f. read-count rows (least_behind l) (number + 1) ls f) where
      by_row : (o : Option ReportLine)
          → or_line number o (λ l. with_line l (report_lines_read (least_behind l) (number + 1) rows)) ≡ Ok lines
          → ((l : ReportLine) (ls : List ReportLine) → report_lines_read (least_behind l) (number + 1) rows ≡ Ok ls
          → length ls ≡ length rows)
          → length lines ≡ length (row ∷ rows)
      by_row None f rest = absurd cc
      by_row (Some l) f rest =
          omega (arith, line_count l (report_lines_read (least_behind l) (number + 1) rows) (length rows) lines (rest l) f)

-- how many lines of each letter there are
abbrev of_letters : List ReportLine → ℕ
of_letters ls =
    length (filter_map entry_said ls) +
    (length (filter_map answer_said ls) +
    (length (filter_map latch_said ls) + (length (filter_map event_said ls) + length (filter_map freed_said ls))))

letters-few : (ls : List ReportLine) → of_letters ls ≤ length ls
letters-few [] = omega arith
letters-few (says.Ended end ∷ ls) = omega (arith, letters-few ls)
letters-few (l ∷ ls) = omega (arith, letters-few ls)

-- the lines of a report that is spelt, but for the last, are few
pub spelt-few : (r : Report) → IsSpelt r
    → length r.journal + (length r.replies + (length r.latches + (length r.events + length r.freed))) ≤ 67108864
unfolding report_read
spelt-few r spelt = by_lines (report_lines_read 0 1 (rows_of spelt.bytes)) refl spelt.read where
  by_lines : (o : Result (List ReportLine) ℕ) → report_lines_read 0 1 (rows_of spelt.bytes) ≡ o → grouped_where_read o ≡ Ok r
      → length r.journal + (length r.replies + (length r.latches + (length r.events + length r.freed))) ≤ 67108864
  by_lines (Err number) is e = absurd cc
  by_lines (Ok ls) is e =
      let same : grouped ls ≡ r = cc in
      let count = read-count (rows_of spelt.bytes) 0 1 ls is in
      subst (λ (x : Report). length x.journal + (length x.replies + (length x.latches + (length x.events + length x.freed))) ≤ 67108864)
      same
      (omega (arith, letters-few ls, count, rows-short spelt.bytes, spelt.short))

-- An input with a report is the text of its script, the line `report`, and the bytes behind the place that is told.
use Rattle.std.proofs.Common.{◌≡◌, ℕ, ◌+◌, inl, inr, Bool, true, false, List, [], ◌∷◌, ◌++◌, length, drop, length-append, append_assoc}
use Rattle.std.proofs.Common.{cond, Ok, Err, refl, sym, ap, ◌∙◌, arith}
use Rattle.std.specs.Prelude.{◌==◌, Result, codes, if◌then◌else◌, nat_lt, not}
use Rattle.std.specs.List.{flat_map, list_all}
use Rattle.std.specs.Str.{bytes_eq}
use Rattle.std.proofs.Math.Seq.{drop_at}
use Rattle.std.proofs.lemmas.Bool.{and_parts, eqb-true}
use Rattle.std.proofs.lemmas.List.Concat.{flat_map-append}
use Rattle.kms_model.specs.declared.scripts.Part.TheVariants as part
use Rattle.kms_model.specs.declared.scripts.Why.TheVariants.{Bytes, Cut, Limit}
use Rattle.kms_model.specs.Script.Grammar.{is_printable}
use Rattle.kms_model.specs.Script.InputLines.{Fault, Row, before_rows, input_limit, rows_of}
use Rattle.kms_model.specs.Script.Schedules.{Parts, behind_script, ends_script, input_of, parts_after}
use Rattle.kms_model.specs.Script.Spelling.{spelling}
use Rattle.kms_model.specs.Script.WholeInput.{Draft, Lined, blank_draft, is_nil, line_after, lines_after, script_in, script_limit}
use Rattle.kms_model.specs.Script.WholeInput.{script_line, sized}
use Rattle.kms_script.proofs.Accepted.{either_ok, ok_same, unless_ok}
use Rattle.kms_script.proofs.Drafts.{last_is_late}
use Rattle.kms_script.proofs.Fronts.{front_text, same_parts}
use Rattle.kms_script.proofs.RowsAgain.{ended_row}
use Rattle.kms_script.proofs.Sizes.{line_same, relined, resized}
use Rattle.kms_script.proofs.SpelledRows.{all_ended, ended_text}
use Rattle.kms_script.proofs.SpeltWords.{found}
use Rattle.kms_script.proofs.WithinLimit.{bytes_in, no_fault}
use Rattle.kms_reading.specs.Spelt.{ReportsStandBehindScripts}

-- The rows of bytes are the bytes

-- a line with its line feed, if it has one
abbrev row_text : Row → List ℕ
row_text row = row.text ++ (if row.is_ended then 10 ∷ [] else [])

before-first : (b : ℕ) (bs : List ℕ) (rows : List Row) → flat_map row_text rows ≡ bs → flat_map row_text (before_rows b rows) ≡ b ∷ bs
before-first b bs [] e = ap (λ (xs : List ℕ). b ∷ xs) e
before-first b bs (row ∷ rows) e = ap (λ (xs : List ℕ). b ∷ xs) e

feed-first : (t : Bool) (b : ℕ) (bs : List ℕ) (rows : List Row) → (b == 10) ≡ t → flat_map row_text rows ≡ bs
    → flat_map row_text (if t then ended_row [] ∷ rows else before_rows b rows) ≡ b ∷ bs
feed-first true b bs rows is e = let ten = sym (eqb-true b 10 is) in λ i. ten i ∷ e i
feed-first false b bs rows is e = before-first b bs rows e

rows-all : (bytes : List ℕ) → flat_map row_text (rows_of bytes) ≡ bytes
unfolding rows_of
rows-all [] = refl
rows-all (b ∷ bs) = feed-first (b == 10) b bs (rows_of bs) refl (rows-all bs)

rows-ended : (rows : List Row) → all_ended rows ≡ true → flat_map row_text rows ≡ flat_map ended_text rows
rows-ended [] e = refl
rows-ended (row ∷ rows) e =
    let two = and_parts row.is_ended (all_ended rows) e in
    let first = ap (λ (t : Bool). row.text ++ (if t then 10 ∷ [] else [])) two.0 in
    let later = rows-ended rows two.1 in
    λ i. first i ++ later i

-- A line counts with its line feed

sized-is : (n : ℕ) (d : Draft) (r : Lined) (next : Draft) → r ≡ relined d.size r → sized n r ≡ Ok next → next.size ≡ d.size + n
sized-is n d (Ok m) next same e =
    let fits = unless_ok (nat_lt script_limit (m.size + n)) Limit _ next e in
    let made = ok_same (resized (m.size + n) m) next fits.1 in
    let kept = ok_same m (resized d.size m) same in
    sym (ap (λ (x : Draft). x.size) made) ∙ ap (λ (x : Draft). x.size + n) kept
sized-is n d (Err why) next same e = absurd cc

line-size : (d next : Draft) (row : Row) → line_after d row ≡ Ok next → next.size ≡ d.size + (length row.text + 1)
unfolding line_after
line-size d next row e =
    let bytes = unless_ok (not (list_all is_printable row.text)) Bytes _ next e in
    let cut = unless_ok (not row.is_ended) Cut _ next bytes.1 in
    sized-is (length row.text + 1) d (script_line d row.text) next (line_same d.size d row.text) cut.1

-- The line `report`

record HasReport (n : ℕ) (d : Draft) (rows : List Row) (x : Parts) : Type 0 where
  front : List Row
  last : Draft
  row : Row
  more : List Row
  are : rows ≡ front ++ row ∷ more
  read : lines_after d n front ≡ Ok last
  ended : row.is_ended ≡ true
  word : row.text ≡ codes "report"
  makes : script_in last ≡ x.script
  place : x.rest ≡ last.size + length row.text + 1
  size : last.size ≡ d.size + bytes_in front

report-line : (size n : ℕ) (d : Draft) (row : Row) (rows : List Row) (x : Parts) → ends_script part.Report d row ≡ true
    → behind_script part.Report size d n row rows ≡ Ok x → HasReport n d (row ∷ rows) x
unfolding lines_after
report-line size n d row rows x ends e =
    let one = and_parts row.is_ended _ ends in
    let two = and_parts (bytes_eq row.text (codes "report")) (not (is_nil d.conns)) one.1 in
    let same = same_parts (record { script = script_in d; steps = []; rest = d.size + length row.text + 1 }) x e in
    record {
      front = [];
      last = d;
      row = row;
      more = rows;
      are = refl;
      read = rw (last_is_late part.Report d row ends) refl;
      ended = one.0;
      word = found row.text (codes "report") two.0;
      makes = ap (λ (y : Parts). y.script) same;
      place = sym (ap (λ (y : Parts). y.rest) same);
      size = omega arith;
    }

line-before : (n : ℕ) (d next : Draft) (row : Row) (rows : List Row) (x : Parts) → line_after d row ≡ Ok next
    → HasReport (n + 1) next rows x → HasReport n d (row ∷ rows) x
unfolding lines_after
line-before n d next row rows x e h =
    let one = line-size d next row e in
    let all = h.size in
    let here = length-append (ended_text row) (flat_map ended_text h.front) in
    let feed = length-append row.text (10 ∷ []) in
    record {
      front = row ∷ h.front;
      last = h.last;
      row = h.row;
      more = h.more;
      are = ap (λ (rs : List Row). row ∷ rs) h.are;
      read = rw e h.read;
      ended = h.ended;
      word = h.word;
      makes = h.makes;
      place = h.place;
      size = omega (arith, one, all, here, feed);
    }

has-report : (size n : ℕ) (d : Draft) (rows : List Row) (x : Parts) → parts_after part.Report size d n rows ≡ Ok x → HasReport n d rows x
unfolding parts_after
has-report size n d [] x e = absurd cc
has-report size n d (row ∷ rows) x e =
    elim (either_ok (ends_script part.Report d row) (behind_script part.Report size d n row rows) _ (Ok x) e) [
      | inl ended ↦ report-line size n d row rows x ended.0 ended.1
      | inr more ↦ (let u = no_fault n (line_after d row) _ x more.1 in
          line-before n d u.next row rows x u.is (has-report size (n + 1) u.next rows x u.then))
    ]

not-long : (long : Bool) (fault : Fault) (r : Result Parts Fault) (x : Parts) → cond long (Err fault) r ≡ Ok x → r ≡ Ok x
not-long true fault r x e = absurd cc
not-long false fault r x e = e

pub report-behind : ReportsStandBehindScripts
unfolding input_of
report-behind bytes x e =
    let h = has-report (length bytes) 1 blank_draft (rows_of bytes) x (not-long (nat_lt input_limit (length bytes)) _ _ x e) in
    let t = front_text 1 h.last h.front x.script h.read h.makes in
    let rest = flat_map row_text h.more in
    let front = rows-ended h.front t.ended ∙ t.text in
    let line : row_text h.row ≡ codes "report\n" = λ i. h.word i ++ (if h.ended i then 10 ∷ [] else []) in
    let whole : bytes ≡ spelling x.script ++ (codes "report\n" ++ rest) =
    sym (rows-all bytes) ∙ (ap (flat_map row_text) h.are ∙ (flat_map-append row_text h.front (h.row ∷ h.more)
    ∙ (λ i. front i ++ (line i ++ rest)))) in
    let parted = whole ∙ sym (append_assoc (spelling x.script) (codes "report\n") rest) in
    let place = h.place in
    let size = h.size in
    let word = ap length h.word in
    let bytes_before = ap length t.text in
    let all = length-append (spelling x.script) (codes "report\n") in
    let behind : drop x.rest bytes ≡ rest =
    ap (drop x.rest) parted ∙ drop_at (spelling x.script ++ codes "report\n") rest x.rest
    (omega (arith, place, size, word, bytes_before, all)) in
    whole ∙ ap (λ (bs : List ℕ). spelling x.script ++ (codes "report\n" ++ bs)) (sym behind)

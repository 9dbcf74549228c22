-- A report that was read has its lines in order, and its text is what was read.
use Rattle.std.proofs.Common.{◌≡◌, ℕ, ◌+◌, ◌<◌, ◌≤◌, Bool, true, false, List, [], ◌∷◌, ◌++◌, map, Option, Some, None, Ok, Err, refl, sym}
use Rattle.std.proofs.Common.{ap, ◌∙◌, subst, arith}
use Rattle.std.specs.Prelude.{◌==◌, Result, All, if◌then◌else◌}
use Rattle.std.specs.List.{AllByRecursion, cons_option, filter_map, flat_map}
use Rattle.std.proofs.lemmas.Bool.{and_from, eqb-true, leb-true}
use Rattle.std.proofs.lemmas.List.Elements.{recursion_from_All}
use Rattle.kms_model.specs.declared.reports.Report.{Report}
use Rattle.kms_model.specs.declared.reports.ReportLine.{ReportLine}
use Rattle.kms_model.specs.declared.reports.ReportLine.TheVariants as says
use Rattle.kms_model.specs.Report.ReportLines.{answer_said, entry_said, event_said, freed_said, grouped, grouped_where_read}
use Rattle.kms_model.specs.Report.ReportLines.{if_it_may_stand, latch_said, least_behind, letter_place, line_text, lines_of, may_stand}
use Rattle.kms_model.specs.Report.ReportLines.{or_line, report_line_read, report_lines_read, report_read, report_row_read, report_text}
use Rattle.kms_model.specs.Report.ReportLines.{step_said, with_line}
use Rattle.kms_model.specs.Script.InputLines.{Row, rows_of}
use Rattle.kms_script.proofs.Inverted.{if_some, some_same}
use Rattle.kms_script.proofs.SpelledRows.{all_ended, ended_text, rows_spell}
use Rattle.kms_reading.specs.Spelt.{IsNearReply, ReadReportsAreTheirText}
use Rattle.kms_reading.proofs.SpeltLines.{IsNearLine, line-spelt}

-- Lines in order

-- where a letter is the least
abbrev IsOrdered : ℕ → List ReportLine → Type 0
IsOrdered least [] = (least == 6) ≡ true
IsOrdered least (l ∷ ls) = (may_stand least l ≡ true) × IsOrdered (least_behind l) ls

may-least : (least : ℕ) (l : ReportLine) → may_stand least l ≡ true → least ≤ letter_place l
may-least least (says.Entry client command) may = leb-true least 0 may
may-least least (says.Answer client command place answer) may = leb-true least 1 may
may-least least (says.Latch crtc commit count digest) may = leb-true least 2 may
may-least least (says.Event client event) may = leb-true least 3 may
may-least least (says.Freed label id) may = leb-true least 4 may
may-least least (says.Ended end) may = leb-true least 5 may
may-least least (says.Stepped step) may = let same = eqb-true least 6 may in omega (arith, same)

letter-behind : (l : ReportLine) → letter_place l ≤ least_behind l
letter-behind (says.Ended end) = omega arith
letter-behind l = omega arith

none-first : {B : Type 0} (o : Option B) (rest : List B) → o ≡ None → rest ≡ [] → cons_option o rest ≡ []
none-first None rest e f = f
none-first (Some x) rest e f = absurd cc

-- behind lines of greater letters none has this one
module _ {B : Type 0} (said : ReportLine → Option B) (place : ℕ) (skips : (l : ReportLine) → place < letter_place l → said l ≡ None) where
  none-later : (least : ℕ) (ls : List ReportLine) → place < least → IsOrdered least ls → filter_map said ls ≡ []
  none-later least [] past ordered = refl
  none-later least (l ∷ ls) past ordered =
      let low = may-least least l ordered.0 in
      let next = letter-behind l in
      none-first (said l) (filter_map said ls) (skips l (omega (arith, low, past)))
      (none-later (least_behind l) ls (omega (arith, low, past, next)) ordered.1)

skips-entry : (l : ReportLine) → 0 < letter_place l → entry_said l ≡ None
skips-entry (says.Entry client command) past = absurd (omega (arith, past))
skips-entry l past = refl

skips-answer : (l : ReportLine) → 1 < letter_place l → answer_said l ≡ None
skips-answer (says.Answer client command place answer) past = absurd (omega (arith, past))
skips-answer l past = refl

skips-latch : (l : ReportLine) → 2 < letter_place l → latch_said l ≡ None
skips-latch (says.Latch crtc commit count digest) past = absurd (omega (arith, past))
skips-latch l past = refl

skips-event : (l : ReportLine) → 3 < letter_place l → event_said l ≡ None
skips-event (says.Event client event) past = absurd (omega (arith, past))
skips-event l past = refl

skips-freed : (l : ReportLine) → 4 < letter_place l → freed_said l ≡ None
skips-freed (says.Freed label id) past = absurd (omega (arith, past))
skips-freed l past = refl

no-entries : (least : ℕ) (ls : List ReportLine) → 0 < least → IsOrdered least ls
    → map (λ e. says.Entry e.0 e.1) (filter_map entry_said ls) ≡ []
no-entries least ls past ordered = ap (map (λ e. says.Entry e.0 e.1)) (none-later entry_said 0 skips-entry least ls past ordered)

no-answers : (least : ℕ) (ls : List ReportLine) → 1 < least → IsOrdered least ls
    → map (λ a. says.Answer a.0 a.1 a.2 a.3) (filter_map answer_said ls) ≡ []
no-answers least ls past ordered =
    ap (map (λ a. says.Answer a.0 a.1 a.2 a.3)) (none-later answer_said 1 skips-answer least ls past ordered)

no-latches : (least : ℕ) (ls : List ReportLine) → 2 < least → IsOrdered least ls
    → map (λ l. says.Latch l.0 l.1 l.2 l.3) (filter_map latch_said ls) ≡ []
no-latches least ls past ordered =
    ap (map (λ l. says.Latch l.0 l.1 l.2 l.3)) (none-later latch_said 2 skips-latch least ls past ordered)

no-events : (least : ℕ) (ls : List ReportLine) → 3 < least → IsOrdered least ls
    → map (λ e. says.Event e.0 e.1) (filter_map event_said ls) ≡ []
no-events least ls past ordered = ap (map (λ e. says.Event e.0 e.1)) (none-later event_said 3 skips-event least ls past ordered)

no-freed : (least : ℕ) (ls : List ReportLine) → 4 < least → IsOrdered least ls
    → map (λ x. says.Freed x.0 x.1) (filter_map freed_said ls) ≡ []
no-freed least ls past ordered = ap (map (λ x. says.Freed x.0 x.1)) (none-later freed_said 4 skips-freed least ls past ordered)

-- behind the D line there are T lines alone
steps-back : (ls : List ReportLine) → IsOrdered 6 ls → map (λ step. says.Stepped step) (filter_map step_said ls) ≡ ls
steps-back [] ordered = refl
steps-back (says.Stepped step ∷ ls) ordered = ap (λ all. says.Stepped step ∷ all) (steps-back ls ordered.1)
steps-back (l ∷ ls) ordered = let may = ordered.0 in absurd cc

-- a line moves before parts that are empty
behind-one : (l : ReportLine) (a x : List ReportLine) → a ≡ [] → a ++ l ∷ x ≡ l ∷ (a ++ x)
behind-one l a x e = rw e refl

behind-two : (l : ReportLine) (a b x : List ReportLine) → a ≡ [] → b ≡ [] → a ++ (b ++ l ∷ x) ≡ l ∷ (a ++ (b ++ x))
behind-two l a b x e f = rw (e, f) refl

behind-three : (l : ReportLine) (a b c x : List ReportLine) → a ≡ [] → b ≡ [] → c ≡ []
    → a ++ (b ++ (c ++ l ∷ x)) ≡ l ∷ (a ++ (b ++ (c ++ x)))
behind-three l a b c x e f g = rw (e, f, g) refl

behind-four : (l : ReportLine) (a b c d x : List ReportLine) → a ≡ [] → b ≡ [] → c ≡ [] → d ≡ []
    → a ++ (b ++ (c ++ (d ++ l ∷ x))) ≡ l ∷ (a ++ (b ++ (c ++ (d ++ x))))
behind-four l a b c d x e f g h = rw (e, f, g, h) refl

behind-five : (a b c d f x : List ReportLine) → a ≡ [] → b ≡ [] → c ≡ [] → d ≡ [] → f ≡ [] → a ++ (b ++ (c ++ (d ++ (f ++ x)))) ≡ x
behind-five a b c d f x e g h i j = rw (e, g, h, i, j) refl

-- lines in order are those of the report that they are put together to
regrouped : (least : ℕ) (ls : List ReportLine) → least ≤ 5 → IsOrdered least ls → lines_of (grouped ls) ≡ ls
regrouped least [] low ordered = let six = eqb-true least 6 ordered in absurd (omega (arith, low, six))
regrouped least (says.Entry client command ∷ ls) low ordered =
    ap (λ all. says.Entry client command ∷ all) (regrouped 0 ls (omega arith) ordered.1)
regrouped least (says.Answer client command place answer ∷ ls) low ordered =
    behind-one (says.Answer client command place answer) _ _ (no-entries 1 ls (omega arith) ordered.1)
    ∙ ap (λ all. says.Answer client command place answer ∷ all) (regrouped 1 ls (omega arith) ordered.1)
regrouped least (says.Latch crtc commit count digest ∷ ls) low ordered =
    behind-two (says.Latch crtc commit count digest) _ _ _ (no-entries 2 ls (omega arith) ordered.1)
    (no-answers 2 ls (omega arith) ordered.1)
    ∙ ap (λ all. says.Latch crtc commit count digest ∷ all) (regrouped 2 ls (omega arith) ordered.1)
regrouped least (says.Event client event ∷ ls) low ordered =
    behind-three (says.Event client event) _ _ _ _ (no-entries 3 ls (omega arith) ordered.1) (no-answers 3 ls (omega arith) ordered.1)
    (no-latches 3 ls (omega arith) ordered.1)
    ∙ ap (λ all. says.Event client event ∷ all) (regrouped 3 ls (omega arith) ordered.1)
regrouped least (says.Freed label id ∷ ls) low ordered =
    behind-four (says.Freed label id) _ _ _ _ _ (no-entries 4 ls (omega arith) ordered.1) (no-answers 4 ls (omega arith) ordered.1)
    (no-latches 4 ls (omega arith) ordered.1) (no-events 4 ls (omega arith) ordered.1)
    ∙ ap (λ all. says.Freed label id ∷ all) (regrouped 4 ls (omega arith) ordered.1)
regrouped least (says.Ended end ∷ ls) low ordered =
    behind-five _ _ _ _ _ (says.Ended end ∷ map (λ step. says.Stepped step) (filter_map step_said ls))
    (no-entries 6 ls (omega arith) ordered.1) (no-answers 6 ls (omega arith) ordered.1)
    (no-latches 6 ls (omega arith) ordered.1) (no-events 6 ls (omega arith) ordered.1) (no-freed 6 ls (omega arith) ordered.1)
    ∙ ap (λ all. says.Ended end ∷ all) (steps-back ls ordered.1)
regrouped least (says.Stepped step ∷ ls) low ordered = let six = eqb-true least 6 ordered.0 in absurd (omega (arith, low, six))

-- Rows

record IsRead (least : ℕ) (row : Row) (l : ReportLine) : Type 0 where
  ended : row.is_ended ≡ true
  line : report_line_read row.text ≡ Some l
  may : may_stand least l ≡ true

row-read : (least : ℕ) (row : Row) (l : ReportLine) → report_row_read least row ≡ Some l → IsRead least row l
unfolding report_row_read
row-read least row l e =
    let read = if_some row.is_ended (if_it_may_stand least (report_line_read row.text)) l e in
    of (report_line_read row.text) refl read.1 read.0
  where
    of : (o : Option ReportLine) → report_line_read row.text ≡ o → if_it_may_stand least o ≡ Some l → row.is_ended ≡ true
        → IsRead least row l
    of None is f ended = absurd cc
    of (Some m) is f ended =
        let read = if_some (may_stand least m) (Some m) l f in
        let same = some_same m l read.1 in
        record { ended = ended; line = is ∙ ap Some same; may = subst (λ k. may_stand least k ≡ true) same read.0 }

-- the first of several lines, and the others
record HasLine (number least : ℕ) (row : Row) (rows : List Row) (ls : List ReportLine) : Type 0 where
  line : ReportLine
  later : List ReportLine
  first : report_row_read least row ≡ Some line
  rest : report_lines_read (least_behind line) (number + 1) rows ≡ Ok later
  are : line ∷ later ≡ ls

has-line : (number least : ℕ) (row : Row) (rows : List Row) (ls : List ReportLine) → report_lines_read least number (row ∷ rows) ≡ Ok ls
    → HasLine number least row rows ls
unfolding report_lines_read
has-line number least row rows ls e = of (report_row_read least row) refl e
  where
    all : ReportLine → Result (List ReportLine) ℕ
    all l = report_lines_read (least_behind l) (number + 1) rows

    of_rest : (l : ReportLine) → report_row_read least row ≡ Some l → (r : Result (List ReportLine) ℕ) → all l ≡ r
        → with_line l r ≡ Ok ls → HasLine number least row rows ls
    of_rest l is (Err other) there f = absurd cc
    of_rest l is (Ok later) there f = record { line = l; later = later; first = is; rest = there; are = cc }

    of : (o : Option ReportLine) → report_row_read least row ≡ o → or_line number o (λ l. with_line l (all l)) ≡ Ok ls
        → HasLine number least row rows ls
    of None is f = absurd cc
    of (Some l) is f = of_rest l is (all l) refl f

-- what is asked of the busy replies of lines
abbrev AreNear : List ReportLine → Type 0
AreNear ls = AllByRecursion (λ a. IsNearReply a.3) (filter_map answer_said ls)

near-first : (l : ReportLine) (ls : List ReportLine) → AreNear (l ∷ ls) → IsNearLine l × AreNear ls
near-first (says.Entry client command) ls near = (tt, near)
near-first (says.Answer client command place answer) ls near = (near.0, near.1)
near-first l ls near = (tt, near)

-- rows that were read as lines in order
record AreLines (least : ℕ) (rows : List Row) (ls : List ReportLine) : Type 0 where
  ended : all_ended rows ≡ true
  text : flat_map line_text ls ≡ flat_map ended_text rows
  ordered : IsOrdered least ls

lines-spelt : (least number : ℕ) (rows : List Row) (ls : List ReportLine) → report_lines_read least number rows ≡ Ok ls → AreNear ls
    → AreLines least rows ls
unfolding report_lines_read
lines-spelt least number [] ls e near = of (least == 6) refl e
  where
    of : (t : Bool) → (least == 6) ≡ t → ◌≡◌ {A = Result (List ReportLine) ℕ} (if t then Ok [] else Err number) (Ok ls)
        → AreLines least [] ls
    of true is f = let none : [] ≡ ls = cc in subst (AreLines least []) none (record { ended = refl; text = refl; ordered = is })
    of false is f = absurd cc
lines-spelt least number (row ∷ rows) ls e near =
    let h = has-line number least row rows ls e in
    let one = row-read least row h.line h.first in
    let both = near-first h.line h.later (subst AreNear (sym h.are) near) in
    let more = lines-spelt (least_behind h.line) (number + 1) rows h.later h.rest both.1 in
    let text = line-spelt row.text h.line both.0 one.line in
    subst (AreLines least (row ∷ rows)) h.are (record {
      ended = and_from row.is_ended (all_ended rows) one.ended more.ended;
      text = λ i. text i ++ more.text i;
      ordered = (one.may, more.ordered);
    })

-- Reports

pub reports-spelt : ReadReportsAreTheirText
unfolding report_read
reports-spelt bytes r e near = of (report_lines_read 0 1 (rows_of bytes)) refl e
  where
    of : (x : Result (List ReportLine) ℕ) → report_lines_read 0 1 (rows_of bytes) ≡ x → grouped_where_read x ≡ Ok r → report_text r ≡ bytes
    of (Err number) is f = absurd cc
    of (Ok ls) is f =
        let same : grouped ls ≡ r = cc in
        let fit = subst (λ (q : Report). All (λ a. IsNearReply a.3) q.replies) (sym same) near in
        let near_all = recursion_from_All (λ a. IsNearReply a.3) (filter_map answer_said ls) fit in
        let lines = lines-spelt 0 1 (rows_of bytes) ls is near_all in
        ap report_text (sym same)
        ∙ (ap (flat_map line_text) (regrouped 0 ls (omega arith) lines.ordered)
        ∙ (lines.text ∙ rows_spell bytes lines.ended))

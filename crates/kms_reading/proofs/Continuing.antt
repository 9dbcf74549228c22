-- One line more of a report: what the lines so far say, with it and with those behind it.
use Rattle.std.proofs.Common.{◌≡◌, ℕ, ◌+◌, ◌<◌, Bool, true, false, List, [], ◌∷◌, ◌++◌, length, Option, Some, None, refl, sym, ap, ◌∙◌}
use Rattle.std.proofs.Common.{subst, append_assoc, arith}
use Rattle.std.proofs.lemmas.Bool.{eqb-true, leb-true, ne_eqb, not-true, not_from_false}
use Rattle.std.proofs.lemmas.List.{append-nil}
use Rattle.std.specs.Prelude.{◌==◌, Result, Ok, Err, is_some, nat_le, not, if◌then◌else◌}
use Rattle.std.specs.List.{filter_map}
use Rattle.kms_model.specs.declared.replies.Event.{Event}
use Rattle.kms_model.specs.declared.replies.Reply.{Reply}
use Rattle.kms_model.specs.declared.replies.Step.{Step}
use Rattle.kms_model.specs.declared.reports.End.{End}
use Rattle.kms_model.specs.declared.reports.Report.{Report}
use Rattle.kms_model.specs.declared.reports.ReportLine.{ReportLine}
use Rattle.kms_model.specs.declared.reports.ReportLine.TheVariants as says
use Rattle.kms_model.specs.Report.ReportLines.{answer_said, end_said, entry_said, event_said, freed_said, grouped_where_read}
use Rattle.kms_model.specs.Report.ReportLines.{if_it_may_stand, latch_said, least_behind, may_stand, or_line, report_line_read}
use Rattle.kms_model.specs.Report.ReportLines.{report_lines_read, report_read, report_row_read, step_said, with_line}
use Rattle.kms_model.specs.Script.InputLines.{Row, rows_of}
use Rattle.kms_reading.specs.declared.reports.Said.{Said}
use Rattle.kms_reading.specs.Reports.{continued, end_after, is_sound, no_lines, report_with, with_said}

-- no lines, and all behind them
pub continued-first : (x : Result (List ReportLine) ℕ) → continued no_lines x ≡ grouped_where_read x
continued-first (Err number) = refl
continued-first (Ok ls) = refl

-- the fields of a report, one by one
same_report : (j k : List (ℕ × ℕ)) (a b : List (ℕ × ℕ × ℕ × Reply)) (l m : List (ℕ × ℕ × ℕ × Option (List ℕ))) (e f : List (ℕ × Event))
    (x y : List (List ℕ × ℕ)) (d c : End) (t u : List Step)
    → j ≡ k → a ≡ b → l ≡ m → e ≡ f → x ≡ y → d ≡ c → t ≡ u
    → ◌≡◌ {A = Report} (record { journal = j; replies = a; latches = l; events = e; freed = x; end = d; steps = t })
    (record { journal = k; replies = b; latches = m; events = f; freed = y; end = c; steps = u })
same_report j k a b l m e f x y d c t u g1 g2 g3 g4 g5 g6 g7 = rw (g1, g2, g3, g4, g5, g6, g7) refl

-- the end of other lines comes behind a line that is no D line
end_kept : (o : Option End) (l : ReportLine) (ls : List ReportLine) → end_said (l ∷ ls) ≡ end_said ls
    → end_after o (l ∷ ls) ≡ end_after o ls
end_kept None l ls e = e
end_kept (Some end) l ls e = refl

one_more : {A : Type 0} (xs : List A) (x : A) (ys : List A) → xs ++ x ∷ ys ≡ (xs ++ x ∷ []) ++ ys
one_more xs x ys = sym (append_assoc xs (x ∷ []) ys)

report_more : (d : Said) (l : ReportLine) (ls : List ReportLine) → (is_some d.end ≡ true → may_stand d.least l ≡ true → d.least ≡ 6)
    → may_stand d.least l ≡ true
    → report_with d (l ∷ ls) ≡ report_with (with_said d l) ls
report_more d (says.Entry client command) ls late stands =
    same_report _ _ _ _ _ _ _ _ _ _ _ _ _ _ (one_more d.journal (client, command) (filter_map entry_said ls)) refl refl refl refl
    (end_kept d.end (says.Entry client command) ls refl) refl
report_more d (says.Answer client command place answer) ls late stands =
    same_report _ _ _ _ _ _ _ _ _ _ _ _ _ _ refl
    (one_more d.replies (client, command, place, answer) (filter_map answer_said ls)) refl refl refl
    (end_kept d.end (says.Answer client command place answer) ls refl) refl
report_more d (says.Latch crtc commit count digest) ls late stands =
    same_report _ _ _ _ _ _ _ _ _ _ _ _ _ _ refl refl
    (one_more d.latches (crtc, commit, count, digest) (filter_map latch_said ls)) refl refl
    (end_kept d.end (says.Latch crtc commit count digest) ls refl) refl
report_more d (says.Event client event) ls late stands =
    same_report _ _ _ _ _ _ _ _ _ _ _ _ _ _ refl refl refl (one_more d.events (client, event) (filter_map event_said ls)) refl
    (end_kept d.end (says.Event client event) ls refl) refl
report_more d (says.Freed label id) ls late stands =
    same_report _ _ _ _ _ _ _ _ _ _ _ _ _ _ refl refl refl refl (one_more d.freed (label, id) (filter_map freed_said ls))
    (end_kept d.end (says.Freed label id) ls refl) refl
report_more d (says.Stepped step) ls late stands =
    same_report _ _ _ _ _ _ _ _ _ _ _ _ _ _ refl refl refl refl refl (end_kept d.end (says.Stepped step) ls refl)
    (one_more d.steps step (filter_map step_said ls))
report_more d (says.Ended end) ls late stands =
    same_report _ _ _ _ _ _ _ _ _ _ _ _ _ _ refl refl refl refl refl (first_end d.end refl) refl where
      first_end : (o : Option End) → d.end ≡ o → end_after o (says.Ended end ∷ ls) ≡ end
      first_end None e = refl
      first_end (Some other) e =
          let six = late (ap is_some e) stands in
          let most = leb-true d.least 5 stands in
          absurd (omega (arith, six, most))

-- in a sound state a D line comes before T lines alone
sound_late : (d : Said) → is_sound d ≡ true → is_some d.end ≡ true → d.least ≡ 6
sound_late d sound some = of_end (is_some d.end) some sound where
  of_end : (b : Bool) → b ≡ true → (if b then d.least == 6 else not (d.least == 6)) ≡ true → d.least ≡ 6
  of_end true e f = eqb-true d.least 6 f
  of_end false e f = absurd cc

pub continued-step : (d : Said) (l : ReportLine) (x : Result (List ReportLine) ℕ) → is_sound d ≡ true → may_stand d.least l ≡ true
    → continued d (with_line l x) ≡ continued (with_said d l) x
continued-step d l (Err number) sound stands = refl
continued-step d l (Ok ls) sound stands = ap Ok (report_more d l ls (λ some may. sound_late d sound some) stands)

-- A row

-- what is read of a row may stand there
pub row-stands : (least : ℕ) (row : Row) (l : ReportLine) → report_row_read least row ≡ Some l → may_stand least l ≡ true
unfolding report_row_read
row-stands least row l e = of_row row.is_ended e where
  of_line : (o : Option ReportLine) → if_it_may_stand least o ≡ Some l → may_stand least l ≡ true
  of_line None f = absurd cc
  of_line (Some m) f = of_test (may_stand least m) refl f where
    of_test : (b : Bool) → may_stand least m ≡ b → (if b then Some m else None) ≡ Some l → may_stand least l ≡ true
    of_test true is g = let same : m ≡ l = cc in ap (may_stand least) (sym same) ∙ is
    of_test false is g = absurd cc

  of_row : (b : Bool) → (if b then if_it_may_stand least (report_line_read row.text) else None) ≡ Some l → may_stand least l ≡ true
  of_row true f = of_line (report_line_read row.text) f
  of_row false f = absurd cc

-- what rows say where the first of them is read, and where it may not stand
pub rows-first : (d : Said) (number : ℕ) (row : Row) (rows : List Row) (l : ReportLine) → is_sound d ≡ true
    → report_row_read d.least row ≡ Some l
    → continued d (report_lines_read d.least number (row ∷ rows)) ≡ continued (with_said d l)
    (report_lines_read (least_behind l) (number + 1) rows)
unfolding report_lines_read
rows-first d number row rows l sound is =
    ap (λ o. continued d (or_line number o (λ m. with_line m (report_lines_read (least_behind m) (number + 1) rows)))) is
    ∙ continued-step d l (report_lines_read (least_behind l) (number + 1) rows) sound (row-stands d.least row l is)

pub rows-wrong : (d : Said) (number : ℕ) (row : Row) (rows : List Row) → report_row_read d.least row ≡ None
    → continued d (report_lines_read d.least number (row ∷ rows)) ≡ Err number
unfolding report_lines_read
rows-wrong d number row rows none = ap
    (λ o. continued d (or_line number o (λ m. with_line m (report_lines_read (least_behind m) (number + 1) rows)))) none

-- the least letter behind a line that was read
least_with : (d : Said) (l : ReportLine) → (with_said d l).least ≡ least_behind l
least_with d (says.Ended end) = refl
least_with d l = refl

pub rows-next : (d new : Said) (number : ℕ) (row : Row) (rows : List Row) (l : ReportLine) → new ≡ with_said d l → is_sound d ≡ true
    → report_row_read d.least row ≡ Some l
    → continued new (report_lines_read new.least (number + 1) rows) ≡ continued d (report_lines_read d.least number (row ∷ rows))
rows-next d new number row rows l is sound read =
    ap (λ (x : Said). continued x (report_lines_read x.least (number + 1) rows)) is
    ∙ (ap (λ n. continued (with_said d l) (report_lines_read n (number + 1) rows)) (least_with d l)
    ∙ sym (rows-first d number row rows l sound read))

pub first-read : (bytes : List ℕ) → continued no_lines (report_lines_read 0 1 (rows_of bytes)) ≡ report_read bytes
unfolding report_read
first-read bytes = continued-first (report_lines_read 0 1 (rows_of bytes))

pub none-from : {A : Type 0} (o : Option A) → ((x : A) → o ≡ Some x → ⊥) → o ≡ None
none-from None none = refl
none-from (Some x) none = absurd (none x refl)

-- A line more leaves a state sound

early : (b : Bool) (least place : ℕ) → (if b then least == 6 else not (least == 6)) ≡ true → nat_le least place ≡ true → place < 6
    → (if b then place == 6 else not (place == 6)) ≡ true
early true least place e f l = let six = eqb-true least 6 e in let most = leb-true least place f in absurd (omega (arith, six, most, l))
early false least place e f l = not_from_false (place == 6) (ne_eqb place 6 (λ g. omega (arith, g, l)))

late : (b : Bool) (least : ℕ) → (if b then least == 6 else not (least == 6)) ≡ true → (least == 6) ≡ true
    → (if b then 6 == 6 else not (6 == 6)) ≡ true
late true least e f = refl
late false least e f = absurd (let no : false ≡ true = sym (ap not f) ∙ e in cc)

sound_next : (d : Said) (l : ReportLine) → is_sound d ≡ true → may_stand d.least l ≡ true → is_sound (with_said d l) ≡ true
sound_next d (says.Entry client command) sound stands = early (is_some d.end) d.least 0 sound stands (omega arith)
sound_next d (says.Answer client command place answer) sound stands = early (is_some d.end) d.least 1 sound stands (omega arith)
sound_next d (says.Latch crtc commit count digest) sound stands = early (is_some d.end) d.least 2 sound stands (omega arith)
sound_next d (says.Event client event) sound stands = early (is_some d.end) d.least 3 sound stands (omega arith)
sound_next d (says.Freed label id) sound stands = early (is_some d.end) d.least 4 sound stands (omega arith)
sound_next d (says.Ended end) sound stands = refl
sound_next d (says.Stepped step) sound stands = late (is_some d.end) d.least sound stands

pub sound-with : (d new : Said) (l : ReportLine) → new ≡ with_said d l → is_sound d ≡ true
    → may_stand d.least l ≡ true → is_sound new ≡ true
sound-with d new l is sound stands = ap is_sound is ∙ sound_next d l sound stands

-- Behind the last line

pub ended-none : (d : Said) (line : ℕ) → is_sound d ≡ true → d.end ≡ None → continued d (report_lines_read d.least line []) ≡ Err line
unfolding report_lines_read
ended-none d line sound none =
    let earlier : (d.least == 6) ≡ false =
    not-true (d.least == 6) (subst (λ (o : Option End). (if is_some o then d.least == 6 else not (d.least == 6)) ≡ true) none sound) in
    ap (λ b. continued d (if b then Ok [] else Err line)) earlier

pub ended-some : (d : Said) (line : ℕ) (end : End) → is_sound d ≡ true → d.end ≡ Some end
    → continued d (report_lines_read d.least line [])
    ≡ Ok (record {
      journal = d.journal;
      replies = d.replies;
      latches = d.latches;
      events = d.events;
      freed = d.freed;
      end = end;
      steps = d.steps;
    })
unfolding report_lines_read
ended-some d line end sound some =
    let six : (d.least == 6) ≡ true = subst
    (λ (o : Option End). (if is_some o then d.least == 6 else not (d.least == 6)) ≡ true) some sound in
    ap (λ b. continued d (if b then Ok [] else Err line)) six
    ∙ ap Ok (same_report _ _ _ _ _ _ _ _ _ _ _ _ _ _ (append-nil d.journal) (append-nil d.replies)
    (append-nil d.latches) (append-nil d.events)
    (append-nil d.freed) (ap (λ o. end_after o []) some) (append-nil d.steps))

-- no bytes are left
pub no-rows : (d : Said) (line : ℕ) (rest : List ℕ) → length rest ≡ 0
    → continued d (report_lines_read d.least line (rows_of rest)) ≡ continued d (report_lines_read d.least line [])
unfolding rows_of
no-rows d line [] done = refl
no-rows d line (b ∷ bs) done = absurd (omega (arith, done))

-- The lines of a report stand in order, each section behind those before it, and are put together to the same report.
use Rattle.std.proofs.Common.{◌≡◌, ℕ, ◌+◌, ◌<◌, ◌≤◌, true, List, [], ◌∷◌, ◌++◌, map, Option, Some, None, Ok, refl, ap, ◌∙◌, subst, arith}
use Rattle.std.proofs.Common.{inl, inr, ⊎_elim, append-nil, append_assoc}
use Rattle.std.specs.List.{cons_option, filter_map, flat_map}
use Rattle.std.specs.Prelude.{nat_le}
use Rattle.std.proofs.lemmas.Bool.{cond-true, le-leb}
use Rattle.std.proofs.lemmas.List.Elements.{recursion_from_All}
use Rattle.kms_model.specs.declared.replies.Event.{Event}
use Rattle.kms_model.specs.declared.replies.Reply.{Reply}
use Rattle.kms_model.specs.declared.replies.Step.{Step}
use Rattle.kms_model.specs.declared.reports.End.{End}
use Rattle.kms_model.specs.declared.reports.Report.{Report}
use Rattle.kms_model.specs.declared.reports.ReportLine.{ReportLine}
use Rattle.kms_model.specs.declared.reports.ReportLine.TheVariants as says
use Rattle.kms_model.specs.Report.ReportLines.{answer_said, end_said, entry_said, event_said, freed_said, grouped, grouped_where_read}
use Rattle.kms_model.specs.Report.ReportLines.{if_it_may_stand, latch_said, least_behind, line_text, lines_of, may_stand, or_line}
use Rattle.kms_model.specs.Report.ReportLines.{report_lines_read, report_read, report_row_read, report_text, step_said, with_line}
use Rattle.kms_model.specs.Script.InputLines.{Row, rows_of}
use Rattle.kms_model.proofs.CrtcLemmas.{all_in}
use Rattle.kms_model.proofs.Items.{IsIn}
use Rattle.kms_laws.proofs.Basics.{in_either}
use Rattle.kms_script.proofs.RowsAgain.{ended_row, first_row}
use Rattle.kms_model.specs.Script.Schedules.{IsFitStep}
use Rattle.kms_read_back.specs.ReadBack.{IsFitAnswer, IsFitDigest, IsFitEntry, IsFitFreed, IsFitLatch, IsFitReport, IsFitTold}
use Rattle.kms_read_back.proofs.LinesBack.{IsDigest, IsFitLine, body-plain, body_of, line-back, line-body}

-- Rows

abbrev row_of : ReportLine → Row
row_of l = ended_row (body_of l)

abbrev Fit : List ReportLine → Type 0
Fit ls = (l : ReportLine) → IsIn l ls → IsFitLine l

-- the text of lines is cut into them
rows-all : (ls : List ReportLine) → Fit ls → rows_of (flat_map line_text ls) ≡ map row_of ls
unfolding rows_of
rows-all [] fit = refl
rows-all (l ∷ ls) fit =
    let rest = flat_map line_text ls in
    ap (λ b. rows_of (b ++ rest)) (line-body l)
    ∙ (ap rows_of (append_assoc (body_of l) (10 ∷ []) rest)
    ∙ (first_row (body_of l) rest (body-plain l (fit l (inl refl)))
    ∙ ap (λ rows. row_of l ∷ rows) (rows-all ls (λ m i. fit m (inr i)))))

one-read : (least : ℕ) (l : ReportLine) → IsFitLine l → may_stand least l ≡ true → report_row_read least (row_of l) ≡ Some l
unfolding report_row_read
one-read least l fits may = ap (if_it_may_stand least) (line-back l fits) ∙ cond-true (may_stand least l) (Some l) None may

-- the rows of lines are read, where no letter beyond a place was read before
abbrev Reads : ℕ → List ReportLine → Type 0
Reads place ls = (least number : ℕ) → least ≤ place → report_lines_read least number (map row_of ls) ≡ Ok ls

-- lines of one letter before others
record AreOf (place : ℕ) (ls : List ReportLine) : Type 0 where
  fit : Fit ls
  behind : (l : ReportLine) → IsIn l ls → least_behind l ≡ place
  may : (l : ReportLine) → IsIn l ls → (least : ℕ) → least ≤ place → may_stand least l ≡ true

line-first : (place : ℕ) (l : ReportLine) (ls : List ReportLine) → IsFitLine l → least_behind l ≡ place
    → ((least : ℕ) → least ≤ place → may_stand least l ≡ true) → Reads place ls → Reads place (l ∷ ls)
unfolding report_lines_read
line-first place l ls fits behind may later least number le =
    ap (λ o. or_line number o (λ m. with_line m (report_lines_read (least_behind m) (number + 1) (map row_of ls))))
    (one-read least l fits (may least le))
    ∙ ap (with_line l) (later (least_behind l) (number + 1) (omega (arith, behind)))

section : (place : ℕ) (ls more : List ReportLine) → AreOf place ls → Reads place more → Reads place (ls ++ more)
section place [] more of later = later
section place (l ∷ ls) more of later =
    line-first place l (ls ++ more) (of.fit l (inl refl)) (of.behind l (inl refl)) (of.may l (inl refl))
    (section place ls more (record { fit = λ m i. of.fit m (inr i); behind = λ m i. of.behind m (inr i); may = λ m i. of.may m (inr i) })
    later)

earlier : (place next : ℕ) (ls : List ReportLine) → place ≤ next → Reads next ls → Reads place ls
earlier place next ls le reads least number l = reads least number (omega (arith, le, l))

-- The T lines, and the D line before them

steps-read : (steps : List Step) → Fit (map (λ step. says.Stepped step) steps) → (number : ℕ)
    → report_lines_read 6 number (map row_of (map (λ step. says.Stepped step) steps)) ≡ Ok (map (λ step. says.Stepped step) steps)
unfolding report_lines_read
steps-read [] fit number = refl
steps-read (step ∷ steps) fit number =
    ap (λ o. or_line number o (λ m. with_line m (report_lines_read (least_behind m) (number + 1)
    (map row_of (map (λ step. says.Stepped step) steps)))))
    (one-read 6 (says.Stepped step) (fit (says.Stepped step) (inl refl)) refl)
    ∙ ap (with_line (says.Stepped step)) (steps-read steps (λ m i. fit m (inr i)) (number + 1))

end-reads : (e : End) (ls : List ReportLine) → IsFitLine (says.Ended e)
    → ((number : ℕ) → report_lines_read 6 number (map row_of ls) ≡ Ok ls)
    → Reads 5 (says.Ended e ∷ ls)
unfolding report_lines_read
end-reads e ls fits later least number le =
    ap (λ o. or_line number o (λ m. with_line m (report_lines_read (least_behind m) (number + 1) (map row_of ls))))
    (one-read least (says.Ended e) fits (le-leb least 5 le))
    ∙ ap (with_line (says.Ended e)) (later (number + 1))

-- What lines say

-- of each item, and of none
all : {A : Type 0} (xs : List A) → filter_map (λ x. Some x) xs ≡ xs
all [] = refl
all (x ∷ xs) = ap (λ ys. x ∷ ys) (all xs)

none : {A B : Type 0} (xs : List A) → filter_map {Y = B} (λ x. None) xs ≡ []
none [] = refl
none (x ∷ xs) = none xs

six : {A : Type 0} {a b c d e f g h j k l m : List A} → a ≡ g → b ≡ h → c ≡ j → d ≡ k → e ≡ l → f ≡ m
    → a ++ (b ++ (c ++ (d ++ (e ++ f)))) ≡ g ++ (h ++ (j ++ (k ++ (l ++ m))))
six p q r s t u i = p i ++ (q i ++ (r i ++ (s i ++ (t i ++ u i))))

module _ (r : Report) where
  abbrev entries : List ReportLine
  entries = map (λ e. says.Entry e.0 e.1) r.journal

  abbrev answers : List ReportLine
  answers = map (λ a. says.Answer a.0 a.1 a.2 a.3) r.replies

  abbrev latches : List ReportLine
  latches = map (λ l. says.Latch l.0 l.1 l.2 l.3) r.latches

  abbrev events : List ReportLine
  events = map (λ e. says.Event e.0 e.1) r.events

  abbrev closed : List ReportLine
  closed = map (λ x. says.Freed x.0 x.1) r.freed

  abbrev steps : List ReportLine
  steps = map (λ step. says.Stepped step) r.steps

  -- a function of lines that says nothing of a D line, section by section
  module _ {A : Type 0} (f : ReportLine → Option A) where
    onto : (o : Option A) (xs ys : List A) → cons_option o (xs ++ ys) ≡ cons_option o xs ++ ys
    onto None xs ys = refl
    onto (Some x) xs ys = refl

    said-of : {B : Type 0} (g : B → ReportLine) (xs : List B) → filter_map f (map g xs) ≡ filter_map (λ x. f (g x)) xs
    said-of g [] = refl
    said-of g (x ∷ xs) = ap (cons_option (f (g x))) (said-of g xs)

    said-before : {B : Type 0} (g : B → ReportLine) (xs : List B) (ls : List ReportLine) (more : List A) → filter_map f ls ≡ more
        → filter_map f (map g xs ++ ls) ≡ filter_map (λ x. f (g x)) xs ++ more
    said-before g [] ls more e = e
    said-before g (x ∷ xs) ls more e =
        ap (cons_option (f (g x))) (said-before g xs ls more e) ∙ onto (f (g x)) (filter_map (λ y. f (g y)) xs) more

    sections : f (says.Ended r.end) ≡ None → filter_map f (lines_of r)
        ≡ filter_map (λ e. f (says.Entry e.0 e.1)) r.journal ++ (filter_map (λ a. f (says.Answer a.0 a.1 a.2 a.3)) r.replies
        ++ (filter_map (λ l. f (says.Latch l.0 l.1 l.2 l.3)) r.latches ++ (filter_map (λ e. f (says.Event e.0 e.1)) r.events
        ++ (filter_map (λ x. f (says.Freed x.0 x.1)) r.freed ++ filter_map (λ step. f (says.Stepped step)) r.steps))))
    sections silent =
        said-before _ r.journal _ _ (said-before _ r.replies _ _ (said-before _ r.latches _ _ (said-before _ r.events _ _
        (said-before _ r.freed _ _ (ap (λ o. cons_option o (filter_map f steps)) silent ∙ said-of _ r.steps)))))

  -- the D line is the first behind the others
  end-behind : {A : Type 0} (g : A → ReportLine) → ((x : A) (ls : List ReportLine) → end_said (g x ∷ ls) ≡ end_said ls)
      → (xs : List A) (ls : List ReportLine)
      → end_said (map g xs ++ ls) ≡ end_said ls
  end-behind g skips [] ls = refl
  end-behind g skips (x ∷ xs) ls = skips x (map g xs ++ ls) ∙ end-behind g skips xs ls

  end-back : end_said (lines_of r) ≡ r.end
  end-back =
      end-behind (λ (e : ℕ × ℕ). says.Entry e.0 e.1) (λ e ls. refl) r.journal _
      ∙ (end-behind (λ (a : ℕ × ℕ × ℕ × Reply). says.Answer a.0 a.1 a.2 a.3) (λ a ls. refl) r.replies _
      ∙ (end-behind (λ (l : ℕ × ℕ × ℕ × Option (List ℕ)). says.Latch l.0 l.1 l.2 l.3) (λ l ls. refl) r.latches _
      ∙ (end-behind (λ (e : ℕ × Event). says.Event e.0 e.1) (λ e ls. refl) r.events _
      ∙ end-behind (λ (x : List ℕ × ℕ). says.Freed x.0 x.1) (λ x ls. refl) r.freed (says.Ended r.end ∷ steps))))

  grouped-lines : grouped (lines_of r) ≡ r
  grouped-lines = λ i. record {
    journal =
        (sections entry_said refl ∙ six (all r.journal) (none r.replies) (none r.latches) (none r.events) (none r.freed) (none r.steps)
        ∙ append-nil r.journal) i;
    replies =
        (sections answer_said refl ∙ six (none r.journal) (all r.replies) (none r.latches) (none r.events) (none r.freed) (none r.steps)
        ∙ append-nil r.replies) i;
    latches =
        (sections latch_said refl ∙ six (none r.journal) (none r.replies) (all r.latches) (none r.events) (none r.freed) (none r.steps)
        ∙ append-nil r.latches) i;
    events =
        (sections event_said refl ∙ six (none r.journal) (none r.replies) (none r.latches) (all r.events) (none r.freed) (none r.steps)
        ∙ append-nil r.events) i;
    freed =
        (sections freed_said refl ∙ six (none r.journal) (none r.replies) (none r.latches) (none r.events) (all r.freed) (none r.steps)
        ∙ append-nil r.freed) i;
    end = end-back i;
    steps =
        (sections step_said refl ∙ six (none r.journal) (none r.replies) (none r.latches) (none r.events) (none r.freed) (all r.steps)) i;
  }

  -- Reading

  each-map : {A : Type 0} (P : ReportLine → Type 0) (g : A → ReportLine) (xs : List A) → ((x : A) → IsIn x xs → P (g x))
      → (l : ReportLine) → IsIn l (map g xs) → P l
  each-map P g [] all l is = absurd is
  each-map P g (x ∷ xs) all l is =
      ⊎_elim (λ (e : g x ≡ l). subst P e (all x (inl refl))) (λ later. each-map P g xs (λ y i. all y (inr i)) l later) is

  digest-fits : (d : Option (List ℕ)) → IsFitDigest d → IsDigest d
  digest-fits None fits = tt
  digest-fits (Some digest) fits = (fits.0, recursion_from_All (λ b. b < 256) digest fits.1)

  -- the lines of one letter, each of which fits
  of-letter : {A : Type 0} (place : ℕ) (g : A → ReportLine) → ((x : A) → least_behind (g x) ≡ place)
      → ((x : A) (least : ℕ) → may_stand least (g x) ≡ nat_le least place) → (xs : List A)
      → ((x : A) → IsIn x xs → IsFitLine (g x)) → AreOf place (map g xs)
  of-letter place g behind may xs fit = record {
    fit = each-map IsFitLine g xs fit;
    behind = each-map (λ l. least_behind l ≡ place) g xs (λ x i. behind x);
    may = each-map (λ l. (least : ℕ) → least ≤ place → may_stand least l ≡ true) g xs (λ x i least le. may x least ∙ le-leb least place le);
  }

  module _ (F : IsFitReport r) where
    entries-of : AreOf 0 entries
    entries-of = of-letter 0 _ (λ e. refl) (λ e least. refl) r.journal (λ e i. all_in IsFitEntry r.journal e F.journal i)

    answers-of : AreOf 1 answers
    answers-of = of-letter 1 _ (λ a. refl) (λ a least. refl) r.replies (λ a i. all_in IsFitAnswer r.replies a F.replies i)

    latches-of : AreOf 2 latches
    latches-of =
        of-letter 2 _ (λ l. refl) (λ l least. refl) r.latches
        (λ l i. let f = all_in IsFitLatch r.latches l F.latches i in (f.0, f.1, f.2, digest-fits l.3 f.3))

    events-of : AreOf 3 events
    events-of = of-letter 3 _ (λ e. refl) (λ e least. refl) r.events (λ e i. all_in IsFitTold r.events e F.events i)

    freed-of : AreOf 4 closed
    freed-of = of-letter 4 _ (λ x. refl) (λ x least. refl) r.freed (λ x i. all_in IsFitFreed r.freed x F.freed i)

    steps-fit : Fit steps
    steps-fit = each-map IsFitLine (λ (step : Step). says.Stepped step) r.steps (λ step i. all_in IsFitStep r.steps step F.steps i)

    lines-read : Reads 0 (lines_of r)
    lines-read =
        section 0 entries _ entries-of (earlier 0 1 _ (omega arith)
        (section 1 answers _ answers-of (earlier 1 2 _ (omega arith)
        (section 2 latches _ latches-of (earlier 2 3 _ (omega arith)
        (section 3 events _ events-of (earlier 3 4 _ (omega arith)
        (section 4 closed _ freed-of (earlier 4 5 _ (omega arith) (end-reads r.end steps F.end (steps-read r.steps steps-fit)))))))))))

    both-fit : (xs ys : List ReportLine) → Fit xs → Fit ys → Fit (xs ++ ys)
    both-fit xs ys a b l i = ⊎_elim (λ (x : IsIn l xs). a l x) (λ y. b l y) (in_either xs ys l i)

    all-fit : Fit (lines_of r)
    all-fit =
        both-fit entries _ entries-of.fit (both-fit answers _ answers-of.fit (both-fit latches _ latches-of.fit
        (both-fit events _ events-of.fit (both-fit closed _ freed-of.fit
        (λ l i. ⊎_elim (λ (e : says.Ended r.end ≡ l). subst IsFitLine e F.end) (λ later. steps-fit l later) i)))))

    pub read-back : report_read (report_text r) ≡ Ok r
    unfolding report_read
    read-back =
        ap (λ rows. grouped_where_read (report_lines_read 0 1 rows)) (rows-all (lines_of r) all-fit)
        ∙ (ap grouped_where_read (lines-read 0 1 (omega arith)) ∙ ap Ok grouped-lines)

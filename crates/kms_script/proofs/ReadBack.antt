-- A script and its schedule are read back.
use Rattle.std.proofs.Common.{◌≡◌, ℕ, ◌+◌, Bool, true, false, inl, inr, List, [], ◌∷◌, ◌++◌, length, cond, Ok, Err, refl, sym, ap, ◌∙◌}
use Rattle.std.proofs.Common.{subst, arith}
use Rattle.std.specs.Prelude.{Result, codes, ◌==◌, ◌&&◌}
use Rattle.std.specs.List.{flat_map}
use Rattle.std.specs.Str.{bytes_eq}
use Rattle.std.proofs.lemmas.Bool.{cases_Bool, le-ltb}
use Rattle.std.proofs.lemmas.Slice.Eq.{bytes_eq-Decides}
use Rattle.kms_model.specs.declared.scripts.Part.TheVariants as part
use Rattle.kms_model.specs.declared.scripts.Script.{Script}
use Rattle.kms_model.specs.declared.scripts.Why.TheVariants.{Form, Limit}
use Rattle.kms_model.specs.Report.History.{step_line}
use Rattle.kms_model.specs.Script.CommandLines.{command_read, label_read, thing_read}
use Rattle.kms_model.specs.Script.InputLines.{Fault, Row, input_limit, rows_of}
use Rattle.kms_model.specs.Script.Schedules.{Parts, ends_script, input_of, parts_after, steps_in, with_schedule}
use Rattle.kms_model.specs.Script.Spelling.{spelling, spelt_lines}
use Rattle.kms_model.specs.Script.WholeInput.{Draft, blank_draft, command_line, crtcs_line, first_line, is_nil, later_line, line_after}
use Rattle.kms_model.specs.Script.WholeInput.{lines_after, missing_line, script_in, script_line}
use Rattle.kms_script.proofs.Accepted.{accepted}
use Rattle.kms_script.proofs.Drafts.{next_line}
use Rattle.kms_script.proofs.FitSteps.{history_fits}
use Rattle.kms_script.proofs.Inverted.{map_some}
use Rattle.kms_script.proofs.RowsAgain.{ended_row, first_row, rows_again}
use Rattle.kms_script.proofs.RowsSpelt.{is_line, rows_are_text}
use Rattle.kms_script.proofs.Sizes.{resized}
use Rattle.kms_script.proofs.SpelledRows.{ended_text}
use Rattle.kms_script.proofs.StepTexts.{steps_are_read}
use Rattle.kms_script.proofs.WithinLimit.{bytes_in, line_is_spelt, no_fault, spelt_is_read}
use Rattle.kms_script.specs.Scheduled.{SchedulesAreReadBack, scheduled}
use Rattle.kms_script.specs.Stated.{parts_of}

-- No line of a script is the word `schedule`.

no_form : (a b : Bool) (next : Draft) → cond a (Err Form) (cond b (Err Form) (Err Form)) ≡ accepted next → ⊥
no_form true b next e = absurd cc
no_form false true next e = absurd cc
no_form false false next e = absurd cc

refused : (d next : Draft) → script_line d (codes "schedule") ≡ Ok next → ⊥
unfolding script_line first_line crtcs_line later_line command_line command_read label_read thing_read
refused d next e = no_form (d.head == 0) (d.head == 1) next e

never : (t : Bool) → (t && false) ≡ false
never true = refl
never false = refl

not_last : (d next : Draft) (row : Row) → line_after d row ≡ Ok next → ends_script part.Schedule d row ≡ false
not_last d next row e =
    let line = is_line (resized 0 d) (resized 0 next) row (line_is_spelt 0 d next row e) in
    elim (cases_Bool (bytes_eq row.text (codes "schedule"))) [
      | inl is ↦ absurd (refused (resized 0 d) (resized 0 next)
          (subst (λ (w : List ℕ). script_line (resized 0 d) w ≡ Ok (resized 0 next)) ((bytes_eq-Decides row.text (codes "schedule")).0 is)
          line.accepted))
      | inr other ↦ rw other (never row.is_ended)
    ]

-- the lines of a whole script lead to what stands behind them
record IsBehind (size n : ℕ) (d last : Draft) (rows more : List Row) : Type 0 where
  at : ℕ
  same : parts_after part.Schedule size d n (rows ++ more) ≡ parts_after part.Schedule size last at more
  whole : is_nil last.conns ≡ false

abbrev drafted : Draft → Result Draft Fault
drafted d = Ok d

ended_whole : (none : Bool) (n : ℕ) (d last : Draft) → cond none (Err (missing_line n)) (drafted d) ≡ drafted last
    → (none ≡ false) × (d ≡ last)
ended_whole true n d last e = absurd cc
ended_whole false n d last e = (refl, same d last e)
  where
    same : (d last : Draft) → drafted d ≡ drafted last → d ≡ last
    same d last e = cc

behind : (size n : ℕ) (d last : Draft) (rows more : List Row) → lines_after d n rows ≡ Ok last → IsBehind size n d last rows more
unfolding lines_after
behind size n d last [] more e =
    let end = ended_whole (is_nil d.conns) n d last e in
    record {
      at = n;
      same = ap (λ (x : Draft). parts_after part.Schedule size x n more) end.1;
      whole = ap (λ (x : Draft). is_nil x.conns)
          (sym end.1) ∙ end.0;
    }
behind size n d last (row ∷ rows) more e =
    let u = no_fault n (line_after d row) _ last e in
    let later = behind size (n + 1) u.next last rows more u.then in
    record {
      at = later.at;
      same = next_line part.Schedule size d u.next n row (rows ++ more) (not_last d u.next row u.is) u.is ∙
          later.same;
      whole = later.whole;
    }

schedule_line : (size n : ℕ) (d : Draft) (rows : List Row) → is_nil d.conns ≡ false
    → parts_after part.Schedule size d n (ended_row (codes "schedule") ∷ rows) ≡ with_schedule size d (steps_in (n + 1) rows)
unfolding parts_after
schedule_line size n d rows some = rw some refl

not_long : (long : Bool) (fault : Fault) (r : Result Parts Fault) → long ≡ false → cond long (Err fault) r ≡ r
not_long true fault r e = absurd cc
not_long false fault r e = refl

pub read_back : SchedulesAreReadBack
unfolding input_of
read_back s h formed is short small =
    let d = map_some script_in (spelt_lines blank_draft (rows_of formed.bytes)) s formed.spells in
    let rows = rows_of formed.bytes in
    let own : spelling s ≡ flat_map ended_text rows = ap spelling (sym d.makes) ∙ sym (rows_are_text d.value rows d.given).1 in
    let all : bytes_in rows ≡ length (spelling s) = ap length (sym own) in
    let size = length (scheduled s h) in
    let steps : List ℕ = flat_map step_line h in
    let cut : rows_of (scheduled s h) ≡ rows ++ ended_row (codes "schedule") ∷ rows_of steps =
    ap (λ (bs : List ℕ). rows_of (bs ++ (codes "schedule\n" ++ steps))) own ∙ rows_again blank_draft d.value rows
    (codes "schedule\n" ++ steps) d.given
    ∙ ap (λ (more : List Row). rows ++ more) (first_row (codes "schedule") steps refl) in
    let last : Draft = resized (0 + bytes_in rows) d.value in
    let read : lines_after blank_draft 1 rows ≡ Ok last = spelt_is_read 0 1 blank_draft d.value rows d.given (omega (arith, all, short)) in
    let b = behind size 1 blank_draft last rows (ended_row (codes "schedule") ∷ rows_of steps) read in
    not_long _ (record { line = 0; why = Limit }) _ (le-ltb input_limit size small)
    ∙ ap (parts_after part.Schedule size blank_draft 1) cut ∙ b.same ∙ schedule_line size b.at last (rows_of steps) b.whole
    ∙ ap (with_schedule size last) (steps_are_read (b.at + 1) h (history_fits s h formed is))
    ∙ ap (λ (x : Script). Ok (parts_of x h size)) d.makes

-- What was read with a schedule has the text of both.
use Rattle.std.proofs.Common.{◌≡◌, ℕ, ◌+◌, inl, inr, Bool, true, false, List, [], ◌∷◌, ◌++◌, length, cond, Option, Some, None, Ok, Err}
use Rattle.std.proofs.Common.{refl, sym, ap, ◌∙◌, subst}
use Rattle.std.specs.Prelude.{IfOk, Result, codes, not, ◌&&◌}
use Rattle.std.specs.List.{flat_map, list_all}
use Rattle.std.specs.Str.{bytes_eq}
use Rattle.std.proofs.lemmas.Bool.{and_from, and_parts}
use Rattle.std.proofs.lemmas.List.Concat.{flat_map-append}
use Rattle.std.proofs.lemmas.List.Folds.{list_all-append}
use Rattle.std.proofs.lemmas.Slice.Eq.{bytes_eq-Decides}
use Rattle.kms_model.specs.declared.replies.Step.{Step}
use Rattle.kms_model.specs.declared.scripts.Part.{Part}
use Rattle.kms_model.specs.declared.scripts.Part.TheVariants as part
use Rattle.kms_model.specs.Report.History.{step_line}
use Rattle.kms_model.specs.Script.Grammar.{is_printable}
use Rattle.kms_model.specs.Script.InputLines.{Fault, Row, rows_of}
use Rattle.kms_model.specs.Script.Schedules.{Parts, input_of, step_in_row, step_read, steps_in, with_schedule, with_step}
use Rattle.kms_model.specs.Script.WholeInput.{Draft, is_nil, script_in}
use Rattle.kms_script.specs.declared.faults.ParseError.{ParseError}
use Rattle.kms_script.specs.declared.inputs.Parsed.{Parsed}
use Rattle.kms_script.proofs.Accepted.{on_from}
use Rattle.kms_script.proofs.Fronts.{HasEnd, IsFrontText, front_text, input_front, same_parts}
use Rattle.kms_script.proofs.SpelledRows.{all_ended, ended_text, rows_spell}
use Rattle.kms_script.proofs.StepLines.{line_ended}
use Rattle.kms_script.proofs.StepsSpelt.{line_of_step}
use Rattle.kms_script.specs.Scheduled.{IsScheduleText, scheduled}
use Rattle.kms_script.specs.Stated.{Gives, parts_in}

abbrev read_step : Step → Result Step Fault
read_step step = Ok step

abbrev read_steps : List Step → Result (List Step) Fault
read_steps steps = Ok steps

same_step : (a b : Step) → read_step a ≡ read_step b → a ≡ b
same_step a b e = cc

same_steps : (a b : List Step) → read_steps a ≡ read_steps b → a ≡ b
same_steps a b e = cc

-- a line of which a step was read
record IsStepRow (row : Row) (step : Step) : Type 0 where
  ended : row.is_ended ≡ true
  read : step_read row.text ≡ Some step

no_faults : (bytes cut : Bool) (one other : Fault) (r : Result Step Fault) (step : Step)
    → cond bytes (Err one) (cond cut (Err other) r) ≡ Ok step → (cut ≡ false) × (r ≡ Ok step)
no_faults true cut one other r step e = absurd cc
no_faults false true one other r step e = absurd cc
no_faults false false one other r step e = (refl, e)

is_step_row : (n : ℕ) (row : Row) (step : Step) → step_in_row n row ≡ Ok step → IsStepRow row step
unfolding step_in_row
is_step_row n row step e = go (step_read row.text) refl
  where
    go : (o : Option Step) → step_read row.text ≡ o → IsStepRow row step
    go None is = (let g = rw is at e in let passed = no_faults (not (list_all is_printable row.text)) (not row.is_ended) _ _ _ step g
        in let wrong = passed.1 in absurd cc)
    go (Some found) is =
        let g = rw is at e in
        let passed = no_faults (not (list_all is_printable row.text)) (not row.is_ended) _ _ _ step g in
        record { ended = on_from row.is_ended passed.0; read = is ∙ ap Some (same_step found step passed.1) }

-- the first step of several, and the others
record HasStep (r : Result Step Fault) (q : Result (List Step) Fault) (steps : List Step) : Type 0 where
  step : Step
  later : List Step
  first : r ≡ Ok step
  rest : q ≡ Ok later
  are : step ∷ later ≡ steps

has_step : (r : Result Step Fault) (q : Result (List Step) Fault) (steps : List Step) → with_step r q ≡ Ok steps → HasStep r q steps
has_step (Ok step) (Ok later) steps e =
    record { step = step; later = later; first = refl; rest = refl; are = same_steps (step ∷ later) steps e }
has_step (Ok step) (Err fault) steps e = absurd cc
has_step (Err fault) q steps e = absurd cc

-- the lines of steps are their text
record AreSpelt (rows : List Row) (steps : List Step) : Type 0 where
  ended : all_ended rows ≡ true
  text : flat_map ended_text rows ≡ flat_map step_line steps

steps_spelt : (n : ℕ) (rows : List Row) (steps : List Step) → steps_in n rows ≡ Ok steps → AreSpelt rows steps
unfolding steps_in
steps_spelt n [] steps e = record { ended = refl; text = ap (flat_map step_line) (same_steps [] steps e) }
steps_spelt n (row ∷ rows) steps e =
    let h = has_step (step_in_row n row) (steps_in (n + 1) rows) steps e in
    let first = is_step_row n row h.step h.first in
    let later = steps_spelt (n + 1) rows h.later h.rest in
    let line : ended_text row ≡ step_line h.step = ap (λ (bs : List ℕ). bs ++ 10 ∷ []) (line_of_step row.text h.step first.read).text ∙ sym
    (line_ended h.step) in
    record {
      ended = rw (first.ended, later.ended) refl;
      text = rw (line, later.text) (ap (flat_map step_line) h.are);
    }

steps_given : (size : ℕ) (d : Draft) (r : Result (List Step) Fault) (x : Parts) → with_schedule size d r ≡ Ok x → r ≡ Ok x.steps
steps_given size d (Ok steps) x e =
    ap (λ (y : Parts). read_steps y.steps) (same_parts (record { script = script_in d; steps = steps; rest = size }) x e)
steps_given size d (Err fault) x e = absurd cc

-- the word `schedule` is the line that ends the script
ends_by_word : (ended word some : Bool) → (ended && (word && some)) ≡ true → (ended ≡ true) × (word ≡ true)
ends_by_word ended word some e = let first = and_parts ended (word && some) e in (first.0, (and_parts word some first.1).0)

-- the text of a script, and of a schedule behind it
pub schedule_text : (bytes : List ℕ) (x : Parts) → input_of part.Schedule bytes ≡ Ok x → IsScheduleText bytes x.script x.steps
schedule_text bytes x e =
    let f = input_front part.Schedule bytes x e in
    let t = front_text 1 f.last f.front x.script f.read f.makes in
    elim f.behind [
      | inl none ↦ inr (sym (rows_spell bytes (ap all_ended none.0 ∙ t.ended)) ∙ ap (flat_map ended_text) none.0 ∙ t.text, none.1)
      | inr end ↦ inl (with_end f.last f.front t end)
    ]
  where
    with_end : (last : Draft) (front : List Row) → IsFrontText front x.script
        → HasEnd part.Schedule (length bytes) last front (rows_of bytes) x → bytes ≡ scheduled x.script x.steps
    with_end last front t end =
        let word = ends_by_word end.row.is_ended (bytes_eq end.row.text (codes "schedule")) (not (is_nil last.conns)) end.ends in
        let steps = steps_spelt (end.line + 1) end.more x.steps
        (steps_given (length bytes) last (steps_in (end.line + 1) end.more) x end.then) in
        let first : ended_text end.row ≡ codes "schedule\n" = ap (λ (bs : List ℕ). bs ++ 10 ∷ [])
        ((bytes_eq-Decides end.row.text (codes "schedule")).0 word.1) in
        let ended : all_ended (rows_of bytes) ≡ true = ap all_ended end.are ∙ list_all-append (λ (r : Row). r.is_ended) front
        (end.row ∷ end.more) ∙ and_from _ _ t.ended (and_from _ _ word.0 steps.ended) in
        sym (rows_spell bytes ended) ∙ ap (flat_map ended_text) end.are ∙ flat_map-append ended_text front (end.row ∷ end.more) ∙ rw
        (t.text, first, steps.text) refl

-- what was read of an input with a schedule
pub read_text : (p : Part) (bytes : List ℕ) (r : Result Parsed ParseError) → Gives parts_in r (input_of p bytes) → p ≡ part.Schedule
    → IfOk r (λ x. IsScheduleText bytes x.script x.steps)
read_text p bytes (Ok x) e is = schedule_text bytes (parts_in x) (subst (λ (q : Part). input_of q bytes ≡ Ok (parts_in x)) is e)
read_text p bytes (Err error) e is = tt

-- What is told of an answer has another status than options that are not known.
use Rattle.std.proofs.Common.{◌≡◌, ℕ, List, length, nat_lt, Bool, true, false, Result, Ok, Err, refl}
use Rattle.std.proofs.lemmas.Bool.{eqb-false}
use Rattle.std.specs.Prelude.{if◌then◌else◌}
use Rattle.kms_one_thread.specs.declared.ending.End.{End}
use Rattle.kms_one_thread.specs.declared.ending.End.TheVariants as end
use Rattle.kms_run.specs.StatusText.{status_number, status_of}
use Rattle.kms_run.specs.declared.answers.FullReport.{FullReport}
use Rattle.kms_run.specs.declared.answers.NoAnswer.{NoAnswer}
use Rattle.kms_run.specs.declared.answers.NoAnswer.TheVariants as stops
use Rattle.kms_c.specs.Answered.{told_of_answer}
use Rattle.kms_c.specs.Told.{cut_told, written_told}
use Rattle.kms_c.specs.declared.told.Told.{Told}

either : (b : Bool) (x y : Told) → (x.status ≡ 3 → ⊥) → (y.status ≡ 3 → ⊥) → (if b then x else y).status ≡ 3 → ⊥
either true x y one other = one
either false x y one other = other

of-end : (e : End) → status_number (status_of e) ≡ 3 → ⊥
of-end end.Drained = eqb-false 0 3 refl
of-end end.Dead = eqb-false 5 3 refl
of-end end.Open = eqb-false 8 3 refl

pub known : (answer : Result FullReport NoAnswer) (before : List ℕ) → (told_of_answer answer before).status ≡ 3 → ⊥
known (Ok report) before =
    let count = length report.text in
    either (nat_lt (length before) count) (cut_told count) (written_told (status_of report.ended) count)
    (eqb-false 2 3 refl) (of-end report.ended)
known (Err (stops.Fault line why)) before = eqb-false 4 3 refl
known (Err (stops.Illegal place)) before = eqb-false 7 3 refl
known (Err stops.NoMemory) before = eqb-false 6 3 refl

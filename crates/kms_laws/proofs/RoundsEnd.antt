-- Rounds end, and in each history few steps move: each of them leaves less to do.
use Rattle.std.proofs.Common.{◌≡◌, ℕ, zero, suc, ◌+◌, ◌<◌, ◌≤◌, ◌^◌, List, [], ◌∷◌, length, Bool, true, false, refl, sym, ap, ◌∙◌, subst}
use Rattle.std.proofs.Common.{arith, ⊎_elim}
use Rattle.std.specs.Prelude.{reverse}
use Rattle.std.proofs.lemmas.Bool.{cases_Bool, cases_lt, cond-false, cond-true, eq-eqb}
use Rattle.kms_model.specs.Firsts.{one_if}
use Rattle.kms_model.specs.declared.replies.Step.{Step}
use Rattle.kms_model.specs.declared.scripts.Script.{Script}
use Rattle.kms_model.specs.Machine.Effects.{next}
use Rattle.kms_model.specs.Machine.Histories.{are_legal, at, is_history, legal}
use Rattle.kms_model.specs.Machine.State.{Machine, first_machine}
use Rattle.kms_model.specs.Order.Rounds.{is_still, round, rounds, run_of}
use Rattle.kms_model.specs.Order.Turns.{Progress, does}
use Rattle.kms_model.specs.Script.WellFormed.{IsWellFormed}
use Rattle.kms_laws.specs.Ends.{is_moving, moves_in}
use Rattle.kms_model.proofs.Guards.{legal_parts}
use Rattle.kms_laws.proofs.Basics.{both_bools}
use Rattle.kms_laws.proofs.Finite.{falls, falls-lower, idle-same, left, left-bound}
use Rattle.kms_laws.proofs.Modes.{plain-from}
use Rattle.kms_laws.proofs.Resting.{run-of}
use Rattle.kms_laws.proofs.SmallNumbers.{Counted, along_counted, first_counted, step_counted}
use Rattle.kms_laws.proofs.Turning.{IsRun, Later, later-length, later-run, round-later, run-does}
use Rattle.kms_laws.proofs.Turning.Later.{More, Same}

module _ (s : Script) (formed : IsWellFormed s) where
  counted-run : (run : Progress) → IsRun s run → Counted s (length (reverse run.steps)) run.machine
  counted-run run R =
      subst (Counted s (length (reverse run.steps))) (sym R.same)
      (along_counted s (Counted s) (step_counted s (plain-from s formed)) (reverse run.steps) 0 (length (reverse run.steps))
      (first_machine s.topology) (omega arith) (first_counted s (plain-from s formed)) R.is)

  -- what is done is less to do
  later-lower : {a b : Progress} → Later s a b → IsRun s a → left s b.machine + length b.steps ≤ left s a.machine + length a.steps
  later-lower (Same e) R = let same = ap (λ (z : Progress). left s z.machine + length z.steps) e in omega (arith, same)
  later-lower {a} (More step l mv rest) R =
      let next-later = run-does s a step R l in
      let C = counted-run a R in
      let counted-after = counted-run (does s a step) next-later in
      let less : left s (next s a.machine step) + 1 ≤ left s a.machine =
      falls-lower s formed a.machine (length (reverse a.steps)) C step l (next s a.machine step) refl
      (length (reverse (does s a step).steps)) counted-after (falls s a.machine (length (reverse a.steps)) C step l mv) in
      let later = later-lower rest next-later in
      omega (arith, less, later)

  -- a round with a step leaves less to do
  round-lower : (run : Progress) → IsRun s run → is_still s run ≡ false → left s (round s run).machine + 1 ≤ left s run.machine
  round-lower run R moving =
      let more = round-later s (plain-from s formed) run R in
      let a = later-lower more R in
      let b = later-length s more in
      let ne : length (round s run).steps ≡ length run.steps
      → ⊥ = (λ e. both_bools (is_still s run) (eq-eqb (length (round s run).steps) (length run.steps) e) moving) in
      let c : length run.steps + 1 ≤ length (round s run).steps =
      ⊎_elim (λ (lt : length run.steps < length (round s run).steps). omega (arith, lt))
      (λ (ge : length (round s run).steps ≤ length run.steps). absurd (ne (omega (arith, b, ge))))
      (cases_lt (length run.steps) (length (round s run).steps)) in
      omega (arith, a, c)

  rounds-rest : (most : ℕ) (run : Progress) → IsRun s run → left s run.machine ≤ most → is_still s (rounds s most run) ≡ true
  unfolding rounds
  rounds-rest zero run R l =
      ⊎_elim (λ still. still) (λ moving. absurd (let a = round-lower run R moving in omega (arith, a, l))) (cases_Bool (is_still s run))
  rounds-rest (suc most) run R l =
      ⊎_elim
      (λ still. ap (is_still s) (cond-true (is_still s run) run (rounds s most (round s run)) still) ∙ still)
      (λ moving.
      let less = round-lower run R moving in
      ap (is_still s) (cond-false (is_still s run) run (rounds s most (round s run)) moving)
      ∙ rounds-rest most (round s run) (later-run s (round-later s (plain-from s formed) run R) R) (omega (arith, less, l)))
      (cases_Bool (is_still s run))

  pub rounds-end : (h : List Step) → is_history s h ≡ true → (most : ℕ) → 2 ^ 53 ≤ most → is_still s (rounds s most (run_of s h)) ≡ true
  rounds-end h is most l =
      let R = run-of s h is in
      let bound = left-bound s formed (at s h) (length (reverse (reverse h))) (counted-run (run_of s h) R) in
      rounds-rest most (run_of s h) R (omega (arith, bound, l))

  -- each history has few steps that move
  step-left : (n : ℕ) (m : Machine) (step : Step) → Counted s n m → legal s m step ≡ true → one_if (is_moving m step)
      + left s (next s m step) ≤ left s m
  step-left n m step C l = by_case (is_moving m step) refl
    where
      by_case : (b : Bool) → is_moving m step ≡ b → one_if b + left s (next s m step) ≤ left s m
      by_case true mv =
          let less = falls-lower s formed m n C step l (next s m step) refl (suc n) (step_counted s (plain-from s formed) n m step C l)
          (falls s m n C step l mv) in
          omega (arith, less)
      by_case false mv = let same = idle-same s m step l mv in omega (arith, same)

  moves-few : (h : List Step) (n : ℕ) (m : Machine) → Counted s n m → are_legal s m h ≡ true → moves_in s m h ≤ left s m
  unfolding moves_in are_legal
  moves-few [] n m C is = omega arith
  moves-few (step ∷ steps) n m C is =
      let all = legal_parts s m step steps is in
      let a = step-left n m step C all.first in
      let b = moves-few steps (suc n) (next s m step) (step_counted s (plain-from s formed) n m step C all.first) all.rest in
      omega (arith, a, b)

  pub few-moves : (h : List Step) → is_history s h ≡ true → moves_in s (first_machine s.topology) h < 2 ^ 53
  few-moves h is =
      let C = first_counted s (plain-from s formed) in
      let a = moves-few h 0 (first_machine s.topology) C is in
      let b = left-bound s formed (first_machine s.topology) 0 C in
      omega (arith, a, b)

  pub rounds-end-below : (h : List Step) → is_history s h ≡ true → (most : ℕ) → 2 ^ 53 ≤ suc most → is_still s (rounds s most (run_of s h))
      ≡ true
  rounds-end-below h is most l =
      let R = run-of s h is in
      let bound = left-bound s formed (at s h) (length (reverse (reverse h))) (counted-run (run_of s h) R) in
      rounds-rest most (run_of s h) R (omega (arith, bound, l))

-- The clients' turns in a round, and what a round leaves.
use Rattle.std.proofs.Common.{◌≡◌, ℕ, suc, ◌+◌, ◌-◌, ◌<◌, ◌≤◌, ◌^◌, List, [], ◌∷◌, ◌++◌, length, true, false, sym, ap, ◌∙◌, arith}
use Rattle.std.specs.Prelude.{reverse, ◌==◌}
use Rattle.std.specs.List.{fold, range_with_len}
use Rattle.std.proofs.lemmas.Bool.{eq-eqb, eqb-true, false≢true}
use Rattle.std.proofs.lemmas.List.{reverse-append, reverse-reverse}
use Rattle.kms_model.specs.Firsts.{one_if}
use Rattle.kms_model.specs.declared.replies.Step.{Step}
use Rattle.kms_model.specs.declared.scripts.Script.{Script}
use Rattle.kms_model.specs.Machine.Effects.{next}
use Rattle.kms_model.specs.Machine.Histories.{client_numbers, is_history, run_steps}
use Rattle.kms_model.specs.Machine.State.{Machine, first_machine}
use Rattle.kms_model.specs.Order.Rounds.{is_still, round}
use Rattle.kms_model.specs.Order.Turns.{Progress, does, settles, turn}
use Rattle.kms_model.specs.Script.WellFormed.{IsWellFormed}
use Rattle.kms_laws.specs.Ends.{is_moving, moves_in}
use Rattle.kms_laws.proofs.Modes.{plain-from}
use Rattle.kms_laws.proofs.Resting.{run-of}
use Rattle.kms_laws.proofs.RoundsEnd.{few-moves}
use Rattle.kms_laws.proofs.Turning.{IsRun, Later, later-length, later-run, later-still, round-later, run-does}
use Rattle.kms_laws.proofs.Turning.Later.{More, Same}
use Rattle.kms_core.specs.Run.{Run}
use Rattle.kms_one_thread.specs.Rounds.{ExtendsRun, moves_left, progress}
use Rattle.kms_one_thread.proofs.Histories.{goes_then, progress_length, stays}

-- Turns

-- the turns of so many clients behind a place are left
pub record IsTurning (old now : Run) (place left : ℕ) : Type 0 where
  pub on : ExtendsRun old now
  pub same : fold (turn now.script) (progress now) (range_with_len (place + 1) left)
      ≡ fold (turn old.script) (progress old) (client_numbers old.script)

pub turning_next : (old now new : Run) (place left left' : ℕ) → left ≡ suc left' → IsTurning old now place left → ExtendsRun now new
    → progress new ≡ turn now.script (progress now) (place + 1) → IsTurning old new (place + 1) left'
turning_next old now new place left left' fewer turning on turned = record {
  on = goes_then old now new turning.on on;
  same =
      (λ i. fold (turn (on.script i)) (turned i) (range_with_len (place + 1 + 1) left'))
      ∙ ap (λ n. fold (turn now.script) (progress now) (range_with_len (place + 1) n)) (sym fewer)
      ∙ turning.same;
}

pub turning_last : (old now new : Run) (place left : ℕ) → left ≡ 0 → IsTurning old now place left → progress new
    ≡ settles now.script (progress now) → progress new ≡ round old.script (progress old)
unfolding round
turning_last old now new place left none turning settled =
    let turns : progress now ≡ fold (turn old.script) (progress old) (client_numbers old.script) =
    ap (λ n. fold (turn now.script) (progress now) (range_with_len (place + 1) n)) (sym none) ∙ turning.same in
    settled ∙ (λ i. settles (turning.on.script i) (turns i))

-- What a round tells

pub moved_is : (old new : Run) → progress new ≡ round old.script (progress old) → is_still old.script (progress old)
    ≡ (length new.steps == length old.steps)
moved_is old new rounded =
    (λ i. (ap (λ (p : Progress). length p.steps) (sym rounded) ∙ progress_length new) i == progress_length old i)

-- What a round leaves

moves_more : (s : Script) (m : Machine) (h : List Step) (step : Step) → moves_in s m (h ++ step ∷ []) ≡ moves_in s m h
    + one_if (is_moving (run_steps s m h) step)
unfolding moves_in run_steps
moves_more s m [] step = omega arith
moves_more s m (first ∷ h) step = let rest = moves_more s (next s m first) h step in omega (arith, rest)

-- the moves of a run
abbrev moves : Script → Progress → ℕ
moves s run = moves_in s (first_machine s.topology) (reverse run.steps)

moves_does : (s : Script) (run : Progress) (step : Step) → IsRun s run → is_moving run.machine step ≡ true → moves s (does s run step)
    ≡ moves s run + 1
moves_does s run step is moving =
    ap (moves_in s (first_machine s.topology)) (reverse-append (step ∷ []) run.steps)
    ∙ moves_more s (first_machine s.topology) (reverse run.steps) step
    ∙ ap (λ m. moves s run + one_if (is_moving m step)) (sym is.same)
    ∙ ap (λ b. moves s run + one_if b) moving

-- each step that a run goes on by moves
later_moves : (s : Script) {a b : Progress} → Later s a b → IsRun s a → moves s b + length a.steps ≡ moves s a + length b.steps
later_moves s {a} (Same e) is = (λ i. moves s (e i) + length a.steps) ∙ ap (λ (p : Progress). moves s a + length p.steps) (sym e)
later_moves s {a} (More step may moving rest) is =
    let later = later_moves s rest (run-does s a step is may) in
    let one = moves_does s a step is moving in
    omega (arith, later, one)

-- a round with a step leaves fewer moves
pub round_less : (old new : Run) → IsWellFormed old.script → is_history old.script old.steps ≡ true → new.script ≡ old.script → progress new
    ≡ round old.script (progress old) → is_still old.script (progress old) ≡ false
    → moves_left new < moves_left old
round_less old new formed is same rounded moving =
    let s = old.script in
    let R = run-of s old.steps is in
    let later = round-later s (plain-from s formed) (progress old) R in
    let moved = later_moves s later R in
    let longer = later-length s later in
    let differ : length (round s (progress old)).steps ≡ length (progress old).steps
    → ⊥ = λ e. false≢true (sym moving ∙ eq-eqb (length (round s (progress old)).steps) (length (progress old).steps) e) in
    let few = few-moves s formed (reverse (round s (progress old)).steps) (later-run s later R).is in
    let before : moves s (progress old) ≡ moves_in s (first_machine s.topology) old.steps = ap (moves_in s (first_machine s.topology))
    (reverse-reverse old.steps) in
    let after : moves s (round s (progress old)) ≡ moves_in new.script (first_machine new.script.topology) new.steps =
    (λ i. moves (sym same i) (sym rounded i)) ∙ ap (moves_in new.script (first_machine new.script.topology)) (reverse-reverse new.steps) in
    less (length (progress old).steps) (length (round s (progress old)).steps) longer differ moved few before after
  where
    less : {ma mb na nb : ℕ} → (la lb : ℕ) → la ≤ lb → (lb ≡ la → ⊥) → mb + la ≡ ma + lb → mb < 2 ^ 53 → ma ≡ na → mb ≡ nb → 2 ^ 53 - nb
        < 2 ^ 53 - na
    less la lb longer differ moved few before after = omega (arith, longer, differ, moved, few, before, after)

-- a round without a step changes nothing
pub round_still : (old new : Run) → IsWellFormed old.script → is_history old.script old.steps ≡ true → new.script ≡ old.script
    → progress new ≡ round old.script (progress old) → is_still old.script (progress old) ≡ true → new ≡ old
round_still old new formed is same rounded still =
    let s = old.script in
    let none = later-still s (round-later s (plain-from s formed) (progress old) (run-of s old.steps is))
    (eqb-true (length (round s (progress old)).steps) (length (progress old).steps) still) in
    let steps = sym (reverse-reverse new.steps) ∙ ap (λ (p : Progress). reverse p.steps) (rounded ∙ none) ∙ reverse-reverse old.steps in
    λ i. record { script = same i; steps = steps i }

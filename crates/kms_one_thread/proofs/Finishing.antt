-- A history that is continued to its end.
use Rattle.std.proofs.Common.{◌≡◌, ℕ, zero, suc, [], ◌∷◌, true, false, refl, sym, ap, ◌∙◌, arith}
use Rattle.std.specs.Prelude.{reverse}
use Rattle.std.proofs.lemmas.Bool.{cond-false, cond-true, false≢true}
use Rattle.std.proofs.lemmas.List.{reverse-reverse}
use Rattle.kms_model.specs.declared.replies.Step.TheVariants.{Stall}
use Rattle.kms_model.specs.declared.scripts.Script.{Script}
use Rattle.kms_model.specs.Machine.Histories.{is_history, legal}
use Rattle.kms_model.specs.Order.Rounds.{IsFinished, ends, is_still, round, rounds}
use Rattle.kms_model.specs.Order.Turns.{Progress, does}
use Rattle.kms_model.specs.Script.WellFormed.{IsWellFormed}
use Rattle.kms_laws.specs.Ends.{RoundsEnd}
use Rattle.kms_core.specs.Run.{Run, gains, machine}
use Rattle.kms_one_thread.specs.Rounds.{ExtendsRun, progress}
use Rattle.kms_one_thread.proofs.Histories.{goes_then, progress_step, stays}

pub ended : (old new : Run) → legal old.script (machine old) Stall ≡ true → new ≡ gains old (Stall ∷ []) → progress new
    ≡ ends old.script (progress old)
ended old new dead after = progress_step old new Stall after ∙ sym
    (cond-true (legal old.script (machine old) Stall) (does old.script (progress old) Stall) (progress old) dead)

rounds_none : (s : Script) (run : Progress) → rounds s zero run ≡ run
unfolding rounds
rounds_none s run = refl

rounds_some : (s : Script) (left : ℕ) (run : Progress) → is_still s run ≡ false → rounds s (suc left) run ≡ rounds s left (round s run)
unfolding rounds
rounds_some s left run moving = cond-false (is_still s run) run (rounds s left (round s run)) moving

rounds_still : (s : Script) (left : ℕ) (run : Progress) → is_still s run ≡ true → rounds s left run ≡ run
unfolding rounds
rounds_still s zero run still = refl
rounds_still s (suc left) run still = cond-true (is_still s run) run (rounds s left (round s run)) still

-- the most rounds that a history may still have with a step
abbrev pub most_rounds : ℕ
most_rounds = 9007199254740991

-- with some number of rounds more, all that a history may still have are done
pub record IsFinishing (old now : Run) : Type 0 where
  pub on : ExtendsRun old now
  pub left : ℕ
  pub same : rounds now.script left (progress now) ≡ rounds old.script most_rounds (progress old)

pub finishing_first : (old : Run) → IsFinishing old old
finishing_first old = record { on = stays old; left = most_rounds; same = refl }

module _ (old : Run) (formed : IsWellFormed old.script) (is : is_history old.script old.steps ≡ true) (law : RoundsEnd) where
  all_still : is_still old.script (rounds old.script most_rounds (progress old)) ≡ true
  all_still = law old.script old.steps formed is most_rounds (omega arith)

  pub finishing_next : (now new : Run) → IsFinishing old now → is_still now.script (progress now) ≡ false → ExtendsRun now new
      → progress new ≡ round now.script (progress now) → IsFinishing old new
  finishing_next now new finishing moving on rounded = by_left finishing.left refl
    where
      by_left : (left : ℕ) → finishing.left ≡ left → IsFinishing old new
      by_left zero none =
          let whole : progress now ≡ rounds old.script most_rounds (progress old) = sym (rounds_none now.script (progress now)) ∙ ap
          (λ n. rounds now.script n (progress now)) (sym none) ∙ finishing.same in
          let still : is_still now.script (progress now) ≡ true = (λ i. is_still (finishing.on.script i) (whole i)) ∙ all_still in
          absurd (false≢true (sym moving ∙ still))
      by_left (suc left) some = record {
        on = goes_then old now new finishing.on on;
        left = left;
        same =
            (λ i. rounds (on.script i) left (rounded i))
            ∙ sym (rounds_some now.script left (progress now) moving)
            ∙ ap (λ n. rounds now.script n (progress now)) (sym some)
            ∙ finishing.same;
      }

  -- a round without a step leaves the history as it was, which is then ended
  pub finished_at : (now last new : Run) → IsFinishing old now → is_still now.script (progress now) ≡ true → last ≡ now → progress new
      ≡ ends last.script (progress last) → IsFinished old.script old.steps new.steps
  finished_at now last new finishing still same end =
      let whole : progress now ≡ rounds old.script most_rounds (progress old) = sym
      (rounds_still now.script finishing.left (progress now) still) ∙ finishing.same in
      record {
        most = most_rounds;
        still = all_still;
        steps =
            sym (reverse-reverse new.steps)
            ∙ ap (λ (p : Progress). reverse p.steps) end
            ∙ ap (λ (r : Run). reverse (ends r.script (progress r)).steps) same
            ∙ (λ i. reverse (ends (finishing.on.script i) (whole i)).steps);
      }

-- A round has no step exactly where nothing may be done, which is where the history is drained or dead; so the order of one
-- thread, where it ends, ends there.
use Rattle.std.proofs.Common.{◌≡◌, ℕ, zero, suc, ◌+◌, ◌*◌, List, [], ◌∷◌, ◌++◌, length, Bool, true, false, not, Option, Some, None, refl}
use Rattle.std.proofs.Common.{sym, ap, ◌∙◌, subst, arith, inl, inr, ◌⊎◌, ⊎_elim}
use Rattle.std.specs.Prelude.{if◌then◌else◌, find, ◌↔◌}
use Rattle.std.specs.List.{fold, range_with_len}
use Rattle.std.proofs.lemmas.Bool.{and_from, and_right, cases_Bool, cond-false, cond-true, eq-eqb, eqb-true, false_from_ne_true, or_left}
use Rattle.std.proofs.lemmas.Bool.{or_right}
use Rattle.std.proofs.lemmas.List.{reverse-reverse}
use Rattle.kms_model.specs.declared.replies.Step.{Step}
use Rattle.kms_model.specs.declared.replies.Step.TheVariants.{Return, Stall}
use Rattle.kms_model.specs.declared.scripts.Script.{Script}
use Rattle.kms_model.specs.Firsts.{first_some}
use Rattle.kms_model.specs.Machine.Commits.{lockable}
use Rattle.kms_model.specs.Machine.Effects.{next}
use Rattle.kms_model.specs.Machine.Histories.{are_legal, at, client_numbers, commit_numbers, is_at_end, is_dead, is_drained, is_enabled}
use Rattle.kms_model.specs.Machine.Histories.{is_history, legal, steps_of_commit, steps_with_go}
use Rattle.kms_model.specs.Machine.State.{Machine}
use Rattle.kms_model.specs.Machine.Steps.{may}
use Rattle.kms_model.specs.Order.Rounds.{IsFinished, ends, is_still, round, rounds, run_of}
use Rattle.kms_model.specs.Order.Turns.{Progress, client_goes, client_step, does, does_then, is_answering, most_of_turn, returns, settles}
use Rattle.kms_model.specs.Order.Turns.{tail_step, tails_go, turn}
use Rattle.kms_model.proofs.Items.{IsIn, or_else-nones}
use Rattle.kms_laws.specs.Ends.{EndsOver, IsOver}
use Rattle.kms_laws.specs.Laws.{can_move}
use Rattle.kms_laws.proofs.Basics.{both_bools}
use Rattle.kms_laws.proofs.Drained.{drained-unable, no_go}
use Rattle.kms_laws.proofs.NeverStuck.{Along, WasEnded, can-ended, stuck-from}
use Rattle.kms_laws.proofs.Quiet.{IsQuiet, find-none, go-no-stall, legal-may, quiet-unable, unable-quiet}
use Rattle.kms_laws.proofs.Steps.{IsPlainScript}
use Rattle.kms_laws.proofs.Turning.{IsRun, Later, along_run, between, client-legal, goes-later, later-length, later-run, later-still}
use Rattle.kms_laws.proofs.Turning.{later-steps, later-trans, returns-later, round-later, rounds-later, run-does, settles-later, tail-legal}
use Rattle.kms_laws.proofs.Turning.{tails-later, turn-later, turns-later}
use Rattle.kms_laws.proofs.Turning.Later.{More, Same}

four-more : (n : ℕ) → n + 4 ≡ suc (n + 3)
four-more n = omega arith

module _ (s : Script) (plain : IsPlainScript s) where
  -- From quiet to a round without a step

  goes-quiet : (most client : ℕ) (run : Progress) → client_step s run.machine client ≡ None → client_goes s most client run ≡ run
  unfolding client_goes
  goes-quiet zero client run e = refl
  goes-quiet (suc most) client run e = ap (does_then s (λ step done. if is_answering step then done else client_goes s most client done)
      run) e

  tails-quiet : (most : ℕ) (run : Progress) → tail_step s run.machine ≡ None → tails_go s most run ≡ run
  unfolding tails_go
  tails-quiet zero run e = refl
  tails-quiet (suc most) run e = ap (does_then s (λ step done. tails_go s most done) run) e

  returns-quiet : (client : ℕ) (run : Progress) → legal s run.machine (Return client) ≡ false → returns s client run ≡ run
  returns-quiet client run e = cond-false (legal s run.machine (Return client)) (does s run (Return client)) run e

  turn-quiet : (client : ℕ) (run : Progress) → IsQuiet s run.machine → IsIn client (client_numbers s) → turn s run client ≡ run
  unfolding turn
  turn-quiet client run Q ic = by_end (is_at_end s run.machine client) refl
    where
      by_end : (b : Bool) → is_at_end s run.machine client ≡ b
          → (if b then run else returns s client (settles s (client_goes s (most_of_turn s.topology) client run))) ≡ run
      by_end true e = refl
      by_end false e =
          ap (λ z. returns s client (settles s z)) (goes-quiet (most_of_turn s.topology) client run (Q.clients client ic e))
          ∙ ap (returns s client) (tails-quiet (31 * length run.machine.device.commits) run Q.tails)
          ∙ returns-quiet client run (Q.returns client ic e)

  turns-quiet : (clients : List ℕ) (run : Progress) → IsQuiet s run.machine
      → ((client : ℕ) → IsIn client clients → IsIn client (client_numbers s)) → fold (turn s) run clients ≡ run
  turns-quiet [] run Q all = refl
  turns-quiet (client ∷ clients) run Q all =
      ap (λ z. fold (turn s) z clients) (turn-quiet client run Q (all client (inl refl))) ∙ turns-quiet clients run Q
      (λ other is. all other (inr is))

  quiet-still : (run : Progress) → IsQuiet s run.machine → is_still s run ≡ true
  unfolding round
  quiet-still run Q =
      eq-eqb (length (round s run).steps) (length run.steps)
      (ap (λ (z : Progress). length z.steps) (ap (settles s) (turns-quiet (client_numbers s) run Q (λ client is. is)) ∙ tails-quiet
      (31 * length run.machine.device.commits) run Q.tails))

  -- and back

  goes-still : (most client : ℕ) (run : Progress) → IsRun s run → client_goes s (suc most) client run ≡ run
      → client_step s run.machine client ≡ None
  unfolding client_goes
  goes-still most client run R e = by_step (client_step s run.machine client) refl
    where
      by_step : (o : Option Step) → client_step s run.machine client ≡ o → o ≡ None
      by_step None is = refl
      by_step (Some step) is = absurd (longer (is_answering step)
          (sym (ap (does_then s (λ step done. if is_answering step then done else client_goes s most client done) run) is) ∙ e))
        where
          longer : (b : Bool) → (if b then does s run step else client_goes s most client (does s run step)) ≡ run → ⊥
          longer true same = let l = ap (λ (z : Progress). length z.steps) same in omega (arith, l)
          longer false same =
              let r = later-length s (goes-later s plain most client (does s run step)
              (run-does s run step R (client-legal s run.machine (along_run s plain run R) client step is))) in
              let l = ap (λ (z : Progress). length z.steps) same in omega (arith, r, l)

  tails-still : (most : ℕ) (run : Progress) → IsRun s run → tails_go s (suc most) run ≡ run → tail_step s run.machine ≡ None
  unfolding tails_go
  tails-still most run R e = by_step (tail_step s run.machine) refl
    where
      by_step : (o : Option Step) → tail_step s run.machine ≡ o → o ≡ None
      by_step None is = refl
      by_step (Some step) is =
          let same = sym (ap (does_then s (λ step done. tails_go s most done) run) is) ∙ e in
          let r = later-length s (tails-later s plain most (does s run step) (run-does s run step R (tail-legal s run.machine step is))) in
          let l = ap (λ (z : Progress). length z.steps) same in absurd (omega (arith, r, l))

  -- without commits there is no tail
  no_tails : (run : Progress) → IsRun s run → length run.machine.device.commits ≡ 0 → tail_step s run.machine ≡ None
  unfolding tail_step
  no_tails run R e =
      or_else-nones (first_some (λ k. find (legal s run.machine) (steps_of_commit s.topology k)) (commit_numbers run.machine))
      (find (legal s run.machine) (steps_with_go s.topology run.machine))
      (ap (λ n. first_some (λ k. find (legal s run.machine) (steps_of_commit s.topology k)) (range_with_len 0 n)) e)
      (find-none (legal s run.machine) (steps_with_go s.topology run.machine)
      (λ step is. false_from_ne_true (legal s run.machine step) (λ l.
      both_bools _ (legal_may step is l) (no_go s run.machine (along_run s plain run R).facts.holds (λ k lt. absurd (omega (arith, lt, e)))
      step is))))
    where
      legal_may : (step : Step) → IsIn step (steps_with_go s.topology run.machine) → legal s run.machine step ≡ true
          → may s run.machine step ≡ true
      legal_may step is l =
          ⊎_elim
          (λ stall. absurd (go-no-stall s run.machine (subst (λ z. IsIn z (steps_with_go s.topology run.machine)) stall is)))
          (λ may_be. may_be)
          (legal-may s run.machine step l)

  settles-still : (run : Progress) → IsRun s run → settles s run ≡ run → tail_step s run.machine ≡ None
  settles-still run R e = by_count (length run.machine.device.commits) refl
    where
      by_count : (n : ℕ) → length run.machine.device.commits ≡ n → tail_step s run.machine ≡ None
      by_count zero n = no_tails run R n
      by_count (suc k) n =
          let more : 31 * length run.machine.device.commits ≡ suc (30 + 31 * k) = ap (λ z. 31 * z) n ∙ omega arith in
          tails-still (30 + 31 * k) run R (ap (λ z. tails_go s z run) (sym more) ∙ e)

  returns-still : (client : ℕ) (run : Progress) → returns s client run ≡ run → legal s run.machine (Return client) ≡ false
  returns-still client run e =
      false_from_ne_true (legal s run.machine (Return client))
      (λ l. let same = sym (cond-true (legal s run.machine (Return client)) (does s run (Return client)) run l) ∙ e
      in let n = ap (λ (z : Progress). length z.steps) same in absurd (omega (arith, n)))

  -- what a turn without a step says
  record IsTurnStill (client : ℕ) (run : Progress) : Type 0 where
    step : client_step s run.machine client ≡ None
    back : legal s run.machine (Return client) ≡ false

  turn-still : (client : ℕ) (run : Progress) → IsRun s run → turn s run client ≡ run → is_at_end s run.machine client ≡ false
      → IsTurnStill client run
  unfolding turn
  turn-still client run R e running =
      let whole : returns s client (settles s (client_goes s (most_of_turn s.topology) client run)) ≡ run =
      sym (cond-false (is_at_end s run.machine client) run
      (returns s client (settles s (client_goes s (most_of_turn s.topology) client run))) running) ∙ e in
      let one = goes-later s plain (most_of_turn s.topology) client run R in
      let two = settles-later s plain (client_goes s (most_of_turn s.topology) client run) (later-run s one R) in
      let three = returns-later s plain client (settles s (client_goes s (most_of_turn s.topology) client run)) in
      let first : client_goes s (most_of_turn s.topology) client run ≡ run = between s one (later-trans s two three) whole in
      let settled : settles s (client_goes s (most_of_turn s.topology) client run) ≡ run = between s (later-trans s one two) three whole in
      record {
        step = goes-still (length (lockable s.topology) + 3) client run R
            (ap (λ z. client_goes s z client run) (sym (four-more (length (lockable s.topology)))) ∙ first);
        back = returns-still client run (ap (returns s client) (sym settled) ∙ whole);
      }

  turns-still : (clients : List ℕ) (run : Progress) → IsRun s run → fold (turn s) run clients ≡ run → (client : ℕ) → IsIn client clients
      → turn s run client ≡ run
  turns-still [] run R e client is = absurd is
  turns-still (x ∷ xs) run R e client is =
      let one = turn-later s plain x run R in
      let first : turn s run x ≡ run = between s one (turns-later s plain xs (turn s run x) (later-run s one R)) e in
      ⊎_elim
      (λ same. subst (λ z. turn s run z ≡ run) same first)
      (λ rest. turns-still xs run R (ap (λ z. fold (turn s) z xs) (sym first) ∙ e) client rest)
      is

  still-quiet : (run : Progress) → IsRun s run → is_still s run ≡ true → IsQuiet s run.machine
  unfolding round
  still-quiet run R h =
      let whole : round s run ≡ run = later-still s (round-later s plain run R) (eqb-true (length (round s run).steps) (length run.steps) h)
      in
      let one = turns-later s plain (client_numbers s) run R in
      let two = settles-later s plain (fold (turn s) run (client_numbers s)) (later-run s one R) in
      let first : fold (turn s) run (client_numbers s) ≡ run = between s one two whole in
      let each = turns-still (client_numbers s) run R first in
      record {
        clients = λ client ic running. (turn-still client run R (each client ic) running).step;
        returns = λ client ic running. (turn-still client run R (each client ic) running).back;
        tails = settles-still run R (ap (settles s) (sym first) ∙ whole);
      }

-- Where a history is over

pub over-unable : (s : Script) (m : Machine) → Along s m → (is_drained s m ≡ true) ⊎ (is_dead s m ≡ true) → can_move s m ≡ false
over-unable s m A over =
    ⊎_elim
    (λ drained. drained-unable s m A.facts.holds drained)
    (λ dead.
    ⊎_elim
    (λ going. (stuck-from s m A.facts going dead).unable)
    (λ (w : WasEnded s m). ap (can_move s) w.same ∙ can-ended s w.before ∙ w.stuck.unable)
    A.end)
    over

pub unable-over : (s : Script) (m : Machine) → can_move s m ≡ false → (is_drained s m ≡ true) ⊎ (is_dead s m ≡ true)
unfolding is_dead is_enabled
unable-over s m unable =
    ⊎_elim
    (λ drained. inl drained)
    (λ undrained. inr (or_right m.stalled _ (and_from _ _ (ap not undrained) (ap not (and_right (not m.stalled) _ unable)))))
    (cases_Bool (is_drained s m))

stalled-over : (s : Script) (m : Machine) → m.stalled ≡ true → is_dead s m ≡ true
unfolding is_dead
stalled-over s m e = or_left m.stalled _ e

pub empty-history : (s : Script) → is_history s [] ≡ true
unfolding are_legal
empty-history s = refl

pub run-of : (s : Script) (h : List Step) → is_history s h ≡ true → IsRun s (run_of s h)
run-of s h is = record { same = ap (at s) (sym (reverse-reverse h)); is = ap (is_history s) (reverse-reverse h) ∙ is }

module _ (s : Script) (plain : IsPlainScript s) where
  still-over : (run : Progress) → IsRun s run → is_still s run ≡ true → (is_drained s run.machine ≡ true) ⊎ (is_dead s run.machine ≡ true)
  still-over run R h =
      ⊎_elim
      (λ stalled. inr (stalled-over s run.machine stalled))
      (λ going. unable-over s run.machine (quiet-unable s run.machine (still-quiet s plain run R h) going))
      (cases_Bool run.machine.stalled)

  over-still : (run : Progress) → IsRun s run → (is_drained s run.machine ≡ true) ⊎ (is_dead s run.machine ≡ true) → is_still s run ≡ true
  over-still run R over = quiet-still s plain run (unable-quiet s run.machine (over-unable s run.machine (along_run s plain run R) over))

  pub rounds-still : (h : List Step) → is_history s h ≡ true → (is_still s (run_of s h) ≡ true) ↔ IsOver s h
  rounds-still h is = (λ still. still-over (run_of s h) (run-of s h is) still, λ over. over-still (run_of s h) (run-of s h is) over)

  -- a dead run is ended
  ends-later : (run : Progress) → Later s run (ends s run)
  ends-later run = by_test (legal s run.machine Stall) refl
    where
      by_test : (b : Bool) → legal s run.machine Stall ≡ b → Later s run (if b then does s run Stall else run)
      by_test true l = More Stall l refl (Same refl)
      by_test false l = Same refl

  ended-over : (m : Machine) → is_dead s (next s m Stall) ≡ true
  unfolding next
  ended-over m = stalled-over s (record m { stalled = true }) refl

  ends-over : (run : Progress) → (is_drained s run.machine ≡ true) ⊎ (is_dead s run.machine ≡ true)
      → (is_drained s (ends s run).machine ≡ true) ⊎ (is_dead s (ends s run).machine ≡ true)
  ends-over run over = by_test (legal s run.machine Stall)
    where
      by_test : (b : Bool) → (is_drained s (if b then does s run Stall else run).machine ≡ true)
          ⊎ (is_dead s (if b then does s run Stall else run).machine ≡ true)
      by_test true = inr (ended-over run.machine)
      by_test false = over

  pub finished-over : (h finished : List Step) → is_history s h ≡ true → IsFinished s h finished → EndsOver s h finished
  finished-over h finished is F =
      let before : Progress = rounds s F.most (run_of s h) in
      let after : Progress = ends s before in
      let to_before = rounds-later s plain F.most (run_of s h) (run-of s h is) in
      let R = later-run s to_before (run-of s h is) in
      let all = later-trans s to_before (ends-later before) in
      let next-later = later-run s (ends-later before) R in
      let over = ends-over before (still-over before R F.still) in
      let more = later-steps s all in
      record {
        more = more.0;
        goes_on = F.steps ∙ more.1 ∙ ap (λ z. z ++ more.0) (reverse-reverse h);
        is_history = ap (is_history s) F.steps ∙ next-later.is;
        is_over = subst (λ m. (is_drained s m ≡ true) ⊎ (is_dead s m ≡ true)) (next-later.same ∙ ap (at s) (sym F.steps)) over;
      }

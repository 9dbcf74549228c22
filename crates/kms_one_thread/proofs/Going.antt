-- A client that does its steps in a turn.
use Rattle.std.proofs.Common.{◌≡◌, ℕ, zero, suc, [], ◌∷◌, true, false, Some, None, refl, sym, ap, ◌∙◌, subst}
use Rattle.std.specs.Prelude.{if◌then◌else◌}
use Rattle.std.proofs.lemmas.Bool.{cond-false, cond-true}
use Rattle.kms_model.specs.declared.replies.Step.{Step}
use Rattle.kms_model.specs.declared.scripts.Script.{Script}
use Rattle.kms_model.specs.Machine.Histories.{is_history, legal}
use Rattle.kms_model.specs.Order.Turns.{Progress, client_goes, client_step, does, does_then, is_answering, most_of_turn}
use Rattle.kms_model.specs.Script.WellFormed.{IsWellFormed}
use Rattle.kms_laws.proofs.Modes.{plain-from}
use Rattle.kms_laws.proofs.NeverStuck.{history_along}
use Rattle.kms_laws.proofs.Turning.{client-legal}
use Rattle.kms_core.specs.Run.{Run, gains, machine}
use Rattle.kms_one_thread.specs.Rounds.{ExtendsRun, progress}
use Rattle.kms_one_thread.proofs.Histories.{goes_by, run_does, stays}

-- the step that a client does next is legal
pub client_legal : (r : Run) (client : ℕ) (step : Step) → IsWellFormed r.script → is_history r.script r.steps ≡ true → Some step
    ≡ client_step r.script (machine r) client → legal r.script (machine r) step ≡ true
client_legal r client step formed is found = client-legal r.script (machine r)
    (history_along r.script r.steps (plain-from r.script formed) is) client step (sym found)

goes_none : (s : Script) (left client : ℕ) (run : Progress) → client_step s run.machine client ≡ None → client_goes s left client run ≡ run
unfolding client_goes
goes_none s zero client run none = refl
goes_none s (suc left) client run none = ap (does_then s (λ step done. if is_answering step then done else client_goes s left client done)
    run) none

goes_some : (s : Script) (left client : ℕ) (run : Progress) (step : Step) → client_step s run.machine client ≡ Some step
    → client_goes s (suc left) client run ≡ (if is_answering step then does s run step else client_goes s left client (does s run step))
unfolding client_goes
goes_some s left client run step found = ap (does_then s (λ step done. if is_answering step then done else client_goes s left client done)
    run) found

goes_ended : (s : Script) (client : ℕ) (run : Progress) → client_goes s zero client run ≡ run
unfolding client_goes
goes_ended s client run = refl

-- all steps of a client in a turn
abbrev pub gone : Run → ℕ → Progress
gone old client = client_goes old.script (most_of_turn old.script.topology) client (progress old)

-- with at most so many steps more, the client has done all of its steps
pub record IsGoing (old now : Run) (client left : ℕ) : Type 0 where
  pub on : ExtendsRun old now
  pub same : client_goes now.script left client (progress now) ≡ gone old client

pub going_none : (old now : Run) (client left : ℕ) → IsGoing old now client left → None ≡ client_step now.script (machine now) client
    → progress now ≡ gone old client
going_none old now client left going none = sym (goes_none now.script left client (progress now) (sym none)) ∙ going.same

pub going_last : (old now : Run) (client left : ℕ) → left ≡ 0 → IsGoing old now client left → progress now ≡ gone old client
going_last old now client left none going = sym (goes_ended now.script client (progress now)) ∙ ap
    (λ n. client_goes now.script n client (progress now)) (sym none) ∙ going.same

module _ (old now new : Run) (client left left' : ℕ) (step : Step) (going : IsGoing old now client left) (fewer : left ≡ suc left')
    (found : Some step ≡ client_step now.script (machine now) client) (after : new ≡ gains now (step ∷ [])) where
  going_some : (if is_answering step then progress new else client_goes new.script left' client (progress new)) ≡ gone old client
  going_some =
      subst (λ (r : Run). (if is_answering step then progress r else client_goes r.script left' client (progress r)) ≡ gone old client)
      (sym after)
      (ap (λ z. if is_answering step then z else client_goes now.script left' client z) (run_does now.script now.steps step)
      ∙ sym (goes_some now.script left' client (progress now) step (sym found))
      ∙ ap (λ n. client_goes now.script n client (progress now)) (sym fewer)
      ∙ going.same)

  pub going_answered : is_answering step ≡ true → progress new ≡ gone old client
  going_answered answers = sym (cond-true (is_answering step) (progress new) (client_goes new.script left' client (progress new)) answers) ∙
      going_some

  pub going_further : is_answering step ≡ false → IsGoing old new client left'
  going_further goes_on = record {
    on = goes_by old now new (step ∷ []) going.on after;
    same = sym (cond-false (is_answering step) (progress new) (client_goes new.script left' client (progress new)) goes_on) ∙ going_some;
  }

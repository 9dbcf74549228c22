-- Turns that found nothing to do.
use Rattle.std.proofs.Common.{◌≡◌, ℕ, [], ◌∷◌, length, append-nil, Bool, true, false, cond, Option, Some, None, refl, sym, ap, ◌∙◌, subst}
use Rattle.std.specs.Prelude.{◌&&◌, find}
use Rattle.std.specs.Option.{option_map}
use Rattle.kms_model.specs.declared.objects.Kind.TheVariants.{Crtc}
use Rattle.kms_model.specs.declared.replies.Step.{Step}
use Rattle.kms_model.specs.declared.replies.Step.TheVariants as step
use Rattle.kms_model.specs.declared.scripts.Script.{Script}
use Rattle.kms_model.specs.Machine.Histories.{is_drained}
use Rattle.kms_pool.specs.declared.player.Turn as pool
use Rattle.kms_pool.specs.declared.player.Turn.TheVariants.{Did, Ended, NotYet}
use Rattle.kms_core.specs.Run.{Run, machine}
use Rattle.kms_core.specs.Work.{first_claim}
use Rattle.kms_device.specs.Steps.{blanks_at, is_legal, rests_in, tail_of}
use Rattle.kms_device.specs.Turns.{DevicePass, DeviceTurn}
use Rattle.kms_players.specs.PlayerTurns.{FindsNoStep, TickTurn, WorkerTurn, step_of_tick, step_of_worker, told_at}
use Rattle.kms_players.specs.Players.{name_of_pass}
use Rattle.kms_players.proofs.Waits.{turn_name, turn_says}

-- such a turn by its answer
abbrev pub RestTurn : Script → (Run → Option Step) → DevicePass → DevicePass → pool.Turn → Type 0
RestTurn script step_in before after Did = ⊥
RestTurn script step_in before after (NotYet n) = FindsNoStep script step_in n false before after
RestTurn script step_in before after Ended = (n : ℕ) × FindsNoStep script step_in n true before after

-- a turn found nothing to do, and whether the history is drained
module _ (script : Script) (step_in : Run → Option Step) (before after : DevicePass) (n : ℕ) (long : n ≡ length after.seen) where
  found_none : (b : Bool) → DeviceTurn script (λ found. (step_in found ≡ None) × (b ≡ is_drained found.script (machine found))) [] before
      after → FindsNoStep script step_in n b before after
  found_none b t = record {
    found = t.found;
    finds = t.finds;
    said = (t.said.0, sym (long ∙ ap length (ap (λ p. p.seen) t.now ∙ append-nil t.found.steps)), sym t.said.1);
    now = t.now;
    left = t.left;
  }

  pub rests : (b : Bool) (answer : pool.Turn) → answer ≡ told_at n b
      → DeviceTurn script (λ found. (step_in found ≡ None) × (b ≡ is_drained found.script (machine found))) [] before after
      → RestTurn script step_in before after answer
  rests false answer e t = subst (RestTurn script step_in before after) (sym e) (found_none false t)
  rests true answer e t = subst (RestTurn script step_in before after) (sym e) (n, found_none true t)

module _ (script : Script) (before after : DevicePass) (n : ℕ) (long : n ≡ length after.seen) (b : Bool) (answer : pool.Turn)
    (told : answer ≡ told_at n b) where
  -- a vblank player found no commit that the CRTC latches
  pub tick_rests : (crtc : ℕ) → DeviceTurn script
      (λ found. (false ≡ blanks_at found crtc) × (b ≡ (true && is_drained found.script (machine found)))) [] before after
      → TickTurn script crtc before after answer
  tick_rests crtc t =
      of answer
      (rests script (step_of_tick crtc) before after n long b answer told
      (turn_says script (λ found. (false ≡ blanks_at found crtc) × (b ≡ (true && is_drained found.script (machine found))))
      (λ found. (step_of_tick crtc found ≡ None) × (b ≡ is_drained found.script (machine found))) [] before after
      (λ found finds left said. (ap (λ x. cond x (Some (step.Vblank Crtc crtc)) None) (sym said.0), said.1)) t)) where
        of : (a : pool.Turn) → RestTurn script (step_of_tick crtc) before after a → TickTurn script crtc before after a
        of Did r = absurd r
        of (NotYet m) r = r
        of Ended r = r

  worker_of : (hand : Option ℕ) (a : pool.Turn) → RestTurn script (step_of_worker hand) before after a
      → WorkerTurn script before hand after hand a
  worker_of hand Did r = absurd r
  worker_of hand (NotYet m) r = (r, refl)
  worker_of hand Ended r = (r, refl)

  -- a worker found nothing to claim
  pub claim_rests : DeviceTurn script (λ found. (None ≡ first_claim found) × (b ≡ rests_in {A = ℕ} None found)) [] before after
      → WorkerTurn script before None after None answer
  claim_rests t =
      worker_of None answer
      (rests script (step_of_worker None) before after n long b answer told
      (turn_says script (λ found. (None ≡ first_claim found) × (b ≡ rests_in {A = ℕ} None found))
      (λ found. (step_of_worker None found ≡ None) × (b ≡ is_drained found.script (machine found))) [] before after
      (λ found finds left said. (ap (option_map step.Claim) (sym said.0), said.1)) t))

  -- a worker found nothing to do for the commit in its hand
  pub work_rests : (k : ℕ) → DeviceTurn script (λ found. (None ≡ find (is_legal found) (tail_of found.script.topology k))
      × (b ≡ rests_in {A = Step} None found)) [] before after
      → WorkerTurn script before (Some k) after (Some k) answer
  work_rests k t =
      worker_of (Some k) answer
      (rests script (step_of_worker (Some k)) before after n long b answer told
      (turn_says script (λ found. (None ≡ find (is_legal found) (tail_of found.script.topology k)) × (b ≡ rests_in {A = Step} None found))
      (λ found. (step_of_worker (Some k) found ≡ None) × (b ≡ is_drained found.script (machine found))) [] before after
      (λ found finds left said. (sym said.0, said.1)) t))

-- the pass is that of the same player

rest_name : (script : Script) (step_in : Run → Option Step) (n : ℕ) (b : Bool) (before after : DevicePass)
    → FindsNoStep script step_in n b before after → name_of_pass after ≡ name_of_pass before
rest_name script step_in n b before after t =
    turn_name script (λ found. (step_in found ≡ None) × (length found.steps ≡ n) × (is_drained found.script (machine found) ≡ b)) [] before
    after t

pub tick_name : (script : Script) (crtc : ℕ) (before after : DevicePass) (answer : pool.Turn) → TickTurn script crtc before after answer
    → name_of_pass after ≡ name_of_pass before
tick_name script crtc before after Did t = turn_name script (λ found. step_of_tick crtc found ≡ Some (step.Vblank Crtc crtc))
    (step.Vblank Crtc crtc ∷ []) before after t
tick_name script crtc before after (NotYet n) t = rest_name script (step_of_tick crtc) n false before after t
tick_name script crtc before after Ended t = rest_name script (step_of_tick crtc) t.0 true before after t.1

pub worker_name : (script : Script) (before after : DevicePass) (old new : Option ℕ) (answer : pool.Turn)
    → WorkerTurn script before old after new answer → name_of_pass after ≡ name_of_pass before
worker_name script before after old new Did t = turn_name script (λ found. step_of_worker old found ≡ Some t.0) (t.0 ∷ []) before after t.1
worker_name script before after old new (NotYet n) t = rest_name script (step_of_worker old) n false before after t.0
worker_name script before after old new Ended t = rest_name script (step_of_worker old) t.0.0 true before after t.0.1

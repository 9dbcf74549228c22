-- A history is drained, can go on, or tells the fence that it waits for: so a dead one names a fence.
use Rattle.std.proofs.Common.{◌≡◌, ℕ, ◌<◌, List, length, true, false, not, ◌&&◌, ◌||◌, Option, Some, None, refl, sym, ap, ◌∙◌, subst, arith}
use Rattle.std.proofs.Common.{inl, inr, ◌⊎◌, ⊎_elim}
use Rattle.std.specs.List.{list_all, list_any}
use Rattle.std.proofs.lemmas.Bool.{and_from, and_parts, cases_Bool, cond-true, not-true}
use Rattle.kms_model.specs.declared.objects.Topology.{Topology}
use Rattle.kms_model.specs.declared.replies.Step.{Step}
use Rattle.kms_model.specs.declared.replies.Step.TheVariants.{Begin, Lock, BackOff, Relock, Refuse, Test, Swap, Make, Signal, Claim, Write}
use Rattle.kms_model.specs.declared.replies.Step.TheVariants.{Flush, HwDone, Vblank, Cleanup, Read, Return, Stall}
use Rattle.kms_model.specs.declared.scripts.Script.{Script}
use Rattle.kms_model.specs.Firsts.{first_some}
use Rattle.kms_model.specs.Machine.Commits.{is_all_flushed, is_all_latched, is_all_written, is_cleaned}
use Rattle.kms_model.specs.Machine.Effects.{next}
use Rattle.kms_model.specs.Machine.Histories.{at, awaited_by, awaited_label, client_numbers, commit_numbers, is_at_end, is_dead, is_drained}
use Rattle.kms_model.specs.Machine.Histories.{is_enabled, is_history, legal, stalled_on, steps_that_move}
use Rattle.kms_model.specs.Machine.State.{Machine, first_machine}
use Rattle.kms_model.specs.Machine.Steps.{first_pending, holds_touched, is_pending, is_ready, lacks_space, may, may_claim, may_lock}
use Rattle.kms_model.specs.Machine.Steps.{may_refuse, may_swap, may_test, next_flush, next_write}
use Rattle.kms_model.specs.Promises.{WaitsForFence}
use Rattle.kms_model.proofs.Guards.{legal-going, legal_guards}
use Rattle.kms_model.proofs.Items.{list_all-from, list_any-has}
use Rattle.kms_laws.specs.Laws.{TellsFence, can_move}
use Rattle.kms_laws.proofs.Basics.{both_bools}
use Rattle.kms_laws.proofs.ClientProgress.{client_moves}
use Rattle.kms_laws.proofs.DeadFence.{fails_some, fences_kept, first_fences, waits_for}
use Rattle.kms_laws.proofs.EventsOnce.{HasEvents, first_events, step_keeps_events}
use Rattle.kms_laws.proofs.Fences.{FencesStand}
use Rattle.kms_laws.proofs.Framebuffers.{range-below}
use Rattle.kms_laws.proofs.Going.{Going, step_go}
use Rattle.kms_laws.proofs.LockSteps.{HasLocks, first_locks, step_locks}
use Rattle.kms_laws.proofs.Stalled.{Ending, ending}
use Rattle.kms_laws.proofs.Steps.{Holds, IsPlainScript, along, first_kept, step_kept}
use Rattle.kms_laws.proofs.TailProgress.{CanMove, first_going, goes_or_waits, oldest}
use Rattle.kms_laws.proofs.Traversal.{step_keeps}
use Rattle.kms_laws.proofs.Whole.{Whole, first_whole, whole_kept}

-- all that was found of the machines of histories
pub record Facts (s : Script) (m : Machine) : Type 0 where
  pub holds : Holds s m
  pub locks : HasLocks s m
  pub events : HasEvents s m
  pub going : Going m
  pub whole : Whole s.topology m.device m.records.latches
  pub fences : FencesStand s.topology m.device m.records.latches

pub first_facts : (s : Script) → IsPlainScript s → Facts s (first_machine s.topology)
first_facts s plain = record {
  holds = first_kept s plain;
  locks = first_locks s;
  events = first_events s;
  going = first_going s.topology;
  whole = first_whole s.topology;
  fences = first_fences s.topology;
}

pub step_facts : (s : Script) (m : Machine) (step : Step) → IsPlainScript s → Facts s m → legal s m step ≡ true → Facts s (next s m step)
step_facts s m step plain F h = record {
  holds = step_kept s m step plain F.holds h;
  locks = step_locks s m F.locks step h;
  events = step_keeps_events s m F.holds F.events step h;
  going = step_go s m F.holds F.going step h;
  whole = step_keeps s (Whole s.topology) (whole_kept s plain) m F.holds F.whole step h;
  fences = step_keeps s (FencesStand s.topology) (fences_kept s) m F.holds F.fences step h;
}

drained_from : (s : Script) (m : Machine) → list_all (is_at_end s m) (client_numbers s) ≡ true
    → ((k : ℕ) → k < length m.device.commits → is_cleaned m.device k ≡ true) → is_drained s m ≡ true
unfolding is_drained
drained_from s m ends clean = and_from _ _ ends
    (list_all-from (is_cleaned m.device) (commit_numbers m)
    (λ k i. clean k (let l = range-below 0 (length m.device.commits) k i in omega arith)))

-- drained, or a step may be done, or a fence is told
pub never_stuck_at : (s : Script) (m : Machine) → Facts s m → (is_drained s m ≡ true) ⊎ ((can_move s m ≡ true) ⊎ TellsFence s m)
never_stuck_at s m F =
    ⊎_elim
    (λ o.
    ⊎_elim
    (λ move. inr (inl (moves move)))
    (λ waits.
    let w = waits_for s m F.holds F.fences o.commit o.within o.unclean o.before waits.0 waits.1 in
    inr (inr (record { label = w.0; told = w.1.0; waits = w.1.1 })))
    (goes_or_waits s m F.holds F.going F.whole.apart o.commit o.within o.unclean o.before))
    (λ clean.
    ⊎_elim
    (λ ends. inl (drained_from s m ends clean))
    (λ not_ends.
    let one = fails_some (is_at_end s m) (client_numbers s) not_ends in
    inr (inl (moves (client_moves s m F.holds F.locks F.events clean one.0 one.1.0 one.1.1))))
    (cases_Bool (list_all (is_at_end s m) (client_numbers s))))
    (oldest m.device (length m.device.commits))
  where
    moves : CanMove s m → can_move s m ≡ true
    moves move = list_any-has (may s m) (steps_that_move s m) move.step move.is_in move.may_be

-- Dead histories

-- neither drained nor able to go on
pub record IsStuck (s : Script) (m : Machine) : Type 0 where
  pub facts : Facts s m
  pub undrained : is_drained s m ≡ false
  pub unable : can_move s m ≡ false

pub stuck-from : (s : Script) (m : Machine) → Facts s m → m.stalled ≡ false → is_dead s m ≡ true → IsStuck s m
unfolding is_dead is_enabled
stuck-from s m F going h =
    let g : (not (is_drained s m) && not (list_any (may s m) (steps_that_move s m)))
    ≡ true = sym (ap (λ b. b || (not (is_drained s m) && not (not b && list_any (may s m) (steps_that_move s m)))) going) ∙ h in
    let two = and_parts (not (is_drained s m)) _ g in
    record { facts = F; undrained = not-true _ two.0; unable = not-true _ two.1 }

tells : (s : Script) (m : Machine) → IsStuck s m → TellsFence s m
tells s m S = ⊎_elim (λ drained. absurd (both_bools _ drained S.undrained))
    (λ rest. ⊎_elim (λ move. absurd (both_bools _ move S.unable)) (λ t. t) rest) (never_stuck_at s m S.facts)

-- a machine that was ended
abbrev ended : Machine → Machine
ended m = record m { stalled = true }

pub record WasEnded (s : Script) (m : Machine) : Type 0 where
  pub before : Machine
  pub same : m ≡ record before { stalled = true }
  pub stuck : IsStuck s before

told-ended : (t : Topology) (m : Machine) → awaited_label t (record m { stalled = true }) ≡ awaited_label t m
unfolding awaited_label
told-ended t m = go (first_some (awaited_by t m) (commit_numbers m)) refl
  where
    go : (o : Option ℕ) → first_some (awaited_by t m) (commit_numbers m) ≡ o → awaited_label t (record m { stalled = true })
        ≡ awaited_label t m
    go None e = rw e refl
    go (Some fence) e = rw e refl

tells-ended : (s : Script) (m : Machine) → TellsFence s m → TellsFence s (record m { stalled = true })
tells-ended s m T = record {
  label = T.label;
  told = told-ended s.topology m ∙ T.told;
  waits = record {
    commit = T.waits.commit;
    there = T.waits.there;
    not_cleaned = T.waits.not_cleaned;
    least = T.waits.least;
    not_claimed = T.waits.not_claimed;
    fence = T.waits.fence;
    awaited = T.waits.awaited;
    thing = T.waits.thing;
    is_thing = T.waits.is_thing;
    has_label = T.waits.has_label;
  };
}

pub record Along (s : Script) (m : Machine) : Type 0 where
  pub facts : Facts s m
  pub end : (m.stalled ≡ false) ⊎ WasEnded s m

stall-next : (s : Script) (m : Machine) → next s m Stall ≡ record m { stalled = true }
unfolding next
stall-next s m = refl

pub step_along : (s : Script) (m : Machine) (step : Step) → IsPlainScript s → Along s m → legal s m step ≡ true → Along s (next s m step)
step_along s m step plain A h = record { facts = step_facts s m step plain A.facts h; end = go (ending s m step h) }
  where
    at_end : legal s m Stall ≡ true → ((next s m Stall).stalled ≡ false) ⊎ WasEnded s (next s m Stall)
    at_end l = inr (record {
      before = m;
      same = stall-next s m;
      stuck = stuck-from s m A.facts (legal-going s m Stall l) (legal_guards s m Stall l);
    })

    go : Ending m step (next s m step) → ((next s m step).stalled ≡ false) ⊎ WasEnded s (next s m step)
    go (inl e) = subst (λ z. legal s m z ≡ true → ((next s m z).stalled ≡ false) ⊎ WasEnded s (next s m z)) (sym e) at_end h
    go (inr still) = inl (still ∙ legal-going s m step h)

pub history_along : (s : Script) (h : List Step) → IsPlainScript s → is_history s h ≡ true → Along s (at s h)
history_along s h plain is = along s (Along s) (λ m step A legal_step. step_along s m step plain A legal_step) h (first_machine s.topology)
    (record { facts = first_facts s plain; end = inl refl }) is

-- What may be done does not read whether a history was ended

may-ended : (s : Script) (m : Machine) (step : Step) → may s (record m { stalled = true }) step ≡ may s m step
unfolding may may_lock may_refuse may_test may_swap may_claim next_write next_flush is_all_written is_all_flushed is_all_latched
    holds_touched lacks_space is_ready is_pending first_pending
may-ended s m (Begin client) = refl
may-ended s m (Lock client kind index) = refl
may-ended s m (BackOff client) = refl
may-ended s m (Relock client) = refl
may-ended s m (Refuse client) = refl
may-ended s m (Test client) = refl
may-ended s m (Swap client) = refl
may-ended s m (Make client) = refl
may-ended s m (Signal client) = refl
may-ended s m (Claim k) = refl
may-ended s m (Write k kind index) = refl
may-ended s m (Flush k kind index) = refl
may-ended s m (HwDone k) = refl
may-ended s m (Vblank kind index) = refl
may-ended s m (Cleanup k) = refl
may-ended s m (Read client) = refl
may-ended s m (Return client) = refl
may-ended s m Stall = refl

pub can-ended : (s : Script) (m : Machine) → can_move s (record m { stalled = true }) ≡ can_move s m
can-ended s m = (λ i. list_any (λ step. may-ended s m step i) (steps_that_move s m))

-- where a step may be done, the history was not ended
pub still-going : (s : Script) (m : Machine) → Along s m → can_move s m ≡ true → m.stalled ≡ false
still-going s m A move =
    ⊎_elim (λ going. going) (λ (w : WasEnded s m). absurd
    (both_bools _ move (ap (can_move s) w.same ∙ can-ended s w.before ∙ w.stuck.unable))) A.end

pub dead_names_a_fence : (s : Script) (h : List Step) → IsPlainScript s → is_history s h ≡ true → is_dead s (at s h) ≡ true → (label : ℕ)
    × (stalled_on s (at s h) ≡ Some label) × WaitsForFence s (at s h) label
dead_names_a_fence s h plain is dead =
    let A = history_along s h plain is in
    let T : TellsFence s (at s h) =
    ⊎_elim
    (λ going. tells s (at s h) (stuck-from s (at s h) A.facts going dead))
    (λ w. subst (TellsFence s) (sym w.same) (tells-ended s w.before (tells s w.before w.stuck)))
    A.end in
    (T.label, cond-true (is_dead s (at s h)) (awaited_label s.topology (at s h)) None dead ∙ T.told, T.waits)

pub never_stuck : (s : Script) (h : List Step) → IsPlainScript s → is_history s h ≡ true → (is_drained s (at s h) ≡ true)
    ⊎ ((can_move s (at s h) ≡ true) ⊎ TellsFence s (at s h))
never_stuck s h plain is = never_stuck_at s (at s h) (history_along s h plain is).facts

pub history_facts : (s : Script) (h : List Step) → IsPlainScript s → is_history s h ≡ true → Facts s (at s h)
history_facts s h plain is = (history_along s h plain is).facts

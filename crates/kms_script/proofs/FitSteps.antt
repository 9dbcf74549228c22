-- The steps of a history have numbers that a line can spell.
use Rattle.std.proofs.Common.{◌≡◌, ℕ, suc, ◌*◌, ◌<◌, ◌≤◌, List, [], ◌∷◌, length, Bool, true, false, Option, Some, None, refl, sym, ap, ◌∙◌}
use Rattle.std.proofs.Common.{arith}
use Rattle.std.specs.List.{AllByRecursion}
use Rattle.std.proofs.lemmas.Bool.{and_parts, false≢true, ltb-true}
use Rattle.kms_model.specs.declared.objects.Kind.{Kind}
use Rattle.kms_model.specs.declared.objects.Kind.TheVariants.{Crtc, Plane, Conn, Enc}
use Rattle.kms_model.specs.declared.replies.Step.{Step}
use Rattle.kms_model.specs.declared.replies.Step.TheVariants.{Begin, Lock, BackOff, Relock, Refuse, Test, Swap, Make, Signal, Claim, Write}
use Rattle.kms_model.specs.declared.replies.Step.TheVariants.{Flush, HwDone, Vblank, Cleanup, Read, Return, Stall}
use Rattle.kms_model.specs.declared.runs.Doing.{Doing}
use Rattle.kms_model.specs.declared.runs.Doing.TheVariants as doing
use Rattle.kms_model.specs.declared.scripts.Command.{Command}
use Rattle.kms_model.specs.declared.scripts.Request.{Request}
use Rattle.kms_model.specs.declared.scripts.Script.{Script}
use Rattle.kms_model.specs.Device.Objects.{count_of, exists, object_id}
use Rattle.kms_model.specs.Device.Serial.{from_one}
use Rattle.kms_model.specs.Machine.Commits.{is_all_written, is_claimed, is_hw_done}
use Rattle.kms_model.specs.Machine.Effects.{next}
use Rattle.kms_model.specs.Machine.Histories.{are_legal, is_history, legal}
use Rattle.kms_model.specs.Machine.State.{Machine, command_at, doing_at, entry_at, first_machine}
use Rattle.kms_model.specs.Machine.Steps.{contended, idle_at, is_atomic, is_crtc_of, is_free_for, is_lockable, is_making, is_signal}
use Rattle.kms_model.specs.Machine.Steps.{is_taking, is_wait, may, may_claim, may_lock, may_refuse, may_swap, may_test, must_back_off}
use Rattle.kms_model.specs.Machine.Steps.{next_flush, taking_at}
use Rattle.kms_model.specs.Script.Schedules.{IsFitIndex, IsFitNumber, IsFitStep}
use Rattle.kms_model.specs.Script.WellFormed.{IsWellFormed}
use Rattle.kms_model.proofs.TouchedLemmas.{few_objects, few_of}
use Rattle.kms_laws.proofs.Basics.{pair_now}
use Rattle.kms_laws.proofs.Modes.{plain-from}
use Rattle.kms_laws.proofs.Sizes.{all_ended, busy, command-there, ended_at, from_one-within, has_commands, length_of, place_of, sum-most}
use Rattle.kms_laws.proofs.SmallNumbers.{Counted, answered-busy, few_commands, first_counted, step_counted}
use Rattle.kms_laws.proofs.Steps.{flush-found, flushed_holds, idle-none, value-is}
use Rattle.kms_laws.proofs.Swapped.{flush_within}

-- Objects of a device

-- a client that passes a test which idle ones fail is doing something
busy-if : (test : Doing → Bool) → test doing.Idle ≡ false → (d : Doing) → test d ≡ true → 1 ≤ busy d
busy-if test idle doing.Idle h = absurd (false≢true (sym idle ∙ h))
busy-if test idle _ h = omega arith

module _ (s : Script) (formed : IsWellFormed s) (n : ℕ) (m : Machine) (C : Counted s n m) where
  number-exists : (kind : Kind) (index : ℕ) → exists s.topology kind index ≡ true → IsFitIndex index
  number-exists kind index h =
      let below : index < count_of s.topology kind = ltb-true index (count_of s.topology kind) h in
      omega (arith, below, few_of s.topology kind (few_objects s.topology formed.device))

  lockable-exists : (kind : Kind) (index : ℕ) → is_lockable s.topology kind index ≡ true → IsFitIndex index
  lockable-exists Crtc index h = number-exists Crtc index h
  lockable-exists Plane index h = number-exists Plane index h
  lockable-exists Conn index h = number-exists Conn index h
  lockable-exists Enc index h = absurd (false≢true h)

  crtc-exists : (kind : Kind) (index : ℕ) → is_crtc_of s.topology kind index ≡ true → IsFitIndex index
  crtc-exists Crtc index h = number-exists Crtc index h
  crtc-exists Plane index h = absurd (false≢true h)
  crtc-exists Conn index h = absurd (false≢true h)
  crtc-exists Enc index h = absurd (false≢true h)

  -- a client that has a command is one of at most 16
  has_command : (client : ℕ) → 1 ≤ has_commands s client → IsFitNumber client
  has_command client some = go (from_one s.clients client) refl
    where
      go : (o : Option (List Command)) → from_one s.clients client ≡ o → IsFitNumber client
      go None e = let none : has_commands s client ≡ 0 = ap length_of e in absurd (omega (arith, some, none))
      go (Some commands) e = omega (arith, (from_one-within s.clients client commands e).1, formed.few)

  is_busy : (client : ℕ) → 1 ≤ busy (doing_at m client) → IsFitNumber client
  is_busy client some =
      let S = C.sizes.places_stand in
      has_command client (omega (arith, S.low client, S.bound client, some))

  taking : (client : ℕ) (test : Request → Bool) → taking_at s m client test ≡ true → IsFitNumber client
  taking client test h = is_busy client (busy-if is_taking refl (doing_at m client) (and_parts _ _ h).0)

  idle : (client : ℕ) (test : Command → Bool) → idle_at s m client test ≡ true → IsFitNumber client
  idle client test h = go (command_at s m client) refl
    where
      go : (o : Option Command) → command_at s m client ≡ o → IsFitNumber client
      go None e = absurd (idle-none s m client test e h)
      go (Some c) e = omega (arith, (command-there s (entry_at m client) c e).high, formed.few)

  -- there are few commits
  is_commit : (k : ℕ) → k < length m.device.commits → IsFitNumber k
  is_commit k below =
      let S = C.sizes.places_stand in
      let places = m.contexts.places in
      let most : all_ended s places ≤ length s.clients * 4097 =
      sum-most (λ c. ended_at (place_of places c)) 4097 1 (length s.clients)
      (λ c. omega (arith, S.bound c, few_commands s c formed.clients, answered-busy (place_of places c).doing)) in
      omega (arith, below, S.commits_few, most, formed.few)

  claimed : (k : ℕ) → is_claimed m.device k ≡ true → IsFitNumber k
  claimed k h = is_commit k (C.facts.holds.tail.marks.claimed k h)

  done : (k : ℕ) → is_hw_done m.device k ≡ true → IsFitNumber k
  done k h = claimed k (C.facts.holds.tail.marks.done k h).0

  flushing : (k c : ℕ) → is_all_written s.topology m.device k ≡ true → next_flush s.topology m.device k ≡ Some c → IsFitNumber k
  flushing k c written e =
      let later = flushed_holds s m C.facts.holds k c written (flush-found s.topology m k c e) in
      is_commit k (flush_within later.tail k c (pair_now k c m.device.marks.flushed))

  returning : (client : ℕ) → legal s m (Return client) ≡ true → IsFitNumber client
  unfolding legal may
  returning client h = is_busy client (go (doing_at m client) refl)
    where
      go : (d : Doing) → doing_at m client ≡ d → 1 ≤ busy d
      go doing.Idle e = let g = rw e at h in absurd (false≢true (and_parts _ _ g).1)
      go (doing.Taking ticket) e = omega arith
      go (doing.MustBackOff ticket object) e = omega arith
      go (doing.BackedOff ticket object) e = omega arith
      go (doing.Returning k) e = omega arith

  claiming : (k : ℕ) → may_claim s.topology m k ≡ true → IsFitNumber k
  unfolding may_claim
  claiming k h = is_commit k (ltb-true k (length m.device.commits) (and_parts _ _ h).0)

  locking : (client object : ℕ) → may_lock s m client object ≡ true → IsFitNumber client
  unfolding may_lock
  locking client object h = taking client _ (and_parts _ _ h).0

  pub step_fits : (step : Step) → legal s m step ≡ true → IsFitStep step
  unfolding legal may
  step_fits (Begin client) h = idle client is_atomic (and_parts _ _ h).1
  step_fits (Lock client kind index) h =
      let both = and_parts (is_lockable s.topology kind index) _ (and_parts _ _ h).1 in
      (locking client (object_id kind index) both.1, lockable-exists kind index both.0)
  step_fits (BackOff client) h = is_busy client (busy-if must_back_off refl (doing_at m client) (and_parts _ _ h).1)
  step_fits (Relock client) h = is_busy client (busy-if (λ d. is_free_for m (contended d)) refl (doing_at m client) (and_parts _ _ h).1)
  step_fits (Refuse client) h = taking client (may_refuse s.topology m client) (and_parts _ _ h).1
  step_fits (Test client) h = taking client (may_test s.topology m client) (and_parts _ _ h).1
  step_fits (Swap client) h = taking client (may_swap s.topology m client) (and_parts _ _ h).1
  step_fits (Make client) h = idle client is_making (and_parts _ _ h).1
  step_fits (Signal client) h = idle client is_signal (and_parts _ _ h).1
  step_fits (Claim k) h = claiming k (and_parts _ _ h).1
  step_fits (Write k kind index) h =
      let both = and_parts (is_claimed m.device k) _ (and_parts _ _ h).1 in
      (claimed k both.0, number-exists kind index (and_parts (exists s.topology kind index) _ both.1).0)
  step_fits (Flush k kind index) h =
      let both = and_parts (is_all_written s.topology m.device k) _ (and_parts _ _ h).1 in
      let named = and_parts (exists s.topology kind index) _ both.1 in (
        flushing k (object_id kind index) both.0 (value-is (object_id kind index) (next_flush s.topology m.device k) named.1),
        number-exists kind index named.0,
      )
  step_fits (HwDone k) h = claimed k (and_parts (is_claimed m.device k) _ (and_parts _ _ h).1).0
  step_fits (Vblank kind index) h = crtc-exists kind index (and_parts (is_crtc_of s.topology kind index) _ (and_parts _ _ h).1).0
  step_fits (Cleanup k) h = done k (and_parts (is_hw_done m.device k) _ (and_parts _ _ h).1).0
  step_fits (Read client) h = idle client is_wait (and_parts (idle_at s m client is_wait) _ (and_parts _ _ h).1).0
  step_fits (Return client) h = returning client h
  step_fits Stall h = tt

-- each step of a run
fit_along : (s : Script) (formed : IsWellFormed s) (h : List Step) (n : ℕ) (m : Machine) → Counted s n m → are_legal s m h ≡ true
    → AllByRecursion IsFitStep h
unfolding are_legal
fit_along s formed [] n m C is = tt
fit_along s formed (step ∷ h) n m C is =
    let both = and_parts (legal s m step) _ is in (
      step_fits s formed n m C step both.0,
      fit_along s formed h (suc n) (next s m step)
          (step_counted s (plain-from s formed) n m step C both.0) both.1,
    )

pub history_fits : (s : Script) (h : List Step) → IsWellFormed s → is_history s h ≡ true → AllByRecursion IsFitStep h
history_fits s h formed is = fit_along s formed h 0 (first_machine s.topology) (first_counted s (plain-from s formed)) is

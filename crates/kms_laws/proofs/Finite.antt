-- What is left to do in all, as one number, and that each step but a vblank without GO lowers it.
use Rattle.std.proofs.Common.{◌≡◌, ℕ, zero, suc, ◌+◌, ◌*◌, ◌-◌, ◌<◌, ◌^◌, ◌≤◌, List, ◌∷◌, length, Bool, true, false, Option, Some, None}
use Rattle.std.proofs.Common.{refl, sym, ap, ◌∙◌, subst, arith, inl, inr, ◌⊎◌, ⊎_elim}
use Rattle.std.specs.Prelude.{if◌then◌else◌, is_some, nat_lt}
use Rattle.std.specs.List.{range_with_len}
use Rattle.std.proofs.Math.Nat.{mul-le-mul_right}
use Rattle.std.proofs.lemmas.Bool.{cases_eq, false≢true}
use Rattle.kms_model.specs.declared.replies.Step.{Step}
use Rattle.kms_model.specs.declared.replies.Step.TheVariants.{Flush, Make, Signal, Stall, Swap, Vblank}
use Rattle.kms_model.specs.declared.runs.Doing.{Doing}
use Rattle.kms_model.specs.declared.runs.Doing.TheVariants as doing
use Rattle.kms_model.specs.declared.runs.Place.{Place}
use Rattle.kms_model.specs.declared.scripts.Command.{Command}
use Rattle.kms_model.specs.declared.scripts.Command.TheVariants as command
use Rattle.kms_model.specs.declared.scripts.Script.{Script}
use Rattle.kms_model.specs.Device.Execution.{execute}
use Rattle.kms_model.specs.Device.Objects.{object_id}
use Rattle.kms_model.specs.Device.Serial.{from_one}
use Rattle.kms_model.specs.Machine.Effects.{answers, backed_off, counts_vblank, goes_on, next, signals}
use Rattle.kms_model.specs.Machine.Histories.{client_numbers, legal}
use Rattle.kms_model.specs.Machine.State.{Contexts, Machine, command_at, count_at, doing_at, entry_at, holder_at, place_at}
use Rattle.kms_model.specs.Machine.Steps.{is_free_or_older, is_idle, is_taking, may_lock, returning_of, ticket_of}
use Rattle.kms_model.specs.Request.Sets.{obj_id}
use Rattle.kms_model.specs.Script.WellFormed.{IsWellFormed}
use Rattle.kms_model.proofs.Guards.{claim_guards, legal-going, lock_guards}
use Rattle.kms_model.proofs.Items.{IsIn}
use Rattle.kms_model.proofs.TouchedLemmas.{few_objects}
use Rattle.kms_laws.specs.Laws.{has_context}
use Rattle.kms_laws.specs.Ends.{is_moving}
use Rattle.kms_laws.specs.TailsLeft.{LeavesLess, all_left, commit_of_step, steps_left, sum, tail_left}
use Rattle.kms_laws.proofs.Basics.{pair_now, read_other, read_same}
use Rattle.kms_laws.proofs.ClientProgress.{with_request}
use Rattle.kms_laws.proofs.EachStep.{Carries, by_bool, by_fence, by_latch, by_two, each_step, latched_as, made_as, swapped_as}
use Rattle.kms_laws.proofs.Falling.{back_step, meet_step, relock_step, take_step}
use Rattle.kms_laws.proofs.Fitting.{back-busy, contended-busy, idle-busy, returning-busy, taking-busy}
use Rattle.kms_laws.proofs.Framebuffers.{range-below}
use Rattle.kms_laws.proofs.LeftInAll.{left_any, left_less}
use Rattle.kms_laws.proofs.LockSteps.{lockable-has}
use Rattle.kms_laws.proofs.Measure.{IsOwnStep, backoffs-below, contexts_left, own_step_less, phases-below, times-less}
use Rattle.kms_laws.proofs.ShorterTails.{step_lowers, tails_short}
use Rattle.kms_laws.proofs.Sizes.{IsThere, answered, begun_at, busy, command-there, ended_at, from_one-within, has_commands, length_of}
use Rattle.kms_laws.proofs.Sizes.{place_of, sum-more, sum-most, sum-one}
use Rattle.kms_laws.proofs.SmallNumbers.{Counted, answered-busy, few_commands}
use Rattle.kms_laws.proofs.Steps.{flushed_at, flushed_holds}
use Rattle.kms_laws.proofs.Swapped.{flush_within}

-- What clients have done

abbrev pub done_at : Place → ℕ
done_at p = begun_at p + (ended_at p + p.command)

abbrev pub all_done : Script → List (ℕ × Place) → ℕ
all_done s places = sum (λ c. done_at (place_of places c)) 1 (length s.clients)

module _ (s : Script) (places : List (ℕ × Place)) (x : ℕ) (p : Place) where
  done_rises : done_at (place_of places x) ≤ done_at p → (c : ℕ) → done_at (place_of places c) ≤ done_at (place_of ((x, p) ∷ places) c)
  done_rises own c =
      ⊎_elim
      (λ (same : x ≡ c).
      subst (λ z. done_at (place_of places z) ≤ done_at (place_of ((x, p) ∷ places) z)) same
      (let e = ap done_at (read_same (record { command = 1; doing = doing.Idle }) places x p) in omega (arith, e, own)))
      (λ ne. let e = ap done_at (read_other (record { command = 1; doing = doing.Idle }) places x c p ne) in omega (arith, e))
      (cases_eq x c)

  pub done-more : done_at (place_of places x) ≤ done_at p → all_done s places ≤ all_done s ((x, p) ∷ places)
  done-more own = sum-more (λ c. done_at (place_of places c)) (λ c. done_at (place_of ((x, p) ∷ places) c)) 1 (length s.clients)
      (λ c a b. done_rises own c)

  pub done-one : done_at (place_of places x) + 1 ≤ done_at p → 1 ≤ x → x < 1 + length s.clients → all_done s places + 1
      ≤ all_done s ((x, p) ∷ places)
  done-one own low high =
      let one : done_at (place_of places x) + 1 ≤ done_at (place_of ((x, p) ∷ places) x) =
      (let e = ap done_at (read_same (record { command = 1; doing = doing.Idle }) places x p) in omega (arith, e, own)) in
      sum-one (λ c. done_at (place_of places c)) (λ c. done_at (place_of ((x, p) ∷ places) c)) x 1 (length s.clients)
      (λ c a b. done_rises (omega (arith, own)) c) one low high

-- What a step does to what is left

pub data Falls (s : Script) (m : Machine) (step : Step) (m2 : Machine) : Type 0 where
  -- a client begins a command, or has its answer, or returns
  Answers : all_done s m.contexts.places + 1 ≤ all_done s m2.contexts.places → (length m2.device.commits ≡ length m.device.commits)
      ⊎ (length m2.device.commits ≡ suc (length m.device.commits)) → Falls s m step m2
  -- a context goes on
  Locks : (client : ℕ) → all_done s m.contexts.places ≤ all_done s m2.contexts.places → m2.device ≡ m.device → m2.records ≡ m.records
      → m2.stalled ≡ m.stalled → IsOwnStep s m.contexts m2.contexts client → IsIn client (client_numbers s)
      → Falls s m step m2
  -- a tail goes on
  Tails : (k : ℕ) → k < length m.device.commits → commit_of_step m step ≡ Some k → m2.contexts ≡ m.contexts → m2.device.commits
      ≡ m.device.commits → m2.stalled ≡ m.stalled → Falls s m step m2
  -- a dead history is ended
  Ends : m.stalled ≡ false → m2 ≡ record m { stalled = true } → Falls s m step m2

module _ (s : Script) (m : Machine) (n : ℕ) (C : Counted s n m) where
  there : (client : ℕ) (c : Command) → command_at s m client ≡ Some c → IsThere s client (place_of m.contexts.places client).command
  there client c e = command-there s (entry_at m client) c e

  lock-client : (client object : ℕ) → may_lock s m client object ≡ true → IsIn client (client_numbers s)
  lock-client client object h = let g = (lock_guards s m client object h).reaching in with_request s m client g.request g.stands

  lock-is : (client object : ℕ) → may_lock s m client object ≡ true → is_taking (doing_at m client) ≡ true
  lock-is client object h = (lock_guards s m client object h).reaching.taking

  lock-older : (client object holder : ℕ) → may_lock s m client object ≡ true → holder_at m object ≡ Some holder
      → nat_lt (ticket_of (doing_at m holder)) (ticket_of (doing_at m client)) ≡ true
  lock-older client object holder h held =
      sym (ap (is_free_or_older m (ticket_of (doing_at m client))) held) ∙ (lock_guards s m client object h).free

  ticket-client : (client : ℕ) → has_context (doing_at m client) ≡ true → IsIn client (client_numbers s)
  ticket-client client t = let q = C.facts.locks.atomic client t in with_request s m client q.request q.at

  -- a client that goes on with its context
  same_done : (client : ℕ) (d : Doing) → (busy (doing_at m client) ≡ 1) × (answered (doing_at m client) ≡ 0) → (busy d ≡ 1)
      × (answered d ≡ 0)
      → all_done s m.contexts.places ≤ all_done s ((client, record { command = (place_at m client).command; doing = d })
      ∷ m.contexts.places)
  same_done client d old new =
      done-more s m.contexts.places client (record { command = (place_at m client).command; doing = d })
      (let a = old.0 in let b = old.1 in let e = new.0 in let f = new.1 in omega (arith, a, b, e, f))

  -- an idle client, or one that takes locks, has its answer and goes on
  next_done : (client : ℕ) (c : Command) → command_at s m client ≡ Some c → busy (doing_at m client) ≤ 1 → answered (doing_at m client) ≡ 0
      → all_done s m.contexts.places + 1 ≤ all_done s
      ((client, record { command = (place_at m client).command + 1; doing = doing.Idle }) ∷ m.contexts.places)
  next_done client c e b a =
      done-one s m.contexts.places client (record { command = (place_at m client).command + 1; doing = doing.Idle }) (omega (arith, b, a))
      (there client c e).low (there client c e).high

  idle_done : (client : ℕ) (c : Command) → command_at s m client ≡ Some c → is_idle (doing_at m client) ≡ true
      → all_done s m.contexts.places + 1 ≤ all_done s
      ((client, record { command = (place_at m client).command + 1; doing = doing.Idle }) ∷ m.contexts.places)
  idle_done client c e idle = let i = idle-busy (doing_at m client) idle in next_done client c e (let z = i.0 in omega (arith, z)) i.1

  taking_done : (client : ℕ) (c : Command) → command_at s m client ≡ Some c → is_taking (doing_at m client) ≡ true
      → all_done s m.contexts.places + 1 ≤ all_done s
      ((client, record { command = (place_at m client).command + 1; doing = doing.Idle }) ∷ m.contexts.places)
  taking_done client c e taking = let i = taking-busy (doing_at m client) taking
      in next_done client c e (let z = i.0 in omega (arith, z)) i.1

  return_done : (client k : ℕ) → returning_of (doing_at m client) ≡ Some k → all_done s m.contexts.places + 1
      ≤ all_done s ((client, record { command = (place_at m client).command + 1; doing = doing.Idle }) ∷ m.contexts.places)
  return_done client k e = by_client (from_one s.clients client) refl
    where
      r : (busy (doing_at m client) ≡ 1) × (answered (doing_at m client) ≡ 1)
      r = returning-busy (doing_at m client) k e

      some : 1 ≤ has_commands s client
      some = let a = C.sizes.places_stand.bound client in let b = C.sizes.places_stand.low client in let z = r.0 in omega (arith, a, b, z)

      by_client : (o : Option (List Command)) → from_one s.clients client ≡ o → all_done s m.contexts.places + 1
          ≤ all_done s ((client, record { command = (place_at m client).command + 1; doing = doing.Idle }) ∷ m.contexts.places)
      by_client None f = absurd (let z : has_commands s client ≡ 0 = ap length_of f in let l = some in omega (arith, z, l))
      by_client (Some commands) f =
          let w = from_one-within s.clients client commands f in
          let high = w.1 in
          done-one s m.contexts.places client (record { command = (place_at m client).command + 1; doing = doing.Idle })
          (let a = r.0 in let b = r.1 in omega (arith, a, b)) w.0 (omega (arith, high))

  carries_falls : Carries s m (λ step m2. is_moving m step ≡ true → Falls s m step m2)
  carries_falls = record {
    locks = record {
      begins = λ client c e atomic idle mv.
          let i = idle-busy (doing_at m client) idle in
          Answers (done-one s m.contexts.places client
          (record { command = (place_at m client).command; doing = doing.Taking (record { 0 = m.contexts.tickets }) })
          (let a = i.0 in let b = i.1 in omega (arith, a, b)) (there client c e).low (there client c e).high) (inl refl);
      takes = λ client kind index is_lock lock free mv.
          Locks client (omega arith) refl refl refl (take_step s m client (object_id kind index)
          (lockable-has s.topology kind index is_lock) (lock-is client (object_id kind index) lock) free)
          (lock-client client (object_id kind index) lock);
      meets = λ client kind index holder is_lock lock held mv.
          Locks client (same_done client (doing.MustBackOff (record { 0 = ticket_of (doing_at m client) }) (obj_id (object_id kind index)))
          (taking-busy (doing_at m client) (lock-is client (object_id kind index) lock)) (refl, refl)) refl refl refl
          (meet_step s m client (object_id kind index) holder (lock-is client (object_id kind index) lock) held
          (lock-older client (object_id kind index) holder lock held)) (lock-client client (object_id kind index) lock);
      backs = λ client back mv.
          let step = back_step s m client back in
          Locks client (same_done client (backed_off (doing_at m client)) (back-busy (doing_at m client) back).0
          (back-busy (doing_at m client) back).1) refl refl refl step (ticket-client client step.ticket);
      relocks = λ client object asked free mv.
          let step = relock_step s m client object asked free in
          Locks client (same_done client (doing.Taking (record { 0 = ticket_of (doing_at m client) }))
          (contended-busy (doing_at m client) object asked) (refl, refl)) refl refl refl step (ticket-client client step.ticket);
      returned = λ client k e clean mv. Answers (return_done client k e) (inl refl);
    };
    answers = record {
      refuses = λ client r e taking may mv. Answers (taking_done client (command.Atomic r) e taking) (inl refl);
      tests = λ client r e taking may mv. Answers (taking_done client (command.Atomic r) e taking) (inl refl);
      swaps = λ client r e taking may b w eb ew mv.
          let on = taking_done client (command.Atomic r) e taking in
          let t = taking-busy (doing_at m client) taking in
          let back : all_done s m.contexts.places + 1
          ≤ all_done s ((client, record { command = (place_at m client).command; doing = doing.Returning (length m.device.commits) })
          ∷ m.contexts.places) =
          done-one s m.contexts.places client (record
          { command = (place_at m client).command; doing = doing.Returning (length m.device.commits) })
          (let a = t.0 in let b2 = t.1 in omega (arith, a, b2)) (there client (command.Atomic r) e).low
          (there client (command.Atomic r) e).high in
          by_two (λ b w. Falls s m (Swap client) (swapped_as s.topology b w m client r)) (Answers on (inr refl)) (Answers back (inr refl))
          (Answers on (inr refl)) (Answers back (inr refl)) b w;
      makes = λ client c e making idle b eb mv.
          let on = idle_done client c e idle in
          by_bool (λ b. Falls s m (Make client) (made_as b m client (execute s.topology m.device.world client c))) (Answers on (inl refl))
          (Answers on (inl refl)) b;
      signalled = λ client c e is_signal idle o mv.
          let on = idle_done client c e idle in
          by_fence (λ o. Falls s m (Signal client) (goes_on
          (signals (answers m client (execute s.topology m.device.world client c).reply) o) client)) (Answers on (inl refl))
          (λ fence. Answers on (inl refl)) o;
      read_none = λ client c e is_wait idle none mv. Answers (idle_done client c e idle) (inl refl);
      read_one = λ client c e is_wait idle event events some mv. Answers (idle_done client c e idle) (inl refl);
    };
    tails = record {
      claimed = λ k h mv. Tails k (claim_guards s.topology m k h).within refl refl refl refl;
      written = λ k kind index found mv. Tails k (C.facts.holds.tail.marks.claimed k found.claimed) refl refl refl refl;
      waits = λ k kind index written found mv. Tails k
          (flush_within (flushed_holds s m C.facts.holds k (object_id kind index) written found).tail k (object_id kind index)
          (pair_now k (object_id kind index) m.device.marks.flushed)) refl refl refl refl;
      flushed = λ k kind index written found b o eb eo mv.
          let low = flush_within (flushed_holds s m C.facts.holds k (object_id kind index) written found).tail k (object_id kind index)
          (pair_now k (object_id kind index) m.device.marks.flushed) in
          by_latch (λ b o. Falls s m (Flush k kind index)
          (latched_as s.topology b o (flushed_at m k (object_id kind index)) k (object_id kind index)
          (count_at m.device (object_id kind index))))
          (Tails k low refl refl refl refl) (λ fence. Tails k low refl refl refl refl) (Tails k low refl refl refl refl)
          (λ fence. Tails k low refl refl refl refl) b o;
      done = λ k a b c d mv. Tails k (C.facts.holds.tail.marks.claimed k a) refl refl refl refl;
      counted = λ kind index is none mv. absurd (false≢true (sym (ap is_some none) ∙ mv));
      blanked = λ kind index k is some b o eb eo mv.
          let low = flush_within C.facts.holds.tail k (object_id kind index)
          (C.facts.holds.tail.marks.go_is k (object_id kind index) some).flushed in
          by_latch (λ b o. Falls s m (Vblank kind index)
          (latched_as s.topology b o (counts_vblank m (object_id kind index)) k (object_id kind index)
          (count_at m.device (object_id kind index) + 1)))
          (Tails k low some refl refl refl) (λ fence. Tails k low some refl refl refl) (Tails k low some refl refl refl)
          (λ fence. Tails k low some refl refl refl) b o;
      cleaned = λ k a b c mv. Tails k (C.facts.holds.tail.marks.claimed k (C.facts.holds.tail.marks.done k a).0) refl refl refl refl;
    };
    stalled = λ h mv. Ends (legal-going s m Stall h) refl;
  }

  pub falls : (step : Step) → legal s m step ≡ true → is_moving m step ≡ true → Falls s m step (next s m step)
  falls step h = each_step s m (λ step m2. is_moving m step ≡ true → Falls s m step m2) carries_falls step h

-- What is left in all

range-above : (from n k : ℕ) → IsIn k (range_with_len from n) → from ≤ k
range-above from zero k is = absurd is
range-above from (suc n) k (inl same) = omega (arith, same)
range-above from (suc n) k (inr rest) = let a = range-above (from + 1) n k rest in omega (arith, a)

-- there are at most so many tickets
abbrev pub most_tickets : Script → ℕ
most_tickets s = length s.clients * 4097

abbrev pub done_left : Script → Machine → ℕ
done_left s m = length s.clients * 12291 - all_done s m.contexts.places

-- more than what a step of a client can add to the tails and the contexts
abbrev pub weight : ℕ
weight = 22771715425

abbrev pub one_unless : Bool → ℕ
one_unless b = if b then 0 else 1

abbrev pub rest_left : Script → Machine → ℕ
rest_left s m = all_left s.topology m + (contexts_left s (most_tickets s) m.contexts + one_unless m.stalled)

abbrev pub left : Script → Machine → ℕ
left s m = done_left s m * weight + rest_left s m

one_unless-most : (b : Bool) → one_unless b ≤ 1
one_unless-most true = omega arith
one_unless-most false = omega arith

module _ (s : Script) (formed : IsWellFormed s) (m : Machine) (n : ℕ) (C : Counted s n m) where
  begun-bound : (c : ℕ) → begun_at (place_of m.contexts.places c) ≤ 4097
  begun-bound c = let a = C.sizes.places_stand.bound c in let b = few_commands s c formed.clients in omega (arith, a, b)

  done-bound : all_done s m.contexts.places ≤ length s.clients * 12291
  done-bound =
      sum-most (λ c. done_at (place_of m.contexts.places c)) 12291 1 (length s.clients)
      (λ c. let a = begun-bound c in let b = answered-busy (place_of m.contexts.places c).doing in omega (arith, a, b))

  ticket-bound : (client : ℕ) → has_context (doing_at m client) ≡ true → ticket_of (doing_at m client) < most_tickets s
  ticket-bound client t =
      let a = C.facts.locks.below client t in
      let b = C.sizes.places_stand.tickets_few in
      let c = sum-most (λ c. begun_at (place_of m.contexts.places c)) 4097 1 (length s.clients) begun-bound in
      omega (arith, a, b, c)

  contexts-bound : contexts_left s (most_tickets s) m.contexts ≤ 22771715392
  contexts-bound =
      let a = backoffs-below s m.contexts (most_tickets s) formed.few in
      let b = phases-below s m.contexts (few_objects s.topology formed.device) formed.few in
      omega (arith, a, b)

  pub left-bound : left s m < 2 ^ 53
  left-bound =
      let few = formed.few in
      let ended =
      sum-most (λ c. ended_at (place_of m.contexts.places c)) 4097 1 (length s.clients)
      (λ c. let a = begun-bound c in let b = answered-busy (place_of m.contexts.places c).doing in omega (arith, a, b)) in
      let commits : length m.device.commits ≤ 65536 = (let a = C.sizes.places_stand.commits_few in omega (arith, a, ended, few)) in
      let tails = sum-most (tail_left s.topology m) 31 0 (length m.device.commits)
      (λ k. tails_short s.topology m k (few_objects s.topology formed.device)) in
      let done : done_left s m ≤ 196656 = omega (arith, few) in
      let weighed = mul-le-mul_right weight done in
      let c = contexts-bound in
      let d = one_unless-most m.stalled in
      omega (arith, commits, tails, weighed, c, d)

module _ (s : Script) (formed : IsWellFormed s) (m : Machine) (n : ℕ) (C : Counted s n m) (step : Step) (l : legal s m step ≡ true)
    (m2 : Machine) (after : m2 ≡ next s m step) (n2 : ℕ) (counted-after : Counted s n2 m2) where
  client-low : (client : ℕ) → IsIn client (client_numbers s) → 1 ≤ client
  client-low client is = range-above 1 (length s.clients) client is

  client-high : (client : ℕ) → IsIn client (client_numbers s) → client < 1 + length s.clients
  client-high client is = range-below 1 (length s.clients) client is

  lowers : (k : ℕ) → k < length m.device.commits → LeavesLess s.topology m m2 step k
  lowers k lt = subst (λ z. LeavesLess s.topology m z step k) (sym after) (step_lowers s m C.facts.holds step l k lt)

  pub falls-lower : Falls s m step m2 → left s m2 + 1 ≤ left s m
  falls-lower (Answers more commits) =
      let a = done-bound s formed m2 n2 counted-after in
      let less : done_left s m2 + 1 ≤ done_left s m = omega (arith, a, more) in
      let b = times-less (done_left s m2) (done_left s m) weight less in
      let c = left_any s m step m2 lowers C.facts.holds.tail.few commits in
      let d = contexts-bound s formed m2 n2 counted-after in
      let e = one_unless-most m2.stalled in
      omega (arith, b, c, d, e)
  falls-lower (Locks client more device records stalled own is_client) =
      let le : done_left s m2 ≤ done_left s m = omega (arith, more) in
      let a = mul-le-mul_right weight le in
      let b : all_left s.topology m2 ≡ all_left s.topology m =
      (λ i. sum (steps_left s.topology (device i).commits (device i).marks (records i).latches) 0 (length (device i).commits)) in
      let c = own_step_less s m.contexts m2.contexts (length m.device.commits) client C.facts.locks own is_client (most_tickets s)
      (ticket-bound s formed m n C client own.ticket) (few_objects s.topology formed.device) formed.few (client-low client is_client)
      (client-high client is_client) in
      let d = ap one_unless stalled in
      omega (arith, a, b, c, d)
  falls-lower (Tails k lt of_k contexts commits stalled) =
      let a : done_left s m2 * weight ≡ done_left s m
      * weight = ap (λ (x : Contexts). (length s.clients * 12291 - all_done s x.places) * weight) contexts in
      let b = left_less s m step m2 lowers k lt of_k (ap length commits) in
      let c = ap (contexts_left s (most_tickets s)) contexts in
      let d = ap one_unless stalled in
      omega (arith, a, b, c, d)
  falls-lower (Ends going same) =
      let a : done_left s m2 * weight + (all_left s.topology m2 + contexts_left s (most_tickets s) m2.contexts) ≡ done_left s m * weight
      + (all_left s.topology m + contexts_left s (most_tickets s) m.contexts) =
      ap (λ (z : Machine). done_left s z * weight + (all_left s.topology z + contexts_left s (most_tickets s) z.contexts)) same in
      let b : one_unless m2.stalled ≡ 0 = ap (λ (z : Machine). one_unless z.stalled) same in
      let c : one_unless m.stalled ≡ 1 = ap one_unless going in
      omega (arith, a, b, c)

-- a vblank without GO leaves as much
module _ (s : Script) (m : Machine) where
  carries_left : Carries s m (λ step m2. is_moving m step ≡ false → left s m2 ≡ left s m)
  carries_left = record {
    locks = record {
      begins = λ client c e atomic idle mv. absurd (false≢true (sym mv));
      takes = λ client kind index is_lock lock free mv. absurd (false≢true (sym mv));
      meets = λ client kind index holder is_lock lock held mv. absurd (false≢true (sym mv));
      backs = λ client back mv. absurd (false≢true (sym mv));
      relocks = λ client object asked free mv. absurd (false≢true (sym mv));
      returned = λ client k e clean mv. absurd (false≢true (sym mv));
    };
    answers = record {
      refuses = λ client r e taking may mv. absurd (false≢true (sym mv));
      tests = λ client r e taking may mv. absurd (false≢true (sym mv));
      swaps = λ client r e taking may b w eb ew mv. absurd (false≢true (sym mv));
      makes = λ client c e making idle b eb mv. absurd (false≢true (sym mv));
      signalled = λ client c e is_signal idle o mv. absurd (false≢true (sym mv));
      read_none = λ client c e is_wait idle none mv. absurd (false≢true (sym mv));
      read_one = λ client c e is_wait idle event events some mv. absurd (false≢true (sym mv));
    };
    tails = record {
      claimed = λ k h mv. absurd (false≢true (sym mv));
      written = λ k kind index found mv. absurd (false≢true (sym mv));
      waits = λ k kind index written found mv. absurd (false≢true (sym mv));
      flushed = λ k kind index written found b o eb eo mv. absurd (false≢true (sym mv));
      done = λ k a b c d mv. absurd (false≢true (sym mv));
      counted = λ kind index is none mv. refl;
      blanked = λ kind index k is some b o eb eo mv. absurd (false≢true (sym mv ∙ ap is_some some));
      cleaned = λ k a b c mv. absurd (false≢true (sym mv));
    };
    stalled = λ h mv. absurd (false≢true (sym mv));
  }

  pub idle-same : (step : Step) → legal s m step ≡ true → is_moving m step ≡ false → left s (next s m step) ≡ left s m
  idle-same step h = each_step s m (λ step m2. is_moving m step ≡ false → left s m2 ≡ left s m) carries_left step h

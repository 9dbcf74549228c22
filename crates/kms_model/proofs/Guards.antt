-- The guards of each test that the machine makes, by names: a test that holds gives its record, and the record gives the test.
use Rattle.std.proofs.Common.{◌≡◌, ℕ, ◌<◌, List, ◌∷◌, length, Bool, true, false, not, ◌&&◌, ◌||◌, Option, Some, None, inl, inr}
use Rattle.std.proofs.Common.{refl, sym, ap, ◌∙◌}
use Rattle.std.specs.Prelude.{is_some, nat_lt, ◌==◌}
use Rattle.std.specs.List.{list_all}
use Rattle.std.proofs.lemmas.Bool.{and_from, and_parts, false≢true, lt-ltb, ltb-true, not-true, or_cases}
use Rattle.kms_model.specs.declared.objects.Kind.{Kind}
use Rattle.kms_model.specs.declared.objects.Kind.TheVariants.{Crtc}
use Rattle.kms_model.specs.declared.objects.Topology.{Topology}
use Rattle.kms_model.specs.declared.replies.Step.{Step}
use Rattle.kms_model.specs.declared.replies.Step.TheVariants.{Begin, Lock, BackOff, Relock, Refuse, Test, Swap, Make, Signal, Claim, Write}
use Rattle.kms_model.specs.declared.replies.Step.TheVariants.{Flush, HwDone, Vblank, Cleanup, Read, Return, Stall}
use Rattle.kms_model.specs.declared.scripts.Command.{Command}
use Rattle.kms_model.specs.declared.scripts.Request.{Request}
use Rattle.kms_model.specs.declared.scripts.Script.{Script}
use Rattle.kms_model.specs.Device.Objects.{count_of, exists, ids_of, object_id}
use Rattle.kms_model.specs.Machine.Commits.{commit_names, commit_touches, has_number, has_pair, is_all_flushed, is_all_latched}
use Rattle.kms_model.specs.Machine.Commits.{is_all_written, is_claimed, is_cleaned, is_hw_done, lockable, registered, waited_fences}
use Rattle.kms_model.specs.Machine.Histories.{are_legal, client_numbers, commit_numbers, is_at_end, is_dead, is_drained, legal}
use Rattle.kms_model.specs.Machine.Effects.{next}
use Rattle.kms_model.specs.Machine.Registers.{is_on_in}
use Rattle.kms_model.specs.Machine.State.{DeviceState, Machine, command_at, doing_at, go_at, holder_at, request_at, reserved_at}
use Rattle.kms_model.specs.Machine.State.{unread_at}
use Rattle.kms_model.specs.Machine.Steps.{contended, first_pending, holds_touched, idle_at, is_atomic, is_busy, is_crtc_of}
use Rattle.kms_model.specs.Machine.Steps.{is_free_for, is_free_or_older, is_idle, is_lockable, is_making, is_ready, is_refused_late}
use Rattle.kms_model.specs.Machine.Steps.{is_settled_for, is_signal, is_taking, is_wait, lacks_space, may, may_claim, may_lock, may_refuse}
use Rattle.kms_model.specs.Machine.Steps.{may_swap, may_test, must_back_off, next_flush, next_write, returning_of, taking_at, ticket_of}
use Rattle.kms_model.specs.Request.Flags.{is_nonblock, is_test}
use Rattle.kms_model.specs.Request.Reach.{reaches}
use Rattle.kms_model.specs.Request.Verdict.{early_in, late_in, verdict}
use Rattle.kms_model.proofs.Facts.{neither, none-is, value-is}
use Rattle.kms_model.proofs.Items.{IsIn, ids-has, list_all-at}
use Rattle.kms_model.proofs.ThingLemmas.{find-holds, find-in}

-- Where clients stand

pub record IsIdleAt (s : Script) (m : Machine) (client : ℕ) (test : Command → Bool) : Type 0 where
  pub idle : is_idle (doing_at m client) ≡ true
  pub command : Command
  pub stands : command_at s m client ≡ Some command
  pub passes : test command ≡ true

pub idle_guards : (s : Script) (m : Machine) (client : ℕ) (test : Command → Bool) → idle_at s m client test ≡ true
    → IsIdleAt s m client test
idle_guards s m client test h = go (command_at s m client) refl where
  go : (o : Option Command) → command_at s m client ≡ o → IsIdleAt s m client test
  go None e = let g = rw e at h in absurd (false≢true (and_parts _ _ g).1)
  go (Some c) e = (let g = rw e at h in let two = and_parts _ (test c) g in
      record { idle = two.0; command = c; stands = e; passes = two.1 })

pub idle_from : (s : Script) (m : Machine) (client : ℕ) (test : Command → Bool) → IsIdleAt s m client test
    → idle_at s m client test ≡ true
idle_from s m client test g = rw g.stands (and_from (is_idle (doing_at m client)) (test g.command) g.idle g.passes)

pub record IsTakingAt (s : Script) (m : Machine) (client : ℕ) (test : Request → Bool) : Type 0 where
  pub taking : is_taking (doing_at m client) ≡ true
  pub request : Request
  pub stands : request_at s m client ≡ Some request
  pub passes : test request ≡ true

pub taking_guards : (s : Script) (m : Machine) (client : ℕ) (test : Request → Bool) → taking_at s m client test ≡ true
    → IsTakingAt s m client test
taking_guards s m client test h = go (request_at s m client) refl where
  go : (o : Option Request) → request_at s m client ≡ o → IsTakingAt s m client test
  go None e = let g = rw e at h in absurd (false≢true (and_parts _ _ g).1)
  go (Some r) e = (let g = rw e at h in let two = and_parts _ (test r) g in
      record { taking = two.0; request = r; stands = e; passes = two.1 })

pub taking_from : (s : Script) (m : Machine) (client : ℕ) (test : Request → Bool) → IsTakingAt s m client test
    → taking_at s m client test ≡ true
taking_from s m client test g = rw g.stands (and_from (is_taking (doing_at m client)) (test g.request) g.taking g.passes)

-- at the request where the client stands
pub taking_passes : (s : Script) (m : Machine) (client : ℕ) (test : Request → Bool) → IsTakingAt s m client test → (r : Request)
    → request_at s m client ≡ Some r → test r ≡ true
taking_passes s m client test g r is =
    let both : Some g.request ≡ Some r = sym g.stands ∙ is in
    let same : g.request ≡ r = cc in
    ap test (sym same) ∙ g.passes

pub record IsMaking (c : Command) : Type 0 where
  pub no_atomic : is_atomic c ≡ false
  pub no_signal : is_signal c ≡ false
  pub no_wait : is_wait c ≡ false

pub making_guards : (c : Command) → is_making c ≡ true → IsMaking c
making_guards c h =
    let first = and_parts (not (is_atomic c)) _ h in
    let last = and_parts (not (is_signal c)) _ first.1 in
    record { no_atomic = not-true _ first.0; no_signal = not-true _ last.0; no_wait = not-true _ last.1 }

pub record IsAtEnd (s : Script) (m : Machine) (client : ℕ) : Type 0 where
  pub idle : is_idle (doing_at m client) ≡ true
  pub ended : command_at s m client ≡ None

pub end_guards : (s : Script) (m : Machine) (client : ℕ) → is_at_end s m client ≡ true → IsAtEnd s m client
end_guards s m client h = (let two = and_parts (is_idle (doing_at m client)) _ h in
    record { idle = two.0; ended = none-is _ two.1 })

-- Locks

pub record MayLock (s : Script) (m : Machine) (client object : ℕ) : Type 0 where
  pub reaching : IsTakingAt s m client (λ r. reaches s.topology m.device.world r object)
  pub free : is_free_or_older m (ticket_of (doing_at m client)) (holder_at m object) ≡ true

pub lock_guards : (s : Script) (m : Machine) (client object : ℕ) → may_lock s m client object ≡ true → MayLock s m client object
unfolding may_lock
lock_guards s m client object h = (let two = and_parts _ _ h in record { reaching = taking_guards s m client _ two.0; free = two.1 })

pub lock_from : (s : Script) (m : Machine) (client object : ℕ) → MayLock s m client object → may_lock s m client object ≡ true
unfolding may_lock
lock_from s m client object g = and_from _ _ (taking_from s m client _ g.reaching) g.free

pub record IsLocking (s : Script) (m : Machine) (client : ℕ) (kind : Kind) (index : ℕ) : Type 0 where
  pub lockable : is_lockable s.topology kind index ≡ true
  pub may_lock : MayLock s m client (object_id kind index)

pub record IsRelocking (m : Machine) (client : ℕ) : Type 0 where
  pub object : ℕ
  pub contends : contended (doing_at m client) ≡ Some object
  pub free : holder_at m object ≡ None

relock_guards : (m : Machine) (client : ℕ) → is_free_for m (contended (doing_at m client)) ≡ true → IsRelocking m client
relock_guards m client h = go (contended (doing_at m client)) refl where
  go : (o : Option ℕ) → contended (doing_at m client) ≡ o → IsRelocking m client
  go None e = let g = rw e at h in absurd (false≢true g)
  go (Some object) e = (let g = rw e at h in record { object = object; contends = e; free = none-is (holder_at m object) g })

-- Decisions on a request

pub data IsRefusing (t : Topology) (m : Machine) (client : ℕ) (r : Request) : Type 0 where
  Early : is_some (early_in t m.device.world r) ≡ true → IsRefusing t m client r
  Late : holds_touched t m client r ≡ true → is_some (late_in t m.device.world r) ≡ true → IsRefusing t m client r
  Full : holds_touched t m client r ≡ true → is_test r.flags ≡ false → lacks_space t m client r ≡ true → IsRefusing t m client r
  Busy : holds_touched t m client r ≡ true → is_test r.flags ≡ false → is_nonblock r.flags ≡ true → is_some (first_pending t m r) ≡ true
      → IsRefusing t m client r

pub refuse_guards : (t : Topology) (m : Machine) (client : ℕ) (r : Request) → may_refuse t m client r ≡ true → IsRefusing t m client r
unfolding may_refuse
refuse_guards t m client r h = elim (or_cases _ _ h) [
  | inl early ↦ Early early
  | inr rest ↦ (let held = and_parts _ _ rest in elim (or_cases _ _ held.1) [
    | inl late ↦ Late held.0 late
    | inr refused ↦ (let tests = and_parts _ _ refused in let no_test = not-true _ tests.0 in elim (or_cases _ _ tests.1) [
      | inl full ↦ Full held.0 no_test full
      | inr busy ↦ (let two = and_parts _ _ busy in Busy held.0 no_test two.0 two.1)
    ])
  ])
]

pub record IsTesting (t : Topology) (m : Machine) (client : ℕ) (r : Request) : Type 0 where
  pub test : is_test r.flags ≡ true
  pub held : holds_touched t m client r ≡ true
  pub accepted : verdict t m.device.world r ≡ None

pub test_guards : (t : Topology) (m : Machine) (client : ℕ) (r : Request) → may_test t m client r ≡ true → IsTesting t m client r
unfolding may_test
test_guards t m client r h =
    let tests = and_parts _ _ h in
    let holds = and_parts _ _ tests.1 in
    record { test = tests.0; held = holds.0; accepted = none-is _ holds.1 }

pub record IsSwapping (t : Topology) (m : Machine) (client : ℕ) (r : Request) : Type 0 where
  pub no_test : is_test r.flags ≡ false
  pub held : holds_touched t m client r ≡ true
  pub accepted : verdict t m.device.world r ≡ None
  pub space : lacks_space t m client r ≡ false
  pub free : is_busy t m r ≡ false
  pub ready : is_ready t m r ≡ true

pub swap_guards : (t : Topology) (m : Machine) (client : ℕ) (r : Request) → may_swap t m client r ≡ true → IsSwapping t m client r
unfolding may_swap
swap_guards t m client r h =
    let tests = and_parts _ _ h in
    let holds = and_parts _ _ tests.1 in
    let verdicts = and_parts _ _ holds.1 in
    let last = and_parts _ _ verdicts.1 in
    let in_time = neither (lacks_space t m client r) (is_busy t m r)
    (sym (ap (λ b. b && (lacks_space t m client r || is_busy t m r)) tests.0) ∙ not-true (is_refused_late t m client r) last.0) in
    record {
      no_test = not-true _ tests.0;
      held = holds.0;
      accepted = none-is _ verdicts.0;
      space = in_time.0;
      free = in_time.1;
      ready = last.1;
    }

-- Tails

pub record IsClaiming (t : Topology) (m : Machine) (k : ℕ) : Type 0 where
  pub within : k < length m.device.commits
  pub unclaimed : is_claimed m.device k ≡ false
  pub signalled : list_all (has_number m.device.signalled) (waited_fences t m.device.commits k) ≡ true
  pub settled : list_all (λ object. not (commit_touches t m.device.commits k object) || is_settled_for t m k object) (lockable t) ≡ true

pub claim_guards : (t : Topology) (m : Machine) (k : ℕ) → may_claim t m k ≡ true → IsClaiming t m k
unfolding may_claim
claim_guards t m k h =
    let below = and_parts _ _ h in
    let first = and_parts _ _ below.1 in
    let last = and_parts _ _ first.1 in
    record { within = ltb-true _ _ below.0; unclaimed = not-true _ first.0; signalled = last.0; settled = last.1 }

pub claim_from : (t : Topology) (m : Machine) (k : ℕ) → IsClaiming t m k → may_claim t m k ≡ true
unfolding may_claim
claim_from t m k g =
    and_from _ _ (lt-ltb k (length m.device.commits) g.within) (and_from _ _ (ap not g.unclaimed) (and_from _ _ g.signalled g.settled))

-- what a write finds
pub record IsWrite (t : Topology) (d : DeviceState) (k o : ℕ) : Type 0 where
  pub claimed : is_claimed d k ≡ true
  pub is_registered : IsIn o (registered t)
  pub touches : commit_touches t d.commits k o ≡ true
  pub fresh : has_pair d.marks.written k o ≡ false

write-found : (t : Topology) (d : DeviceState) (k o : ℕ) → is_claimed d k ≡ true → next_write t d k ≡ Some o → IsWrite t d k o
unfolding next_write
write-found t d k o claimed is =
    let two = and_parts _ _ (find-holds _ (registered t) o is) in
    record { claimed = claimed; is_registered = find-in _ (registered t) o is; touches = two.0; fresh = not-true _ two.1 }

pub record IsWriting (t : Topology) (d : DeviceState) (k : ℕ) (kind : Kind) (index : ℕ) : Type 0 where
  pub there : exists t kind index ≡ true
  pub is_next : next_write t d k ≡ Some (object_id kind index)
  pub write : IsWrite t d k (object_id kind index)

-- what a flush finds
pub record IsFlush (t : Topology) (m : Machine) (k c : ℕ) : Type 0 where
  pub is_crtc : IsIn c (ids_of t Crtc)
  pub names : commit_names t m.device.commits k c ≡ true
  pub fresh : has_pair m.device.marks.flushed k c ≡ false

pub flush-found : (t : Topology) (m : Machine) (k c : ℕ) → next_flush t m.device k ≡ Some c → IsFlush t m k c
unfolding next_flush
flush-found t m k c is =
    let two = and_parts _ _ (find-holds _ (ids_of t Crtc) c is) in
    record { is_crtc = find-in _ (ids_of t Crtc) c is; names = two.0; fresh = not-true _ two.1 }

pub record IsFlushing (t : Topology) (m : Machine) (k : ℕ) (kind : Kind) (index : ℕ) : Type 0 where
  pub written : is_all_written t m.device k ≡ true
  pub there : exists t kind index ≡ true
  pub is_next : next_flush t m.device k ≡ Some (object_id kind index)
  pub flush : IsFlush t m k (object_id kind index)

pub record IsFinishing (t : Topology) (d : DeviceState) (k : ℕ) : Type 0 where
  pub claimed : is_claimed d k ≡ true
  pub written : is_all_written t d k ≡ true
  pub flushed : is_all_flushed t d k ≡ true
  pub undone : is_hw_done d k ≡ false

pub record IsBlanking (t : Topology) (d : DeviceState) (kind : Kind) (index : ℕ) : Type 0 where
  pub kind_is : kind ≡ Crtc
  pub there : exists t kind index ≡ true
  pub is_crtc : IsIn (object_id kind index) (ids_of t Crtc)
  pub goes : (is_some (go_at d (object_id kind index)) || is_on_in d.live (object_id kind index)) ≡ true

blank_guards : (t : Topology) (d : DeviceState) (kind : Kind) (index : ℕ) → is_crtc_of t kind index ≡ true
    → (is_some (go_at d (object_id kind index)) || is_on_in d.live (object_id kind index)) ≡ true → IsBlanking t d kind index
blank_guards t d Crtc index there goes =
    record { kind_is = refl; there = there; is_crtc = ids-has t Crtc index (ltb-true index (count_of t Crtc) there); goes = goes }
blank_guards t d kind index there goes = absurd (false≢true there)

pub record IsCleaning (t : Topology) (m : Machine) (k : ℕ) : Type 0 where
  pub done : is_hw_done m.device k ≡ true
  pub latched : is_all_latched t m.device m.records.latches k ≡ true
  pub kept : is_cleaned m.device k ≡ false

-- Steps of clients besides

pub record IsReading (s : Script) (m : Machine) (client : ℕ) : Type 0 where
  pub waits : IsIdleAt s m client is_wait
  pub tells : (nat_lt 0 (length (unread_at m.events client)) || (reserved_at m.events client == 0)) ≡ true

pub record IsReturning (m : Machine) (client : ℕ) : Type 0 where
  pub commit : ℕ
  pub returns : returning_of (doing_at m client) ≡ Some commit
  pub cleaned : is_cleaned m.device commit ≡ true

return_guards : (s : Script) (m : Machine) (client : ℕ) → may s m (Return client) ≡ true → IsReturning m client
unfolding may
return_guards s m client h = go (returning_of (doing_at m client)) refl where
  go : (o : Option ℕ) → returning_of (doing_at m client) ≡ o → IsReturning m client
  go None e = let g = rw e at h in absurd (false≢true g)
  go (Some k) e = (let g = rw e at h in record { commit = k; returns = e; cleaned = g })

-- All steps

-- what a step asks for where the history was not ended
abbrev pub Guards : Script → Machine → Step → Type 0
Guards s m (Begin client) = IsIdleAt s m client is_atomic
Guards s m (Lock client kind index) = IsLocking s m client kind index
Guards s m (BackOff client) = must_back_off (doing_at m client) ≡ true
Guards s m (Relock client) = IsRelocking m client
Guards s m (Refuse client) = IsTakingAt s m client (may_refuse s.topology m client)
Guards s m (Test client) = IsTakingAt s m client (may_test s.topology m client)
Guards s m (Swap client) = IsTakingAt s m client (may_swap s.topology m client)
Guards s m (Make client) = IsIdleAt s m client is_making
Guards s m (Signal client) = IsIdleAt s m client is_signal
Guards s m (Claim k) = IsClaiming s.topology m k
Guards s m (Write k kind index) = IsWriting s.topology m.device k kind index
Guards s m (Flush k kind index) = IsFlushing s.topology m k kind index
Guards s m (HwDone k) = IsFinishing s.topology m.device k
Guards s m (Vblank kind index) = IsBlanking s.topology m.device kind index
Guards s m (Cleanup k) = IsCleaning s.topology m k
Guards s m (Read client) = IsReading s m client
Guards s m (Return client) = IsReturning m client
Guards s m Stall = is_dead s m ≡ true

pub may_guards : (s : Script) (m : Machine) (step : Step) → may s m step ≡ true → Guards s m step
unfolding may
may_guards s m (Begin client) h = idle_guards s m client is_atomic h
may_guards s m (Lock client kind index) h =
    let two = and_parts _ _ h in record { lockable = two.0; may_lock = lock_guards s m client (object_id kind index) two.1 }
may_guards s m (BackOff client) h = h
may_guards s m (Relock client) h = relock_guards m client h
may_guards s m (Refuse client) h = taking_guards s m client (may_refuse s.topology m client) h
may_guards s m (Test client) h = taking_guards s m client (may_test s.topology m client) h
may_guards s m (Swap client) h = taking_guards s m client (may_swap s.topology m client) h
may_guards s m (Make client) h = idle_guards s m client is_making h
may_guards s m (Signal client) h = idle_guards s m client is_signal h
may_guards s m (Claim k) h = claim_guards s.topology m k h
may_guards s m (Write k kind index) h =
    let first = and_parts _ _ h in
    let last = and_parts _ _ first.1 in
    let is_next = value-is (object_id kind index) (next_write s.topology m.device k) last.1 in
    record { there = last.0; is_next = is_next; write = write-found s.topology m.device k (object_id kind index) first.0 is_next }
may_guards s m (Flush k kind index) h =
    let first = and_parts _ _ h in
    let last = and_parts _ _ first.1 in
    let is_next = value-is (object_id kind index) (next_flush s.topology m.device k) last.1 in
    record { written = first.0; there = last.0; is_next = is_next; flush = flush-found s.topology m k (object_id kind index) is_next }
may_guards s m (HwDone k) h =
    let first = and_parts _ _ h in
    let second = and_parts _ _ first.1 in
    let last = and_parts _ _ second.1 in
    record { claimed = first.0; written = second.0; flushed = last.0; undone = not-true _ last.1 }
may_guards s m (Vblank kind index) h = let two = and_parts _ _ h in blank_guards s.topology m.device kind index two.0 two.1
may_guards s m (Cleanup k) h =
    let first = and_parts _ _ h in
    let last = and_parts _ _ first.1 in
    record { done = first.0; latched = last.0; kept = not-true _ last.1 }
may_guards s m (Read client) h = let two = and_parts _ _ h in record { waits = idle_guards s m client is_wait two.0; tells = two.1 }
may_guards s m (Return client) h = return_guards s m client h
may_guards s m Stall h = absurd (false≢true h)

pub legal_guards : (s : Script) (m : Machine) (step : Step) → legal s m step ≡ true → Guards s m step
unfolding legal
legal_guards s m Stall h = (and_parts (not m.stalled) _ h).1
legal_guards s m step h = may_guards s m step (and_parts (not m.stalled) _ h).1

pub may_legal : (s : Script) (m : Machine) (step : Step) → m.stalled ≡ false → may s m step ≡ true → legal s m step ≡ true
unfolding legal may
may_legal s m Stall going h = absurd (false≢true h)
may_legal s m step going h = and_from (not m.stalled) (may s m step) (ap not going) h

-- nothing is legal after the end
pub legal-going : (s : Script) (m : Machine) (step : Step) → legal s m step ≡ true → m.stalled ≡ false
unfolding legal
legal-going s m Stall h = not-true m.stalled (and_parts (not m.stalled) _ h).0
legal-going s m step h = not-true m.stalled (and_parts (not m.stalled) _ h).0

-- Histories

pub record AreLegal (s : Script) (m : Machine) (step : Step) (steps : List Step) : Type 0 where
  pub first : legal s m step ≡ true
  pub rest : are_legal s (next s m step) steps ≡ true

pub legal_parts : (s : Script) (m : Machine) (step : Step) (steps : List Step) → are_legal s m (step ∷ steps) ≡ true
    → AreLegal s m step steps
unfolding are_legal
legal_parts s m step steps h = (let two = and_parts (legal s m step) _ h in record { first = two.0; rest = two.1 })

pub record IsDrained (s : Script) (m : Machine) : Type 0 where
  pub at_end : (client : ℕ) → IsIn client (client_numbers s) → IsAtEnd s m client
  pub cleaned : (k : ℕ) → IsIn k (commit_numbers m) → is_cleaned m.device k ≡ true

pub drained_guards : (s : Script) (m : Machine) → is_drained s m ≡ true → IsDrained s m
unfolding is_drained
drained_guards s m h =
    let two = and_parts (list_all (is_at_end s m) (client_numbers s)) _ h in
    record {
      at_end = λ client is. end_guards s m client (list_all-at (is_at_end s m) (client_numbers s) client two.0 is);
      cleaned = λ k is. list_all-at (is_cleaned m.device) (commit_numbers m) k two.1 is;
    }

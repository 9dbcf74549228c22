-- Where all commits are cleaned, a client that is not at its end can move, or another can.
use Rattle.std.proofs.Common.{◌≡◌, ℕ, zero, suc, ◌+◌, ◌<◌, ◌≤◌, List, [], ◌∷◌, ◌++◌, length, Bool, true, false, not, ◌&&◌, Option, Some}
use Rattle.std.proofs.Common.{None, refl, sym, ap, ◌∙◌, subst, arith, inl, inr, ◌⊎◌, ⊎_elim}
use Rattle.std.specs.Prelude.{if◌then◌else◌, filter, is_none, is_some, nat_lt, slice_get}
use Rattle.std.specs.List.{flat_map, range_with_len}
use Rattle.std.specs.Option.{option_and_then}
use Rattle.std.proofs.lemmas.Bool.{and_from, and_parts, cases_Bool, cases_eq, cases_lt, cond-true, cond-false, eq-eqb, false≢true, lt-ltb}
use Rattle.std.proofs.lemmas.Bool.{not-true, or_left, or_right}
use Rattle.kms_model.specs.declared.objects.Kind.{Kind}
use Rattle.kms_model.specs.declared.objects.Kind.TheVariants.{Crtc, Plane, Conn}
use Rattle.kms_model.specs.declared.replies.Step.{Step}
use Rattle.kms_model.specs.declared.replies.Step.TheVariants.{Begin, Lock, BackOff, Relock, Refuse, Test, Swap, Make, Signal, Read, Return}
use Rattle.kms_model.specs.declared.runs.Doing.{Doing}
use Rattle.kms_model.specs.declared.runs.Doing.TheVariants as doing
use Rattle.kms_model.specs.declared.scripts.Command.{Command}
use Rattle.kms_model.specs.declared.scripts.Command.TheVariants as command
use Rattle.kms_model.specs.declared.scripts.Request.{Request}
use Rattle.kms_model.specs.declared.scripts.Script.{Script}
use Rattle.kms_model.specs.Device.Objects.{count_of, ids_of}
use Rattle.kms_model.specs.Device.Serial.{from_one}
use Rattle.kms_model.specs.Machine.Commits.{commit_names, has_latched, has_number, if_there, is_cleaned, is_hw_done, last_below, lockable}
use Rattle.kms_model.specs.Machine.Commits.{previous, previous_of, second_previous}
use Rattle.kms_model.specs.Machine.Histories.{client_numbers, for_each, is_at_end, steps_of_client, steps_that_move}
use Rattle.kms_model.specs.Machine.State.{Machine, command_at, doing_at, entry_at, has_value, holder_at, holds, request_at, reserved_at}
use Rattle.kms_model.specs.Machine.State.{unread_at}
use Rattle.kms_model.specs.Machine.Steps.{contended, holds_touched, idle_at, is_atomic, is_free_or_older, is_idle, is_lockable, is_making}
use Rattle.kms_model.specs.Machine.Steps.{is_ready, is_refused_late, is_signal, is_taking, is_wait, may, may_lock, may_refuse, may_swap}
use Rattle.kms_model.specs.Machine.Steps.{may_test, must_back_off, taking_at, ticket_of}
use Rattle.kms_model.specs.Request.Flags.{is_test}
use Rattle.kms_model.specs.Request.Named.{named}
use Rattle.kms_model.specs.Request.Reach.{reaches}
use Rattle.kms_model.specs.Request.Touched.{touches}
use Rattle.kms_model.specs.Request.Verdict.{early_in, late_in, verdict}
use Rattle.kms_model.proofs.Items.{IsIn, IsObject, ids-in, list_all-from, or_else-nones}
use Rattle.kms_model.proofs.ReachLaw.{reach-is}
use Rattle.kms_laws.specs.Laws.{has_context}
use Rattle.kms_laws.proofs.Basics.{both_bools, in_either, in_left, in_right}
use Rattle.kms_laws.proofs.EventCounts.{counts-same}
use Rattle.kms_laws.proofs.EventsKept.{awaited}
use Rattle.kms_laws.proofs.EventsOnce.{HasEvents}
use Rattle.kms_laws.proofs.Headlines.{range-in}
use Rattle.kms_laws.proofs.LockSteps.{HasLocks}
use Rattle.kms_laws.proofs.Contexts.{held-ticket, may_hold}
use Rattle.kms_laws.proofs.Steps.{Holds, request-is}
use Rattle.kms_laws.proofs.TailProgress.{CanMove, each_in, find-found, in_flat, not_all}

slice-lt : {A : Type 0} (xs : List A) (n : ℕ) (x : A) → slice_get xs n ≡ Some x → n < length xs
slice-lt [] n x e = absurd cc
slice-lt (y ∷ ys) zero x e = omega arith
slice-lt (y ∷ ys) (suc n) x e = let l = slice-lt ys n x e in omega arith

from_one-number : {A : Type 0} (xs : List A) (n : ℕ) (x : A) → from_one xs n ≡ Some x → IsIn n (range_with_len 1 (length xs))
from_one-number xs zero x e = absurd cc
from_one-number xs (suc n) x e = let l = slice-lt xs n x e in range-in 1 (length xs) (suc n) (omega arith) (omega arith)

last-lt : (test : ℕ → Bool) (n j : ℕ) → last_below test n ≡ Some j → j < n
unfolding last_below
last-lt test zero j e = absurd cc
last-lt test (suc n) j e =
    ⊎_elim
    (λ is. let same : Some n ≡ Some j = sym (cond-true (test n) (Some n) (last_below test n) is) ∙ e in let nj : n ≡ j = cc in omega arith)
    (λ fails. let l = last-lt test n j (sym (cond-false (test n) (Some n) (last_below test n) fails) ∙ e) in omega arith)
    (cases_Bool (test n))

filter-empty : (test : ℕ → Bool) (xs : List ℕ) → ((x : ℕ) → IsIn x xs → test x ≡ false) → filter test xs ≡ []
filter-empty test [] h = refl
filter-empty test (x ∷ xs) h = cond-false (test x) (x ∷ filter test xs) (filter test xs) (h x (inl refl)) ∙ filter-empty test xs
    (λ y is. h y (inr is))

nothing-flat : (ks : List ℕ) → length (flat_map {X = ℕ} {A = ℕ} (λ k. []) ks) ≡ 0
nothing-flat [] = refl
nothing-flat (k ∷ ks) = nothing-flat ks

pub not-none : {A : Type 0} (o : Option A) → is_some o ≡ false → o ≡ None
not-none None h = refl
not-none (Some x) h = absurd (false≢true (sym h))

module _ (s : Script) (m : Machine) where
  pub of_client : (client : ℕ) (step : Step) → IsIn client (client_numbers s) → IsIn step (steps_of_client s.topology client)
      → IsIn step (steps_that_move s m)
  of_client client step ic i = in_left (flat_map (steps_of_client s.topology) (client_numbers s)) _ step
      (in_flat (steps_of_client s.topology) (client_numbers s) client step ic i)

  with_command : (client : ℕ) (c : Command) → command_at s m client ≡ Some c → IsIn client (client_numbers s)
  with_command client c e = go (from_one s.clients client) refl e
    where
      go : (o : Option (List Command)) → from_one s.clients client ≡ o
          → option_and_then (λ commands. from_one commands (entry_at m client).command) o ≡ Some c → IsIn client (client_numbers s)
      go None found e = absurd cc
      go (Some commands) found e = from_one-number s.clients client commands found

  pub with_request : (client : ℕ) (r : Request) → request_at s m client ≡ Some r → IsIn client (client_numbers s)
  with_request client r e = with_command client (command.Atomic r) (request-is (command_at s m client) r e)

  pub taking-from : (client : ℕ) (test : Request → Bool) (r : Request) → is_taking (doing_at m client) ≡ true → request_at s m client
      ≡ Some r → test r ≡ true → taking_at s m client test ≡ true
  taking-from client test r taking e passes = rw e (and_from _ _ taking passes)

  idle-from : (client : ℕ) (test : Command → Bool) (c : Command) → is_idle (doing_at m client) ≡ true → command_at s m client ≡ Some c
      → test c ≡ true → idle_at s m client test ≡ true
  idle-from client test c idle e passes = rw e (and_from _ _ idle passes)

  back_move : (client : ℕ) → IsIn client (client_numbers s) → must_back_off (doing_at m client) ≡ true → CanMove s m
  unfolding may
  back_move client ic h = record { step = BackOff client; may_be = h; is_in = of_client client (BackOff client) ic (inr (inl refl)) }

  locks_kind : (client : ℕ) (kind : Kind) (o : ℕ) → IsIn client (client_numbers s) → (i : IsObject s.topology kind o)
      → is_lockable s.topology kind i.index ≡ true → may_lock s m client o ≡ true
      → IsIn (Lock client kind i.index) (for_each s.topology Crtc (λ kind index. Lock client kind index)
      ++ (for_each s.topology Plane (λ kind index. Lock client kind index)
      ++ for_each s.topology Conn (λ kind index. Lock client kind index))) → CanMove s m
  unfolding may
  locks_kind client kind o ic i lockable_is free is = record {
    step = Lock client kind i.index;
    may_be = and_from _ _ lockable_is (subst (λ z. may_lock s m client z ≡ true) i.same free);
    is_in = of_client client (Lock client kind i.index) ic (inr (inr (inr (inr (inr (inr (inr (inr (inr (inr is))))))))));
  }

  -- a lock that may be taken
  pub locks : (client o : ℕ) → IsIn client (client_numbers s) → IsIn o (lockable s.topology) → may_lock s m client o ≡ true → CanMove s m
  locks client o ic io free =
      ⊎_elim
      (λ i. let x = ids-in s.topology Crtc o i in locks_kind client Crtc o ic x (lt-ltb x.index (count_of s.topology Crtc) x.within) free
      (in_left (for_each s.topology Crtc (λ kind index. Lock client kind index)) _ _
      (each_in s m Crtc (λ kind index. Lock client kind index) x.index x.within)))
      (λ rest.
      ⊎_elim
      (λ i. let x = ids-in s.topology Plane o i in locks_kind client Plane o ic x (lt-ltb x.index (count_of s.topology Plane) x.within) free
      (in_right (for_each s.topology Crtc (λ kind index. Lock client kind index)) _ _
      (in_left (for_each s.topology Plane (λ kind index. Lock client kind index)) _ _
      (each_in s m Plane (λ kind index. Lock client kind index) x.index x.within))))
      (λ i. let x = ids-in s.topology Conn o i in locks_kind client Conn o ic x (lt-ltb x.index (count_of s.topology Conn) x.within) free
      (in_right (for_each s.topology Crtc (λ kind index. Lock client kind index)) _ _
      (in_right (for_each s.topology Plane (λ kind index. Lock client kind index)) _ _
      (each_in s m Conn (λ kind index. Lock client kind index) x.index x.within))))
      (in_either (ids_of s.topology Plane) (ids_of s.topology Conn) o rest))
      (in_either (ids_of s.topology Crtc) _ o io)

  module _ (H : Holds s m) (L : HasLocks s m) (E : HasEvents s m)
      (clean : (k : ℕ) → k < length m.device.commits → has_number m.device.marks.cleaned k ≡ true) where
    ready : (r : Request) → is_ready s.topology m r ≡ true
    unfolding is_ready previous
    ready r =
        list_all-from (λ crtc. if_there (is_hw_done m.device) (previous s.topology m.device.commits (length m.device.commits) crtc)
        && if_there (is_cleaned m.device) (second_previous s.topology m.device.commits (length m.device.commits) crtc))
        (named s.topology m.device.world r)
        (λ c i. and_from _ _ (done_at c (previous s.topology m.device.commits (length m.device.commits) c) refl)
        (clean_at c (previous s.topology m.device.commits (length m.device.commits) c) refl))
      where
        done_at : (c : ℕ) (o : Option ℕ) → previous s.topology m.device.commits (length m.device.commits) c ≡ o
            → if_there (is_hw_done m.device) o ≡ true
        done_at c None e = refl
        done_at c (Some j) e = H.tail.marks.clean_done j (clean j (last-lt _ (length m.device.commits) j e))

        clean_last : (c n : ℕ) (o : Option ℕ) → n ≤ length m.device.commits → previous s.topology m.device.commits n c ≡ o
            → if_there (is_cleaned m.device) o ≡ true
        clean_last c n None l e = refl
        clean_last c n (Some j) l e = clean j (let lt = last-lt _ n j e in omega arith)

        clean_at : (c : ℕ) (o : Option ℕ) → previous s.topology m.device.commits (length m.device.commits) c ≡ o
            → if_there (is_cleaned m.device) (previous_of s.topology m.device.commits o c) ≡ true
        clean_at c None e = refl
        clean_at c (Some j) e = clean_last c j (previous s.topology m.device.commits j c)
            (let lt = last-lt _ (length m.device.commits) j e in omega arith) refl

    refuses : (client : ℕ) (r : Request) → is_taking (doing_at m client) ≡ true → request_at s m client ≡ Some r
        → may_refuse s.topology m client r ≡ true → CanMove s m
    unfolding may
    refuses client r taking e h = record {
      step = Refuse client;
      may_be = taking-from client (may_refuse s.topology m client) r taking e h;
      is_in = of_client client (Refuse client) (with_request client r e) (inr (inr (inr (inl refl))));
    }

    early_refuses : (client : ℕ) (r : Request) → is_taking (doing_at m client) ≡ true → request_at s m client ≡ Some r
        → is_some (early_in s.topology m.device.world r) ≡ true → CanMove s m
    unfolding may_refuse
    early_refuses client r taking e h = refuses client r taking e (or_left _ _ h)

    -- a client that takes locks, and holds those that its request touches, decides
    decides : (client : ℕ) (r : Request) → is_taking (doing_at m client) ≡ true → request_at s m client ≡ Some r
        → holds_touched s.topology m client r ≡ true → CanMove s m
    unfolding may may_refuse may_test may_swap verdict
    decides client r taking e held =
        ⊎_elim
        (λ early. early_refuses client r taking e early)
        (λ no_early.
        ⊎_elim
        (λ late. refuses client r taking e (or_right (is_some (early_in s.topology m.device.world r)) _
        (and_from _ _ held (or_left _ _ late))))
        (λ no_late.
        let none = or_else-nones (early_in s.topology m.device.world r) (late_in s.topology m.device.world r) (not-none _ no_early)
        (not-none _ no_late) in
        ⊎_elim
        (λ test. record {
          step = Test client;
          may_be = taking-from client (may_test s.topology m client) r taking e (and_from _ _ test (and_from _ _ held (ap is_none none)));
          is_in = of_client client (Test client) (with_request client r e) (inr (inr (inr (inr (inl refl)))));
        })
        (λ no_test.
        ⊎_elim
        (λ late. refuses client r taking e (or_right (is_some (early_in s.topology m.device.world r)) _
        (and_from _ _ held (or_right (is_some (late_in s.topology m.device.world r)) _ late))))
        (λ not_late. record {
          step = Swap client;
          may_be = taking-from client (may_swap s.topology m client) r taking e
              (and_from _ _ (ap not no_test) (and_from _ _ held
              (and_from _ _ (ap is_none none) (and_from _ _ (ap not not_late) (ready r)))));
          is_in = of_client client (Swap client) (with_request client r e) (inr (inr (inr (inr (inr (inl refl))))));
        })
        (cases_Bool (is_refused_late s.topology m client r)))
        (cases_Bool (is_test r.flags)))
        (cases_Bool (is_some (late_in s.topology m.device.world r))))
        (cases_Bool (is_some (early_in s.topology m.device.world r)))

    -- the holder of a lock must back off, or takes locks
    by_holder : (h : ℕ) → may_hold (doing_at m h) ≡ true → (must_back_off (doing_at m h) ≡ true) ⊎ (is_taking (doing_at m h) ≡ true)
    by_holder h free = go (doing_at m h) free
      where
        go : (d : Doing) → may_hold d ≡ true → (must_back_off d ≡ true) ⊎ (is_taking d ≡ true)
        go (doing.Taking ticket) e = inr refl
        go (doing.MustBackOff ticket object) e = inl refl
        go doing.Idle e = absurd (false≢true e)
        go (doing.BackedOff ticket object) e = absurd (false≢true e)
        go (doing.Returning k) e = absurd (false≢true e)

    ticketed : (h : ℕ) → may_hold (doing_at m h) ≡ true → has_context (doing_at m h) ≡ true
    ticketed h free = held-ticket (doing_at m h) free

    taking-ticket : (h : ℕ) → is_taking (doing_at m h) ≡ true → has_context (doing_at m h) ≡ true
    taking-ticket h taking = go (doing_at m h) taking
      where
        go : (d : Doing) → is_taking d ≡ true → has_context d ≡ true
        go (doing.Taking ticket) e = refl
        go (doing.MustBackOff ticket object) e = refl
        go doing.Idle e = absurd (false≢true e)
        go (doing.BackedOff ticket object) e = refl
        go (doing.Returning k) e = absurd (false≢true e)

    -- a client that takes locks moves, or waits for one with a younger ticket
    taking_or : (client : ℕ) → is_taking (doing_at m client) ≡ true
        → ((h : ℕ) → is_taking (doing_at m h) ≡ true → ticket_of (doing_at m client) < ticket_of (doing_at m h) → CanMove s m) → CanMove s m
    unfolding holds_touched
    taking_or client taking later =
        let q = L.atomic client (taking-ticket client taking) in
        ⊎_elim
        (λ held. decides client q.request taking q.at held)
        (λ not_held.
        ⊎_elim
        (λ early. early_refuses client q.request taking q.at early)
        (λ no_early.
        let found = find-found (λ o. touches s.topology m.device.world q.request o && not (holds m client o)) (lockable s.topology)
        (not_all (touches s.topology m.device.world q.request) (holds m client) (lockable s.topology) not_held) in
        let two = and_parts (touches s.topology m.device.world q.request found.at) _ found.passes in
        let reach = reach-is s.topology m.device.world q.request found.at (not-none _ no_early) ∙ two.0 in
        at_object client q.request q.at found.at found.is_in reach (not-true _ two.1) (holder_at m found.at) refl)
        (cases_Bool (is_some (early_in s.topology m.device.world q.request))))
        (cases_Bool (holds_touched s.topology m client q.request))
      where
        may_take : (r : Request) → request_at s m client ≡ Some r → (o : ℕ) → reaches s.topology m.device.world r o ≡ true
            → is_free_or_older m (ticket_of (doing_at m client)) (holder_at m o) ≡ true → may_lock s m client o ≡ true
        may_take r e o reach free = unfold may_lock in (and_from _ _
            (taking-from client (λ r. reaches s.topology m.device.world r o) r taking e reach) free)

        at_object : (c : ℕ) (r : Request) → request_at s m client ≡ Some r → (o : ℕ) → IsIn o (lockable s.topology)
            → reaches s.topology m.device.world r o ≡ true → holds m client o ≡ false → (h : Option ℕ) → holder_at m o ≡ h → CanMove s m
        at_object c r e o io reach free None is = locks client o (with_request client r e) io
            (may_take r e o reach (ap (is_free_or_older m (ticket_of (doing_at m client))) is))
        at_object c r e o io reach free (Some h) is =
            let held : may_hold (doing_at m h) ≡ true = L.holders o h is in
            let request = L.atomic h (ticketed h held) in
            ⊎_elim
            (λ must. back_move h (with_request h request.request request.at) must)
            (λ takes.
            ⊎_elim
            (λ (lt : ticket_of (doing_at m h) < ticket_of (doing_at m client)).
            locks client o (with_request client r e) io
            (may_take r e o reach (ap (is_free_or_older m (ticket_of (doing_at m client))) is ∙ lt-ltb (ticket_of (doing_at m h))
            (ticket_of (doing_at m client)) lt)))
            (λ ge.
            ⊎_elim
            (λ (same : ticket_of (doing_at m client) ≡ ticket_of (doing_at m h)).
            let hc : client ≡ h = L.unique client h (taking-ticket client taking) (ticketed h held) same in
            absurd (both_bools _ (ap (has_value client) is ∙ eq-eqb h client (sym hc)) free))
            (λ apart. later h takes (⊎_elim (λ (lt2 : ticket_of (doing_at m client) < ticket_of (doing_at m h)). lt2)
            (λ (ge2 : ticket_of (doing_at m h) ≤ ticket_of (doing_at m client)). absurd (apart (omega arith)))
            (cases_lt (ticket_of (doing_at m client)) (ticket_of (doing_at m h)))))
            (cases_eq (ticket_of (doing_at m client)) (ticket_of (doing_at m h))))
            (cases_lt (ticket_of (doing_at m h)) (ticket_of (doing_at m client))))
            (by_holder h held)

    taking_moves : (fuel client : ℕ) → is_taking (doing_at m client) ≡ true → m.contexts.tickets ≤ ticket_of (doing_at m client) + fuel
        → CanMove s m
    taking_moves zero client taking l = absurd (let b = L.below client (taking-ticket client taking) in omega arith)
    taking_moves (suc fuel) client taking l = taking_or client taking (λ h takes lt. taking_moves fuel h takes (omega arith))

    holder_moves : (h : ℕ) → may_hold (doing_at m h) ≡ true → CanMove s m
    holder_moves h held =
        let q = L.atomic h (ticketed h held) in
        ⊎_elim (λ must. back_move h (with_request h q.request q.at) must) (λ takes. taking_moves m.contexts.tickets h takes (omega arith))
        (by_holder h held)

    -- nothing is reserved where all commits are cleaned
    none_reserved : (client : ℕ) → reserved_at m.events client ≡ 0
    none_reserved client =
        E.counted client
        ∙ counts-same (awaited s.topology m.device.commits m.records.latches client) (λ k. []) 0 (length m.device.commits)
        (λ k a b. ap length (none_of k (omega (arith, b))))
        ∙ nothing-flat (range_with_len 0 (length m.device.commits))
      where
        if_empty : (b : Bool) (xs : List ℕ) → xs ≡ [] → (if b then xs else []) ≡ []
        if_empty true xs e = e
        if_empty false xs e = refl

        none_of : (k : ℕ) → k < length m.device.commits → awaited s.topology m.device.commits m.records.latches client k ≡ []
        none_of k l =
            if_empty _ _ (filter-empty (λ crtc. commit_names s.topology m.device.commits k crtc
            && not (has_latched m.records.latches k crtc)) (ids_of s.topology Crtc)
            (λ c i. by_name c i (commit_names s.topology m.device.commits k c) refl))
          where
            by_name : (c : ℕ) → IsIn c (ids_of s.topology Crtc) → (b : Bool) → commit_names s.topology m.device.commits k c ≡ b
                → (b && not (has_latched m.records.latches k c)) ≡ false
            by_name c i false e = refl
            by_name c i true e = ap not (H.tail.marks.cleaned k c (clean k l) i e)

    command_moves : (client : ℕ) (c : Command) → IsIn client (client_numbers s) → is_idle (doing_at m client) ≡ true → command_at s m client
        ≡ Some c → CanMove s m
    unfolding may
    command_moves client c ic idle e = go c e
      where
        begin : (r : Request) → command_at s m client ≡ Some (command.Atomic r) → CanMove s m
        begin r e = record {
          step = Begin client;
          may_be = idle-from client is_atomic (command.Atomic r) idle e refl;
          is_in = of_client
              client (Begin client) ic (inl refl);
        }

        makes : (c : Command) → command_at s m client ≡ Some c → is_making c ≡ true → CanMove s m
        makes c e making = record {
          step = Make client;
          may_be = idle-from client is_making c idle e making;
          is_in = of_client client
              (Make client) ic (inr (inr (inr (inr (inr (inr (inl refl)))))));
        }

        go : (c : Command) → command_at s m client ≡ Some c → CanMove s m
        go (command.Atomic r) e = begin r e
        go (command.Signal label) e = record {
          step = Signal client;
          may_be = idle-from client is_signal (command.Signal label) idle e refl;
          is_in = of_client client (Signal client) ic (inr (inr (inr (inr (inr (inr (inr (inl refl))))))));
        }
        go command.Wait e = record {
          step = Read client;
          may_be = and_from _ _ (idle-from client is_wait command.Wait idle e refl)
              (or_right (nat_lt 0 (length (unread_at m.events client))) _ (eq-eqb (reserved_at m.events client) 0 (none_reserved client)));
          is_in = of_client client (Read client) ic (inr (inr (inr (inr (inr (inr (inr (inr (inl refl)))))))));
        }
        go (command.Buffer label width height format pattern) e = makes (command.Buffer label width height format pattern) e refl
        go (command.AddFb label buffer) e = makes (command.AddFb label buffer) e refl
        go (command.Mode label mode) e = makes (command.Mode label mode) e refl
        go (command.Blob label bytes) e = makes (command.Blob label bytes) e refl
        go (command.Destroy label) e = makes (command.Destroy label) e refl
        go (command.CloseFb label) e = makes (command.CloseFb label) e refl
        go (command.Fence label) e = makes (command.Fence label) e refl

    return_moves : (client k : ℕ) → IsIn client (client_numbers s) → doing_at m client ≡ doing.Returning k → CanMove s m
    unfolding may
    return_moves client k ic e = record {
      step = Return client;
      may_be = rw e (clean k (L.returning client k e));
      is_in = of_client client (Return client) ic (inr (inr (inr (inr (inr (inr (inr (inr (inr (inl refl))))))))));
    }

    relock_moves : (client o : ℕ) → IsIn client (client_numbers s) → contended (doing_at m client) ≡ Some o → CanMove s m
    unfolding may
    relock_moves client o ic e = by_lock (holder_at m o) refl
      where
        by_lock : (h : Option ℕ) → holder_at m o ≡ h → CanMove s m
        by_lock None is = record {
          step = Relock client;
          may_be = rw e (ap is_none is);
          is_in = of_client client (Relock client) ic
              (inr (inr (inl refl)));
        }
        by_lock (Some h) is = holder_moves h (L.holders o h is)

    -- a client that is not at its end moves, or another does
    pub client_moves : (client : ℕ) → IsIn client (client_numbers s) → is_at_end s m client ≡ false → CanMove s m
    client_moves client ic not_end = go (doing_at m client) refl
      where
        with_place : (o : Option Command) → command_at s m client ≡ o → is_idle (doing_at m client) ≡ true → CanMove s m
        with_place None e idle = absurd (both_bools _ (and_from _ _ idle (ap is_none e)) not_end)
        with_place (Some c) e idle = command_moves client c ic idle e

        go : (d : Doing) → doing_at m client ≡ d → CanMove s m
        go doing.Idle e = with_place (command_at s m client) refl (ap is_idle e)
        go (doing.Taking ticket) e = taking_moves m.contexts.tickets client (ap is_taking e) (omega arith)
        go (doing.MustBackOff ticket object) e = back_move client ic (ap must_back_off e)
        go (doing.BackedOff ticket object) e = relock_moves client object.0 ic (ap contended e)
        go (doing.Returning k) e = return_moves client k ic e

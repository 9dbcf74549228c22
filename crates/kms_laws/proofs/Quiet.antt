-- Where nothing can be done: no client and no tail has a step, exactly where no step that moves may be done. It is so in a
-- drained history, and in a dead one.
use Rattle.std.proofs.Common.{◌≡◌, ℕ, List, [], ◌∷◌, ◌++◌, length, map, Bool, true, false, not, ◌&&◌, Option, Some, None, refl, sym, ap}
use Rattle.std.proofs.Common.{◌∙◌, subst, arith, inl, inr, ◌⊎◌, ⊎_elim}
use Rattle.std.specs.Prelude.{if◌then◌else◌, filter, find}
use Rattle.std.specs.List.{flat_map}
use Rattle.std.specs.Option.{option_and_then, option_map}
use Rattle.std.proofs.lemmas.Bool.{and_left, and_right, cases_Bool, cond-false, cond-true, false_from_ne_true}
use Rattle.std.proofs.lemmas.Bool.{false≢true}
use Rattle.kms_model.specs.declared.objects.Kind.TheVariants.{Crtc, Plane, Conn}
use Rattle.kms_model.specs.declared.objects.Topology.{Topology}
use Rattle.kms_model.specs.declared.replies.Step.{Step}
use Rattle.kms_model.specs.declared.replies.Step.TheVariants.{Begin, Lock, BackOff, Relock, Refuse, Test, Swap, Make, Signal, Write}
use Rattle.kms_model.specs.declared.replies.Step.TheVariants.{Flush, HwDone, Vblank, Cleanup, Read, Return, Stall}
use Rattle.kms_model.specs.declared.runs.Doing.{Doing}
use Rattle.kms_model.specs.declared.runs.Doing.TheVariants as doing
use Rattle.kms_model.specs.declared.scripts.Command.{Command}
use Rattle.kms_model.specs.declared.scripts.Request.{Request}
use Rattle.kms_model.specs.declared.scripts.Script.{Script}
use Rattle.kms_model.specs.Device.Objects.{count_of, ids_of, object_id}
use Rattle.kms_model.specs.Firsts.{first_some}
use Rattle.kms_model.specs.Machine.Commits.{lockable}
use Rattle.kms_model.specs.Machine.Histories.{client_numbers, commit_numbers, for_each, is_at_end, legal, steps_of_client, steps_of_commit}
use Rattle.kms_model.specs.Machine.Histories.{steps_that_move, steps_with_go}
use Rattle.kms_model.specs.Machine.State.{Machine, command_at, doing_at, holds, request_at, request_in}
use Rattle.kms_model.specs.Machine.Steps.{contended, idle_at, is_atomic, is_free_for, is_idle, is_making, is_signal, is_wait, may, may_lock}
use Rattle.kms_model.specs.Machine.Steps.{may_refuse, may_swap, may_test, must_back_off, returning_of, taking_at}
use Rattle.kms_model.specs.Order.Turns.{client_step, first_missing, in_affected_group, in_named_group, in_set_group, lock_step, missing_of}
use Rattle.kms_model.specs.Order.Turns.{next_lock, or_those, tail_step}
use Rattle.kms_model.specs.Request.Reach.{reaches}
use Rattle.kms_model.proofs.Guards.{IsAtEnd, end_guards, may_legal}
use Rattle.kms_model.proofs.Items.{IsIn, ids-has, list_any-at, list_any-none, or_else-none, or_else-nones}
use Rattle.kms_laws.specs.Laws.{can_move}
use Rattle.kms_laws.proofs.Basics.{both_bools, in_either, in_left, in_right}
use Rattle.kms_laws.proofs.ClientProgress.{locks, of_client}
use Rattle.kms_laws.proofs.Framebuffers.{range-below}
use Rattle.kms_laws.proofs.Steps.{IsLegal, idle-none, legal-cases, taking-none}
use Rattle.kms_laws.proofs.Steps.IsLegal.{Ends, May}
use Rattle.kms_laws.proofs.TailProgress.{CanMove, of_commit}

-- Searches that find nothing

pub find-none : {A : Type 0} (p : A → Bool) (xs : List A) → ((x : A) → IsIn x xs → p x ≡ false) → find p xs ≡ None
find-none p [] h = refl
find-none p (x ∷ xs) h = cond-false (p x) (Some x) (find p xs) (h x (inl refl)) ∙ find-none p xs (λ y is. h y (inr is))

pub find-fails : {A : Type 0} (p : A → Bool) (xs : List A) (x : A) → find p xs ≡ None → IsIn x xs → p x ≡ false
find-fails p [] x e is = absurd is
find-fails {A} p (y ∷ ys) x e is = by_test (p y) refl is (λ f rest. find-fails p ys x f rest)
  where
    by_test : (b : Bool) → p y ≡ b → (y ≡ x) ⊎ IsIn x ys → (find p ys ≡ None → IsIn x ys → p x ≡ false) → p x ≡ false
    by_test true h is later = absurd (let some : Some y ≡ None = sym (cond-true (p y) (Some y) (find p ys) h) ∙ e in cc)
    by_test false h (inl same) later = ap p (sym same) ∙ h
    by_test false h (inr rest) later = later (sym (cond-false (p y) (Some y) (find p ys) h) ∙ e) rest

first-nothing : {A : Type 0} (f : ℕ → Option A) (ks : List ℕ) → ((k : ℕ) → IsIn k ks → f k ≡ None) → first_some f ks ≡ None
first-nothing f [] h = refl
first-nothing f (k ∷ ks) h = or_else-nones (f k) (first_some f ks) (h k (inl refl)) (first-nothing f ks (λ j is. h j (inr is)))

pub first-fails : {A : Type 0} (f : ℕ → Option A) (ks : List ℕ) (k : ℕ) → first_some f ks ≡ None → IsIn k ks → f k ≡ None
first-fails f [] k e is = absurd is
first-fails f (j ∷ js) k e (inl same) = ap f (sym same) ∙ (or_else-none (f j) (first_some f js) e).first_none
first-fails f (j ∷ js) k e (inr rest) = first-fails f js k (or_else-none (f j) (first_some f js) e).second_none rest

-- an item of a list of lists, or of a map, is of one
pub record IsFrom {A : Type 0} (f : ℕ → List A) (ks : List ℕ) (x : A) : Type 0 where
  pub number : ℕ
  pub is_in : IsIn number ks
  pub has : IsIn x (f number)

pub flat-from : {A : Type 0} (f : ℕ → List A) (ks : List ℕ) (x : A) → IsIn x (flat_map f ks) → IsFrom f ks x
flat-from f [] x is = absurd is
flat-from {A} f (k ∷ ks) x is =
    ⊎_elim
    (λ here. record { number = k; is_in = inl refl; has = here })
    (λ rest. let r = flat-from f ks x rest in record { number = r.number; is_in = inr r.is_in; has = r.has })
    (in_either (f k) (flat_map f ks) x is)

pub record IsMapped {A : Type 0} (f : ℕ → A) (ks : List ℕ) (x : A) : Type 0 where
  pub number : ℕ
  pub is_in : IsIn number ks
  pub same : f number ≡ x

pub map-from : {A : Type 0} (f : ℕ → A) (ks : List ℕ) (x : A) → IsIn x (map f ks) → IsMapped f ks x
map-from f [] x is = absurd is
map-from f (k ∷ ks) x (inl same) = record { number = k; is_in = inl refl; same = same }
map-from f (k ∷ ks) x (inr rest) = let r = map-from f ks x rest in record { number = r.number; is_in = inr r.is_in; same = r.same }

pub filter-in : (p : ℕ → Bool) (xs : List ℕ) (x : ℕ) → IsIn x (filter p xs) → IsIn x xs × (p x ≡ true)
filter-in p [] x is = absurd is
filter-in p (y ∷ ys) x is = by_test (p y) refl is (λ rest. filter-in p ys x rest)
  where
    by_test : (b : Bool) → p y ≡ b → IsIn x (if b then y ∷ filter p ys else filter p ys) → (IsIn x (filter p ys) → IsIn x ys × (p x ≡ true))
        → IsIn x (y ∷ ys) × (p x ≡ true)
    by_test true h (inl same) later = (inl same, ap p (sym same) ∙ h)
    by_test true h (inr rest) later = let r = later rest in (inr r.0, r.1)
    by_test false h rest later = let r = later rest in (inr r.0, r.1)

-- Legal steps

pub legal-may : (s : Script) (m : Machine) (step : Step) → legal s m step ≡ true → (step ≡ Stall) ⊎ (may s m step ≡ true)
legal-may s m step h = go step (legal-cases s m step h)
  where
    go : (step : Step) → IsLegal s m step → (step ≡ Stall) ⊎ (may s m step ≡ true)
    go step Ends = inl refl
    go step (May may) = inr may

-- the decisions of a client, and the other steps but locks and its return, in the order in which they are tried
abbrev pub tried : ℕ → List Step
tried client = Refuse client ∷ Test client ∷ Swap client ∷ Begin client ∷ Make client ∷ Signal client ∷ Read client ∷ BackOff client
    ∷ Relock client ∷ []

tried-in : (t : Topology) (client : ℕ) (step : Step) → IsIn step (tried client) → IsIn step (steps_of_client t client)
tried-in t client step (inl same) = inr (inr (inr (inl same)))
tried-in t client step (inr (inl same)) = inr (inr (inr (inr (inl same))))
tried-in t client step (inr (inr (inl same))) = inr (inr (inr (inr (inr (inl same)))))
tried-in t client step (inr (inr (inr (inl same)))) = inl same
tried-in t client step (inr (inr (inr (inr (inl same))))) = inr (inr (inr (inr (inr (inr (inl same))))))
tried-in t client step (inr (inr (inr (inr (inr (inl same)))))) = inr (inr (inr (inr (inr (inr (inr (inl same)))))))
tried-in t client step (inr (inr (inr (inr (inr (inr (inl same))))))) = inr (inr (inr (inr (inr (inr (inr (inr (inl same))))))))
tried-in t client step (inr (inr (inr (inr (inr (inr (inr (inl same)))))))) = inr (inl same)
tried-in t client step (inr (inr (inr (inr (inr (inr (inr (inr (inl same))))))))) = inr (inr (inl same))
tried-in t client step (inr (inr (inr (inr (inr (inr (inr (inr (inr never))))))))) = absurd never

-- `stall` is no step of a client
tried-no-stall : (client : ℕ) → IsIn Stall (tried client) → ⊥
tried-no-stall client (inl same) = absurd cc
tried-no-stall client (inr (inl same)) = absurd cc
tried-no-stall client (inr (inr (inl same))) = absurd cc
tried-no-stall client (inr (inr (inr (inl same)))) = absurd cc
tried-no-stall client (inr (inr (inr (inr (inl same))))) = absurd cc
tried-no-stall client (inr (inr (inr (inr (inr (inl same)))))) = absurd cc
tried-no-stall client (inr (inr (inr (inr (inr (inr (inl same))))))) = absurd cc
tried-no-stall client (inr (inr (inr (inr (inr (inr (inr (inl same)))))))) = absurd cc
tried-no-stall client (inr (inr (inr (inr (inr (inr (inr (inr (inl same))))))))) = absurd cc
tried-no-stall client (inr (inr (inr (inr (inr (inr (inr (inr (inr never))))))))) = never

-- a client and the tails have nothing to do
pub record IsQuiet (s : Script) (m : Machine) : Type 0 where
  pub clients : (client : ℕ) → IsIn client (client_numbers s) → is_at_end s m client ≡ false → client_step s m client ≡ None
  pub returns : (client : ℕ) → IsIn client (client_numbers s) → is_at_end s m client ≡ false → legal s m (Return client) ≡ false
  pub tails : tail_step s m ≡ None

module _ (s : Script) (m : Machine) where
  missing-in : (client : ℕ) (group : ℕ → Bool) (o : ℕ) → IsIn o (missing_of s.topology m client group) → IsIn o (lockable s.topology)
  missing-in client group o is = (filter-in (λ object. group object && not (holds m client object)) (lockable s.topology) o is).0

  those-in : (xs ys : List ℕ) (o : ℕ) → IsIn o (or_those xs ys) → IsIn o xs ⊎ IsIn o ys
  those-in [] ys o is = inr is
  those-in (x ∷ xs) ys o is = inl is

  -- a lock that is tried first is one of a lockable object
  pub first-in : (client : ℕ) (r : Request) (o : ℕ) → IsIn o (first_missing s.topology m client r) → IsIn o (lockable s.topology)
  unfolding first_missing
  first-in client r o is =
      ⊎_elim
      (λ a. missing-in client (in_set_group r) o a)
      (λ rest.
      ⊎_elim
      (λ b. missing-in client (in_named_group s.topology m.device.world r) o b)
      (λ c. missing-in client (in_affected_group s.topology m.device.world r) o c)
      (those-in (missing_of s.topology m client (in_named_group s.topology m.device.world r)) _ o rest))
      (those-in (missing_of s.topology m client (in_set_group r)) _ o is)

  -- `stall` is no vblank
  pub go-no-stall : IsIn Stall (steps_with_go s.topology m) → ⊥
  go-no-stall is = let r = map-from (λ index. Vblank Crtc index) _ Stall is in let e : Vblank Crtc r.number ≡ Stall = r.same in absurd cc

  -- Where no step that moves may be done, all are quiet

  module _ (unable : can_move s m ≡ false) where
    no_move : (step : Step) → IsIn step (steps_that_move s m) → may s m step ≡ false
    no_move step is = list_any-at (may s m) (steps_that_move s m) step unable is

    no_can : CanMove s m → ⊥
    no_can c = both_bools _ c.may_be (no_move c.step c.is_in)

    not_legal : (step : Step) → (step ≡ Stall → ⊥) → IsIn step (steps_that_move s m) → legal s m step ≡ false
    not_legal step other is =
        false_from_ne_true (legal s m step) (λ h. ⊎_elim (λ e. other e) (λ may_be. both_bools _ may_be (no_move step is))
        (legal-may s m step h))

    no_lock : (client : ℕ) → IsIn client (client_numbers s) → (o : ℕ) → IsIn o (lockable s.topology) → may_lock s m client o ≡ false
    no_lock client ic o io = false_from_ne_true (may_lock s m client o) (λ h. no_can (locks s m client o ic io h))

    no_next : (client : ℕ) (r : Request) → IsIn client (client_numbers s) → next_lock s m client r ≡ None
    unfolding next_lock
    no_next client r ic =
        or_else-nones (find (may_lock s m client) (first_missing s.topology m client r)) (find (may_lock s m client) (lockable s.topology))
        (find-none (may_lock s m client) (first_missing s.topology m client r) (λ o io. no_lock client ic o (first-in client r o io)))
        (find-none (may_lock s m client) (lockable s.topology) (λ o io. no_lock client ic o io))

    no_client_step : (client : ℕ) → IsIn client (client_numbers s) → client_step s m client ≡ None
    unfolding client_step
    no_client_step client ic =
        or_else-nones (find (legal s m) (tried client))
        (option_map (lock_step client) (option_and_then (next_lock s m client) (request_at s m client)))
        (find-none (legal s m) (tried client)
        (λ step is. not_legal step (λ e. tried-no-stall client (subst (λ z. IsIn z (tried client)) e is))
        (of_client s m client step ic (tried-in s.topology client step is))))
        (by_request (request_at s m client))
      where
        by_request : (o : Option Request) → option_map (lock_step client) (option_and_then (next_lock s m client) o) ≡ None
        by_request None = refl
        by_request (Some r) = ap (option_map (lock_step client)) (no_next client r ic)

    no_return : (client : ℕ) → IsIn client (client_numbers s) → legal s m (Return client) ≡ false
    no_return client ic =
        not_legal (Return client) (λ e. absurd cc) (of_client s m client (Return client) ic
        (inr (inr (inr (inr (inr (inr (inr (inr (inr (inl refl)))))))))))

    commit-no-stall : (k : ℕ) → IsIn Stall (steps_of_commit s.topology k) → ⊥
    commit-no-stall k (inl same) = absurd cc
    commit-no-stall k (inr rest) =
        ⊎_elim
        (λ a. let r = map-from (λ index. Write k Crtc index) _ Stall a in let e : Write k Crtc r.number ≡ Stall = r.same in absurd cc)
        (λ more.
        ⊎_elim
        (λ b. let r = map-from (λ index. Write k Plane index) _ Stall b in let e : Write k Plane r.number ≡ Stall = r.same in absurd cc)
        (λ more2.
        ⊎_elim
        (λ c. let r = map-from (λ index. Flush k Crtc index) _ Stall c in let e : Flush k Crtc r.number ≡ Stall = r.same in absurd cc)
        (λ ends. ⊎_elim (λ (d : HwDone k ≡ Stall). absurd cc) (λ last. ⊎_elim (λ (d : Cleanup k ≡ Stall). absurd cc) (λ never. never) last)
        ends)
        (in_either (for_each s.topology Crtc (λ kind index. Flush k kind index)) _ Stall more2))
        (in_either (for_each s.topology Plane (λ kind index. Write k kind index)) _ Stall more))
        (in_either (for_each s.topology Crtc (λ kind index. Write k kind index)) _ Stall rest)

    go-in : (step : Step) → IsIn step (steps_with_go s.topology m) → IsIn step (steps_that_move s m)
    go-in step is =
        in_right (flat_map (steps_of_client s.topology) (client_numbers s)) _ step
        (in_right (flat_map (steps_of_commit s.topology) (commit_numbers m)) (steps_with_go s.topology m) step is)

    no_tail_step : tail_step s m ≡ None
    unfolding tail_step
    no_tail_step =
        or_else-nones (first_some (λ k. find (legal s m) (steps_of_commit s.topology k)) (commit_numbers m))
        (find (legal s m) (steps_with_go s.topology m))
        (first-nothing (λ k. find (legal s m) (steps_of_commit s.topology k)) (commit_numbers m)
        (λ k ik. find-none (legal s m) (steps_of_commit s.topology k)
        (λ step is. not_legal step (λ e. commit-no-stall k (subst (λ z. IsIn z (steps_of_commit s.topology k)) e is))
        (of_commit s m k step (let l = range-below 0 (length m.device.commits) k ik in omega (arith, l)) is))))
        (find-none (legal s m) (steps_with_go s.topology m)
        (λ step is. not_legal step (λ e. go-no-stall (subst (λ z. IsIn z (steps_with_go s.topology m)) e is)) (go-in step is)))

    pub unable-quiet : IsQuiet s m
    unable-quiet = record {
      clients = λ client ic running. no_client_step client ic;
      returns = λ client ic running. no_return client ic;
      tails = no_tail_step;
    }

  -- the locks of a client
  lock-steps : (client : ℕ) → ((o : ℕ) → IsIn o (lockable s.topology) → may_lock s m client o ≡ false) → (step : Step)
      → IsIn step (for_each s.topology Crtc (λ kind index. Lock client kind index)
      ++ (for_each s.topology Plane (λ kind index. Lock client kind index)
      ++ for_each s.topology Conn (λ kind index. Lock client kind index))) → may s m step ≡ false
  unfolding may
  lock-steps client fails step is =
      ⊎_elim
      (λ a.
      let r = map-from (λ index. Lock client Crtc index) _ step a in
      subst (λ z. may s m z ≡ false) r.same
      (and_right _ _ (fails (object_id Crtc r.number)
      (in_left (ids_of s.topology Crtc) _ _ (ids-has s.topology Crtc r.number
      (let l = range-below 0 (count_of s.topology Crtc) r.number r.is_in in omega (arith, l)))))))
      (λ rest.
      ⊎_elim
      (λ b.
      let r = map-from (λ index. Lock client Plane index) _ step b in
      subst (λ z. may s m z ≡ false) r.same
      (and_right _ _ (fails (object_id Plane r.number)
      (in_right (ids_of s.topology Crtc) _ _ (in_left (ids_of s.topology Plane) _ _
      (ids-has s.topology Plane r.number (let l = range-below 0 (count_of s.topology Plane) r.number r.is_in in omega (arith, l))))))))
      (λ c.
      let r = map-from (λ index. Lock client Conn index) _ step c in
      subst (λ z. may s m z ≡ false) r.same
      (and_right _ _ (fails (object_id Conn r.number)
      (in_right (ids_of s.topology Crtc) _ _ (in_right (ids_of s.topology Plane) _ _
      (ids-has s.topology Conn r.number (let l = range-below 0 (count_of s.topology Conn) r.number r.is_in in omega (arith, l))))))))
      (in_either (for_each s.topology Plane (λ kind index. Lock client kind index)) _ step rest))
      (in_either (for_each s.topology Crtc (λ kind index. Lock client kind index)) _ step is)

  idle-rest : (d : Doing) → is_idle d ≡ true → ((must_back_off d ≡ false) × (contended d ≡ None)) × (returning_of d ≡ None)
  idle-rest doing.Idle h = ((refl, refl), refl)
  idle-rest (doing.Taking ticket) h = absurd (false≢true h)
  idle-rest (doing.MustBackOff ticket object) h = absurd (false≢true h)
  idle-rest (doing.BackedOff ticket object) h = absurd (false≢true h)
  idle-rest (doing.Returning k) h = absurd (false≢true h)

  idle-fails : (client : ℕ) (test : Command → Bool) → command_at s m client ≡ None → idle_at s m client test ≡ false
  idle-fails client test e = false_from_ne_true (idle_at s m client test) (λ h. idle-none s m client test e h)

  taking-fails : (client : ℕ) (test : Request → Bool) → command_at s m client ≡ None → taking_at s m client test ≡ false
  taking-fails client test e = false_from_ne_true (taking_at s m client test) (λ h. taking-none s m client test (ap request_in e) h)

  -- a client at its end has no step
  pub ended-fails : (client : ℕ) → IsAtEnd s m client → (step : Step) → IsIn step (steps_of_client s.topology client)
      → may s m step ≡ false
  unfolding may may_lock
  ended-fails client end step is = by_step end.idle end.ended is
    where
      returns_not : (o : Option ℕ) → returning_of (doing_at m client) ≡ o → o ≡ None → may s m (Return client) ≡ false
      returns_not None e f = rw e refl
      returns_not (Some k) e f = absurd cc

      by_step : is_idle (doing_at m client) ≡ true → command_at s m client ≡ None → IsIn step (steps_of_client s.topology client)
          → may s m step ≡ false
      by_step idle none (inl same) = subst (λ z. may s m z ≡ false) same (idle-fails client is_atomic none)
      by_step idle none (inr (inl same)) = subst (λ z. may s m z ≡ false) same (idle-rest (doing_at m client) idle).0.0
      by_step idle none (inr (inr (inl same))) = subst (λ z. may s m z ≡ false) same
          (ap (is_free_for m) (idle-rest (doing_at m client) idle).0.1)
      by_step idle none (inr (inr (inr (inl same)))) = subst (λ z. may s m z ≡ false) same
          (taking-fails client (may_refuse s.topology m client) none)
      by_step idle none (inr (inr (inr (inr (inl same))))) = subst (λ z. may s m z ≡ false) same
          (taking-fails client (may_test s.topology m client) none)
      by_step idle none (inr (inr (inr (inr (inr (inl same)))))) = subst (λ z. may s m z ≡ false) same
          (taking-fails client (may_swap s.topology m client) none)
      by_step idle none (inr (inr (inr (inr (inr (inr (inl same))))))) = subst (λ z. may s m z ≡ false) same
          (idle-fails client is_making none)
      by_step idle none (inr (inr (inr (inr (inr (inr (inr (inl same)))))))) = subst (λ z. may s m z ≡ false) same
          (idle-fails client is_signal none)
      by_step idle none (inr (inr (inr (inr (inr (inr (inr (inr (inl same))))))))) = subst (λ z. may s m z ≡ false) same
          (and_left _ _ (idle-fails client is_wait none))
      by_step idle none (inr (inr (inr (inr (inr (inr (inr (inr (inr (inl same)))))))))) = subst (λ z. may s m z ≡ false) same
          (returns_not (returning_of (doing_at m client)) refl (idle-rest (doing_at m client) idle).1)
      by_step idle none (inr (inr (inr (inr (inr (inr (inr (inr (inr (inr locks_)))))))))) =
          lock-steps client (λ o io. and_left _ _ (taking-fails client (λ r. reaches s.topology m.device.world r o) none)) step locks_

  -- Where all are quiet, nothing may be done

  module _ (Q : IsQuiet s m) (going : m.stalled ≡ false) where
    tried-fails : (client : ℕ) → client_step s m client ≡ None → (step : Step) → IsIn step (tried client) → legal s m step ≡ false
    unfolding client_step
    tried-fails client e step is = find-fails (legal s m) (tried client) step
        (or_else-none (find (legal s m) (tried client)) _ e).first_none is

    lock-fails : (client : ℕ) → client_step s m client ≡ None → (o : ℕ) → IsIn o (lockable s.topology) → may_lock s m client o ≡ false
    unfolding client_step next_lock may_lock
    lock-fails client e o io = by_request (request_at s m client) refl (or_else-none (find (legal s m) (tried client)) _ e).second_none
      where
        mapped : (q : Option ℕ) → option_map (lock_step client) q ≡ None → q ≡ None
        mapped None e = refl
        mapped (Some x) e = absurd cc

        by_request : (q : Option Request) → request_at s m client ≡ q
            → option_map (lock_step client) (option_and_then (next_lock s m client) q) ≡ None → may_lock s m client o ≡ false
        by_request None is e = and_left _ _ (false_from_ne_true (taking_at s m client (λ r. reaches s.topology m.device.world r o))
            (λ h. taking-none s m client _ is h))
        by_request (Some r) is e =
            find-fails (may_lock s m client) (lockable s.topology) o
            (or_else-none (find (may_lock s m client) (first_missing s.topology m client r)) _
            (mapped (next_lock s m client r) e)).second_none io

    not-may : (step : Step) → legal s m step ≡ false → may s m step ≡ false
    not-may step h = false_from_ne_true (may s m step) (λ may_be. both_bools _ (may_legal s m step going may_be) h)

    -- a client that is not at its end
    running-fails : (client : ℕ) → client_step s m client ≡ None → legal s m (Return client) ≡ false → (step : Step)
        → IsIn step (steps_of_client s.topology client) → may s m step ≡ false
    running-fails client e back step (inl same) = subst (λ z. may s m z ≡ false) same
        (not-may (Begin client) (tried-fails client e (Begin client) (inr (inr (inr (inl refl))))))
    running-fails client e back step (inr (inl same)) = subst (λ z. may s m z ≡ false) same
        (not-may (BackOff client) (tried-fails client e (BackOff client) (inr (inr (inr (inr (inr (inr (inr (inl refl))))))))))
    running-fails client e back step (inr (inr (inl same))) = subst (λ z. may s m z ≡ false) same
        (not-may (Relock client) (tried-fails client e (Relock client) (inr (inr (inr (inr (inr (inr (inr (inr (inl refl)))))))))))
    running-fails client e back step (inr (inr (inr (inl same)))) = subst (λ z. may s m z ≡ false) same
        (not-may (Refuse client) (tried-fails client e (Refuse client) (inl refl)))
    running-fails client e back step (inr (inr (inr (inr (inl same))))) = subst (λ z. may s m z ≡ false) same
        (not-may (Test client) (tried-fails client e (Test client) (inr (inl refl))))
    running-fails client e back step (inr (inr (inr (inr (inr (inl same)))))) = subst (λ z. may s m z ≡ false) same
        (not-may (Swap client) (tried-fails client e (Swap client) (inr (inr (inl refl)))))
    running-fails client e back step (inr (inr (inr (inr (inr (inr (inl same))))))) = subst (λ z. may s m z ≡ false) same
        (not-may (Make client) (tried-fails client e (Make client) (inr (inr (inr (inr (inl refl)))))))
    running-fails client e back step (inr (inr (inr (inr (inr (inr (inr (inl same)))))))) = subst (λ z. may s m z ≡ false) same
        (not-may (Signal client) (tried-fails client e (Signal client) (inr (inr (inr (inr (inr (inl refl))))))))
    running-fails client e back step (inr (inr (inr (inr (inr (inr (inr (inr (inl same))))))))) = subst (λ z. may s m z ≡ false) same
        (not-may (Read client) (tried-fails client e (Read client) (inr (inr (inr (inr (inr (inr (inl refl)))))))))
    running-fails client e back step (inr (inr (inr (inr (inr (inr (inr (inr (inr (inl same)))))))))) = subst (λ z. may s m z ≡ false) same
        (not-may (Return client) back)
    running-fails client e back step (inr (inr (inr (inr (inr (inr (inr (inr (inr (inr locks_)))))))))) = lock-steps client
        (lock-fails client e) step locks_

    tail-fails : (k : ℕ) → IsIn k (commit_numbers m) → (step : Step) → IsIn step (steps_of_commit s.topology k) → may s m step ≡ false
    unfolding tail_step
    tail-fails k ik step is =
        let parts = or_else-none (first_some (λ j. find (legal s m) (steps_of_commit s.topology j)) (commit_numbers m))
        (find (legal s m) (steps_with_go s.topology m)) Q.tails in
        not-may step (find-fails (legal s m) (steps_of_commit s.topology k) step
        (first-fails (λ j. find (legal s m) (steps_of_commit s.topology j)) (commit_numbers m) k parts.first_none ik) is)

    go-fails : (step : Step) → IsIn step (steps_with_go s.topology m) → may s m step ≡ false
    unfolding tail_step
    go-fails step is =
        let parts = or_else-none (first_some (λ j. find (legal s m) (steps_of_commit s.topology j)) (commit_numbers m))
        (find (legal s m) (steps_with_go s.topology m)) Q.tails in
        not-may step (find-fails (legal s m) (steps_with_go s.topology m) step parts.second_none is)

    client-fails : (client : ℕ) → IsIn client (client_numbers s) → (step : Step) → IsIn step (steps_of_client s.topology client)
        → may s m step ≡ false
    client-fails client ic step is =
        ⊎_elim (λ ends. ended-fails client (end_guards s m client ends) step is)
        (λ running. running-fails client (Q.clients client ic running) (Q.returns client ic running) step is)
        (cases_Bool (is_at_end s m client))

    pub quiet-unable : can_move s m ≡ false
    quiet-unable =
        list_any-none (may s m) (steps_that_move s m)
        (λ step is.
        ⊎_elim
        (λ c. let r = flat-from (steps_of_client s.topology) (client_numbers s) step c in client-fails r.number r.is_in step r.has)
        (λ rest.
        ⊎_elim
        (λ k. let r = flat-from (steps_of_commit s.topology) (commit_numbers m) step k in tail-fails r.number r.is_in step r.has)
        (λ g. go-fails step g)
        (in_either (flat_map (steps_of_commit s.topology) (commit_numbers m)) (steps_with_go s.topology m) step rest))
        (in_either (flat_map (steps_of_client s.topology) (client_numbers s)) _ step is))

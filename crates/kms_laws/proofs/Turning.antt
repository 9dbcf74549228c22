-- The runs of one thread: each of its steps is legal, so each run is a history; a round without a step leaves all quiet.
use Rattle.std.proofs.Common.{◌≡◌, ℕ, zero, suc, ◌-◌, ◌*◌, ◌≤◌, List, [], ◌∷◌, ◌++◌, length, Bool, true, false, not, Option, Some, None}
use Rattle.std.proofs.Common.{refl, sym, ap, ◌∙◌, subst, arith, inl, inr, ⊎_elim, append_assoc, append-nil}
use Rattle.std.specs.Prelude.{if◌then◌else◌, find, is_some, reverse}
use Rattle.std.specs.List.{fold, range_with_len}
use Rattle.std.specs.Option.{option_and_then, option_map}
use Rattle.std.proofs.lemmas.Bool.{and_from, lt-ltb}
use Rattle.kms_model.specs.declared.objects.Kind.{Kind}
use Rattle.kms_model.specs.declared.objects.Kind.TheVariants.{Crtc, Plane, Conn}
use Rattle.kms_model.specs.declared.objects.Topology.{Topology}
use Rattle.kms_model.specs.declared.replies.Step.{Step}
use Rattle.kms_model.specs.declared.replies.Step.TheVariants.{Flush, Return, Vblank, Write}
use Rattle.kms_model.specs.declared.scripts.Request.{Request}
use Rattle.kms_model.specs.declared.scripts.Script.{Script}
use Rattle.kms_model.specs.Device.Objects.{count_of, first_id, ids_of, index_of, kind_of, object_id}
use Rattle.kms_model.specs.Firsts.{first_some}
use Rattle.kms_model.specs.Machine.Commits.{lockable}
use Rattle.kms_model.specs.Machine.Effects.{next}
use Rattle.kms_model.specs.Machine.Histories.{are_legal, at, client_numbers, commit_numbers, for_each, is_at_end, is_history, legal}
use Rattle.kms_model.specs.Machine.Histories.{run_steps, steps_of_commit, steps_that_move, steps_with_go}
use Rattle.kms_model.specs.Machine.State.{Machine, first_machine, go_at, request_at}
use Rattle.kms_model.specs.Machine.Steps.{is_lockable, may, may_lock}
use Rattle.kms_model.specs.Order.Rounds.{is_still, round, rounds}
use Rattle.kms_model.specs.Order.Turns.{Progress, client_goes, client_step, does, does_then, first_missing, is_answering, lock_step}
use Rattle.kms_model.specs.Order.Turns.{most_of_turn, next_lock, returns, settles, tail_step, tails_go, turn}
use Rattle.kms_model.proofs.Guards.{legal_parts}
use Rattle.kms_model.proofs.Items.{IsIn, IsObject, ids-in, list_any-has}
use Rattle.kms_model.proofs.ThingLemmas.{find-holds, find-in}
use Rattle.kms_model.proofs.TouchedLemmas.{HasFewObjects}
use Rattle.kms_model.proofs.Facts.{or_else-some}
use Rattle.kms_laws.specs.Ends.{is_moving}
use Rattle.kms_laws.proofs.Basics.{in_either}
use Rattle.kms_laws.proofs.ClientProgress.{locks, with_request}
use Rattle.kms_laws.proofs.NeverStuck.{Along, history_along, still-going}
use Rattle.kms_laws.proofs.Objects.{conn_kind, crtc_kind, plane_kind}
use Rattle.kms_laws.proofs.Present.{reverse_more}
use Rattle.kms_laws.proofs.Quiet.{filter-in, first-in, map-from, tried}
use Rattle.kms_laws.proofs.Steps.{IsPlainScript}

-- Runs

-- a run is of a history
pub record IsRun (s : Script) (run : Progress) : Type 0 where
  pub same : run.machine ≡ at s (reverse run.steps)
  pub is : is_history s (reverse run.steps) ≡ true

pub run-more : (s : Script) (m : Machine) (h : List Step) (step : Step) → run_steps s m (h ++ step ∷ []) ≡ next s (run_steps s m h) step
unfolding run_steps
run-more s m [] step = refl
run-more s m (x ∷ h) step = run-more s (next s m x) h step

pub legal-more : (s : Script) (m : Machine) (h : List Step) (step : Step) → are_legal s m h ≡ true → legal s (run_steps s m h) step ≡ true
    → are_legal s m (h ++ step ∷ []) ≡ true
unfolding run_steps are_legal
legal-more s m [] step is l = and_from _ _ l refl
legal-more s m (x ∷ h) step is l = let all = legal_parts s m x h is
    in and_from _ _ all.first (legal-more s (next s m x) h step all.rest l)

pub run-does : (s : Script) (run : Progress) (step : Step) → IsRun s run → legal s run.machine step ≡ true → IsRun s (does s run step)
run-does s run step R l = record {
  same = ap (λ m. next s m step) R.same ∙ sym (ap (at s) (reverse_more step run.steps) ∙ run-more s (first_machine s.topology)
      (reverse run.steps) step);
  is = ap (is_history s) (reverse_more step run.steps) ∙ legal-more s (first_machine s.topology) (reverse run.steps) step R.is
      (ap (λ m. legal s m step) (sym R.same) ∙ l);
}

-- a run that goes on, by legal steps that are no vblanks without GO
pub data Later (s : Script) : Progress → Progress → Type 0 where
  Same : {run later : Progress} → later ≡ run → Later s run later
  More : {run later : Progress} → (step : Step) → legal s run.machine step ≡ true → is_moving run.machine step ≡ true
      → Later s (does s run step) later → Later s run later

pub later-trans : (s : Script) {a b c : Progress} → Later s a b → Later s b c → Later s a c
later-trans s {a} {b} {c} (Same e) r = subst (λ z. Later s z c) e r
later-trans s (More step l mv rest) r = More step l mv (later-trans s rest r)

pub later-run : (s : Script) {a b : Progress} → Later s a b → IsRun s a → IsRun s b
later-run s (Same e) R = subst (IsRun s) (sym e) R
later-run s {a} (More step l mv rest) R = later-run s rest (run-does s a step R l)

pub later-length : (s : Script) {a b : Progress} → Later s a b → length a.steps ≤ length b.steps
later-length s (Same e) = let same = ap (λ (z : Progress). length z.steps) e in omega (arith, same)
later-length s (More step l mv rest) = let r = later-length s rest in omega (arith, r)

pub later-still : (s : Script) {a b : Progress} → Later s a b → length b.steps ≡ length a.steps → b ≡ a
later-still s (Same e) same = e
later-still s (More step l mv rest) same = absurd (let r = later-length s rest in omega (arith, r, same))

-- what lies between a run and itself is that run
pub between : (s : Script) {a b c : Progress} → Later s a b → Later s b c → c ≡ a → b ≡ a
between s one two e = later-still s one (let x = later-length s one in let y = later-length s two
    in let z = ap (λ (p : Progress). length p.steps) e in omega (arith, x, y, z))

-- the steps of a run are those of the one before, and more
pub later-steps : (s : Script) {a b : Progress} → Later s a b → (more : List Step) × (reverse b.steps ≡ reverse a.steps ++ more)
later-steps s {a} (Same e) = ([], ap (λ (z : Progress). reverse z.steps) e ∙ sym (append-nil (reverse a.steps)))
later-steps s {a} (More step l mv rest) =
    let r = later-steps s rest in
    (step ∷ r.0, r.1 ∙ ap (λ z. z ++ r.0) (reverse_more step a.steps) ∙ append_assoc (reverse a.steps) (step ∷ []) r.0)

-- Which steps are taken

first-holds : {A : Type 0} (f : ℕ → Option A) (ks : List ℕ) (x : A) → first_some f ks ≡ Some x → (k : ℕ) × (f k ≡ Some x)
first-holds f [] x e = absurd cc
first-holds f (k ∷ ks) x e = ⊎_elim (λ here. (k, here)) (λ rest. first-holds f ks x rest) (or_else-some (f k) (first_some f ks) x e)

-- an object with a lock by its kind and its index
record IsLockable (t : Topology) (o : ℕ) : Type 0 where
  there : is_lockable t (kind_of o) (index_of o) ≡ true
  same : object_id (kind_of o) (index_of o) ≡ o

lock-of : (t : Topology) (k : Kind) (o : ℕ) (i : IsObject t k o) → kind_of o ≡ k → o - first_id k ≡ i.index → is_lockable t k i.index ≡ true
    → IsLockable t o
lock-of t k o i e f there =
    let n : index_of o ≡ i.index = ap (λ z. o - first_id z) e ∙ f in
    record { there = (λ j. is_lockable t (e j) (n j)) ∙ there; same = (λ j. object_id (e j) (n j)) ∙ sym i.same }

lock-there : (t : Topology) (o : ℕ) → HasFewObjects t → IsIn o (lockable t) → IsLockable t o
lock-there t o few is =
    ⊎_elim
    (λ a. let i : IsObject t Crtc o = ids-in t Crtc o a
    in lock-of t Crtc o i (crtc_kind t o few a) (omega (arith, i.same)) (lt-ltb i.index (count_of t Crtc) i.within))
    (λ rest.
    ⊎_elim
    (λ b. let i : IsObject t Plane o = ids-in t Plane o b
    in lock-of t Plane o i (plane_kind t o few b) (omega (arith, i.same)) (lt-ltb i.index (count_of t Plane) i.within))
    (λ c. let i : IsObject t Conn o = ids-in t Conn o c
    in lock-of t Conn o i (conn_kind t o few c) (omega (arith, i.same)) (lt-ltb i.index (count_of t Conn) i.within))
    (in_either (ids_of t Plane) (ids_of t Conn) o rest))
    (in_either (ids_of t Crtc) _ o is)

module _ (s : Script) (m : Machine) (A : Along s m) where
  -- where a lock may be taken, the history was not ended
  unended : (client o : ℕ) (r : Request) → request_at s m client ≡ Some r → IsIn o (lockable s.topology) → may_lock s m client o ≡ true
      → m.stalled ≡ false
  unended client o r e io h =
      let c = locks s m client o (with_request s m client r e) io h in
      still-going s m A (list_any-has (may s m) (steps_that_move s m) c.step c.is_in c.may_be)

  lock-legal : (client o : ℕ) (r : Request) → request_at s m client ≡ Some r → IsIn o (lockable s.topology) → may_lock s m client o ≡ true
      → legal s m (lock_step client o) ≡ true
  unfolding legal may
  lock-legal client o r e io h =
      let l = lock-there s.topology o A.facts.holds.tail.few io in
      and_from _ _ (ap not (unended client o r e io h)) (and_from _ _ l.there (ap (may_lock s m client) l.same ∙ h))

  next-may : (client : ℕ) (r : Request) (o : ℕ) → next_lock s m client r ≡ Some o → IsIn o (lockable s.topology)
      × (may_lock s m client o ≡ true)
  unfolding next_lock
  next-may client r o e =
      ⊎_elim
      (λ a. (
        first-in s m client r o (find-in (may_lock s m client) (first_missing s.topology m client r) o a),
        find-holds (may_lock s m client) (first_missing s.topology m client r) o a,
      ))
      (λ b. (find-in (may_lock s m client) (lockable s.topology) o b, find-holds (may_lock s m client) (lockable s.topology) o b))
      (or_else-some (find (may_lock s m client) (first_missing s.topology m client r)) (find (may_lock s m client) (lockable s.topology)) o
      e)

  pub client-legal : (client : ℕ) (step : Step) → client_step s m client ≡ Some step → legal s m step ≡ true
  unfolding client_step
  client-legal client step e =
      ⊎_elim
      (λ a. find-holds (legal s m) (tried client) step a)
      (λ b. by_request (request_at s m client) refl b)
      (or_else-some (find (legal s m) (tried client))
      (option_map (lock_step client) (option_and_then (next_lock s m client) (request_at s m client))) step e)
    where
      by_lock : (r : Request) → request_at s m client ≡ Some r → (q : Option ℕ) → next_lock s m client r ≡ q
          → option_map (lock_step client) q ≡ Some step → legal s m step ≡ true
      by_lock r is None found e = absurd cc
      by_lock r is (Some o) found e =
          let n = next-may client r o found in
          let same : lock_step client o ≡ step = cc in
          subst (λ z. legal s m z ≡ true) same (lock-legal client o r is n.0 n.1)

      by_request : (q : Option Request) → request_at s m client ≡ q
          → option_map (lock_step client) (option_and_then (next_lock s m client) q) ≡ Some step → legal s m step ≡ true
      by_request None is e = absurd cc
      by_request (Some r) is e = by_lock r is (next_lock s m client r) refl e

pub tail-legal : (s : Script) (m : Machine) (step : Step) → tail_step s m ≡ Some step → legal s m step ≡ true
unfolding tail_step
tail-legal s m step e =
    ⊎_elim
    (λ a. let r = first-holds (λ k. find (legal s m) (steps_of_commit s.topology k)) (commit_numbers m) step a
    in find-holds (legal s m) (steps_of_commit s.topology r.0) step r.1)
    (λ b. find-holds (legal s m) (steps_with_go s.topology m) step b)
    (or_else-some (first_some (λ k. find (legal s m) (steps_of_commit s.topology k)) (commit_numbers m))
    (find (legal s m) (steps_with_go s.topology m)) step e)

tried-moving : (m : Machine) (client : ℕ) (step : Step) → IsIn step (tried client) → is_moving m step ≡ true
tried-moving m client step (inl same) = subst (λ z. is_moving m z ≡ true) same refl
tried-moving m client step (inr (inl same)) = subst (λ z. is_moving m z ≡ true) same refl
tried-moving m client step (inr (inr (inl same))) = subst (λ z. is_moving m z ≡ true) same refl
tried-moving m client step (inr (inr (inr (inl same)))) = subst (λ z. is_moving m z ≡ true) same refl
tried-moving m client step (inr (inr (inr (inr (inl same))))) = subst (λ z. is_moving m z ≡ true) same refl
tried-moving m client step (inr (inr (inr (inr (inr (inl same)))))) = subst (λ z. is_moving m z ≡ true) same refl
tried-moving m client step (inr (inr (inr (inr (inr (inr (inl same))))))) = subst (λ z. is_moving m z ≡ true) same refl
tried-moving m client step (inr (inr (inr (inr (inr (inr (inr (inl same)))))))) = subst (λ z. is_moving m z ≡ true) same refl
tried-moving m client step (inr (inr (inr (inr (inr (inr (inr (inr (inl same))))))))) = subst (λ z. is_moving m z ≡ true) same refl
tried-moving m client step (inr (inr (inr (inr (inr (inr (inr (inr (inr never))))))))) = absurd never

pub client-moving : (s : Script) (m : Machine) (client : ℕ) (step : Step) → client_step s m client ≡ Some step → is_moving m step ≡ true
unfolding client_step
client-moving s m client step e =
    ⊎_elim
    (λ a. tried-moving m client step (find-in (legal s m) (tried client) step a))
    (λ b. mapped (option_and_then (next_lock s m client) (request_at s m client)) b)
    (or_else-some (find (legal s m) (tried client))
    (option_map (lock_step client) (option_and_then (next_lock s m client) (request_at s m client))) step e)
  where
    mapped : (q : Option ℕ) → option_map (lock_step client) q ≡ Some step → is_moving m step ≡ true
    mapped None e = absurd cc
    mapped (Some o) e = let same : lock_step client o ≡ step = cc in subst (λ z. is_moving m z ≡ true) same refl

commit-moving : (t : Topology) (m : Machine) (k : ℕ) (step : Step) → IsIn step (steps_of_commit t k) → is_moving m step ≡ true
commit-moving t m k step (inl same) = subst (λ z. is_moving m z ≡ true) same refl
commit-moving t m k step (inr rest) =
    ⊎_elim
    (λ a. let r = map-from (λ index. Write k Crtc index) _ step a in subst (λ z. is_moving m z ≡ true) r.same refl)
    (λ more.
    ⊎_elim
    (λ b. let r = map-from (λ index. Write k Plane index) _ step b in subst (λ z. is_moving m z ≡ true) r.same refl)
    (λ more2.
    ⊎_elim
    (λ c. let r = map-from (λ index. Flush k Crtc index) _ step c in subst (λ z. is_moving m z ≡ true) r.same refl)
    (λ ends. ⊎_elim (λ same. subst (λ z. is_moving m z ≡ true) same refl)
    (λ last. ⊎_elim (λ same. subst (λ z. is_moving m z ≡ true) same refl) (λ never. absurd never) last) ends)
    (in_either (for_each t Crtc (λ kind index. Flush k kind index)) _ step more2))
    (in_either (for_each t Plane (λ kind index. Write k kind index)) _ step more))
    (in_either (for_each t Crtc (λ kind index. Write k kind index)) _ step rest)

go-moving : (t : Topology) (m : Machine) (step : Step) → IsIn step (steps_with_go t m) → is_moving m step ≡ true
go-moving t m step is =
    let r = map-from (λ index. Vblank Crtc index) _ step is in
    let f = filter-in (λ index. is_some (go_at m.device (object_id Crtc index))) (range_with_len 0 (count_of t Crtc)) r.number r.is_in in
    subst (λ z. is_moving m z ≡ true) r.same f.1

pub tail-moving : (s : Script) (m : Machine) (step : Step) → tail_step s m ≡ Some step → is_moving m step ≡ true
unfolding tail_step
tail-moving s m step e =
    ⊎_elim
    (λ a. let r = first-holds (λ k. find (legal s m) (steps_of_commit s.topology k)) (commit_numbers m) step a
    in commit-moving s.topology m r.0 step (find-in (legal s m) (steps_of_commit s.topology r.0) step r.1))
    (λ b. go-moving s.topology m step (find-in (legal s m) (steps_with_go s.topology m) step b))
    (or_else-some (first_some (λ k. find (legal s m) (steps_of_commit s.topology k)) (commit_numbers m))
    (find (legal s m) (steps_with_go s.topology m)) step e)

-- Turns and rounds

module _ (s : Script) (plain : IsPlainScript s) where
  pub along_run : (run : Progress) → IsRun s run → Along s run.machine
  along_run run R = subst (Along s) (sym R.same) (history_along s (reverse run.steps) plain R.is)

  pub goes-later : (most client : ℕ) (run : Progress) → IsRun s run → Later s run (client_goes s most client run)
  unfolding client_goes
  goes-later zero client run R = Same refl
  goes-later (suc most) client run R = by_step (client_step s run.machine client) refl
      (λ next_run next-later. goes-later most client next_run next-later)
    where
      by_answer : (b : Bool) (step : Step) → legal s run.machine step ≡ true → is_moving run.machine step ≡ true
          → ((next_run : Progress) → IsRun s next_run → Later s next_run (client_goes s most client next_run))
          → Later s run (if b then does s run step else client_goes s most client (does s run step))
      by_answer true step l mv later = More step l mv (Same refl)
      by_answer false step l mv later = More step l mv (later (does s run step) (run-does s run step R l))

      by_step : (o : Option Step) → client_step s run.machine client ≡ o
          → ((next_run : Progress) → IsRun s next_run → Later s next_run (client_goes s most client next_run))
          → Later s run (does_then s (λ step done. if is_answering step then done else client_goes s most client done) run o)
      by_step None e later = Same refl
      by_step (Some step) e later = by_answer (is_answering step) step (client-legal s run.machine (along_run run R) client step e)
          (client-moving s run.machine client step e) later

  pub tails-later : (most : ℕ) (run : Progress) → IsRun s run → Later s run (tails_go s most run)
  unfolding tails_go
  tails-later zero run R = Same refl
  tails-later (suc most) run R = by_step (tail_step s run.machine) refl (λ next_run next-later. tails-later most next_run next-later)
    where
      by_step : (o : Option Step) → tail_step s run.machine ≡ o
          → ((next_run : Progress) → IsRun s next_run → Later s next_run (tails_go s most next_run))
          → Later s run (does_then s (λ step done. tails_go s most done) run o)
      by_step None e later = Same refl
      by_step (Some step) e later = let l = tail-legal s run.machine step e
          in More step l (tail-moving s run.machine step e) (later (does s run step) (run-does s run step R l))

  pub settles-later : (run : Progress) → IsRun s run → Later s run (settles s run)
  settles-later run R = tails-later (31 * length run.machine.device.commits) run R

  pub returns-later : (client : ℕ) (run : Progress) → Later s run (returns s client run)
  returns-later client run = by_test (legal s run.machine (Return client)) refl
    where
      by_test : (b : Bool) → legal s run.machine (Return client) ≡ b → Later s run (if b then does s run (Return client) else run)
      by_test true l = More (Return client) l refl (Same refl)
      by_test false l = Same refl

  pub turn-later : (client : ℕ) (run : Progress) → IsRun s run → Later s run (turn s run client)
  unfolding turn
  turn-later client run R = by_end (is_at_end s run.machine client)
    where
      one : Later s run (client_goes s (most_of_turn s.topology) client run)
      one = goes-later (most_of_turn s.topology) client run R

      two : Later s (client_goes s (most_of_turn s.topology) client run) (settles s (client_goes s (most_of_turn s.topology) client run))
      two = settles-later (client_goes s (most_of_turn s.topology) client run) (later-run s one R)

      by_end : (b : Bool) → Later s run (if b then run
          else returns s client (settles s (client_goes s (most_of_turn s.topology) client run)))
      by_end true = Same refl
      by_end false = later-trans s one (later-trans s two
          (returns-later client (settles s (client_goes s (most_of_turn s.topology) client run))))

  pub turns-later : (clients : List ℕ) (run : Progress) → IsRun s run → Later s run (fold (turn s) run clients)
  turns-later [] run R = Same refl
  turns-later (client ∷ clients) run R = let one = turn-later client run R
      in later-trans s one (turns-later clients (turn s run client) (later-run s one R))

  pub round-later : (run : Progress) → IsRun s run → Later s run (round s run)
  unfolding round
  round-later run R = let one = turns-later (client_numbers s) run R
      in later-trans s one (settles-later (fold (turn s) run (client_numbers s)) (later-run s one R))

  pub rounds-later : (most : ℕ) (run : Progress) → IsRun s run → Later s run (rounds s most run)
  unfolding rounds
  rounds-later zero run R = Same refl
  rounds-later (suc most) run R = by_test (is_still s run) (λ next_run next-later. rounds-later most next_run next-later)
    where
      by_test : (b : Bool) → ((next_run : Progress) → IsRun s next_run → Later s next_run (rounds s most next_run))
          → Later s run (if b then run else rounds s most (round s run))
      by_test true later = Same refl
      by_test false later = let one = round-later run R in later-trans s one (later (round s run) (later-run s one R))

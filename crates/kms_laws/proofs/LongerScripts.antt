-- Each history of a script that was not ended is one of each longer script of the device, and leaves the same machine.
use Rattle.std.proofs.Common.{◌≡◌, ℕ, zero, suc, List, [], ◌∷◌, ◌++◌, Bool, true, false, Option, Some, None, inl, inr, refl, sym, ap, ◌∙◌}
use Rattle.std.proofs.Common.{subst, arith}
use Rattle.std.specs.Prelude.{slice_get}
use Rattle.std.proofs.lemmas.Bool.{and_from, false≢true}
use Rattle.std.proofs.lemmas.Option.{slice_get_within}
use Rattle.kms_model.specs.declared.objects.Topology.{Topology}
use Rattle.kms_model.specs.declared.replies.Step.{Step}
use Rattle.kms_model.specs.declared.replies.Step.TheVariants.{Begin, Lock, BackOff, Relock, Refuse, Test, Swap, Make, Signal, Claim, Write}
use Rattle.kms_model.specs.declared.replies.Step.TheVariants.{Flush, HwDone, Vblank, Cleanup, Read, Return, Stall}
use Rattle.kms_model.specs.declared.scripts.Command.{Command}
use Rattle.kms_model.specs.declared.scripts.Command.TheVariants as command
use Rattle.kms_model.specs.declared.scripts.Request.{Request}
use Rattle.kms_model.specs.declared.scripts.Script.{Script}
use Rattle.kms_model.specs.Device.Serial.{Entry, command_of, from_one}
use Rattle.kms_model.specs.Machine.Effects.{made_thing, next, refused, signalled_by, swapped_state}
use Rattle.kms_model.specs.Machine.Histories.{are_legal, at, legal, run_steps}
use Rattle.kms_model.specs.Machine.State.{Machine, command_at, entry_at, first_machine, request_at, request_in}
use Rattle.kms_model.specs.Machine.Steps.{idle_at, is_atomic, is_making, is_signal, is_wait, may, may_lock}
use Rattle.kms_model.specs.Machine.Steps.{may_refuse, may_swap, may_test, taking_at}
use Rattle.kms_model.specs.Script.Longer.{at_last}
use Rattle.kms_model.specs.Script.Words.{◌>>=◌}
use Rattle.kms_laws.specs.Longer.{AddedIsLonger, HistoriesStay, StaysHistory}
use Rattle.kms_model.proofs.Guards.{idle_from, idle_guards, legal-going, legal_parts, may_guards, may_legal, taking_from, taking_guards}
use Rattle.kms_laws.proofs.Quiet.{legal-may}
use Rattle.kms_laws.proofs.Steps.{request-is}

-- A script over another device.
abbrev over : Topology → Script → Script
over t s = record s { topology = t }

-- a history that is not ended was not ended before
was_going : (s : Script) (m : Machine) (h : List Step) → are_legal s m h ≡ true → (run_steps s m h).stalled ≡ false → m.stalled ≡ false
unfolding run_steps are_legal
was_going s m [] is going = going
was_going s m (step ∷ h) is going = legal-going s m step (legal_parts s m step h is).first

not_ended : (s : Script) (m : Machine) (step : Step) → (next s m step).stalled ≡ false → step ≡ Stall → ⊥
unfolding next
not_ended s m step going is = false≢true (sym (subst (λ z. (next s m z).stalled ≡ false) is going))

module _ (s longer : Script) (there : (e : Entry) (c : Command) → command_of s e ≡ Some c → command_of longer e ≡ Some c) where
  -- the longer script, over the same device
  abbrev more : Script
  more = over s.topology longer

  record IsThere {A : Type 0} (test : Bool) (old new : A) : Type 0 where
    passes : test ≡ true
    same : new ≡ old

  idle_there : (m : Machine) (client : ℕ) (test : Command → Bool) → idle_at s m client test ≡ true
      → IsThere (idle_at more m client test) (command_at s m client) (command_at more m client)
  idle_there m client test h =
      let g = idle_guards s m client test h in
      let stands : command_at more m client ≡ Some g.command = there (entry_at m client) g.command g.stands in
      record {
        passes = idle_from more m client test (record { idle = g.idle; command = g.command; stands = stands; passes = g.passes });
        same = stands ∙ sym g.stands;
      }

  taking_there : (m : Machine) (client : ℕ) (test : Request → Bool) → taking_at s m client test ≡ true
      → IsThere (taking_at more m client test) (request_at s m client) (request_at more m client)
  taking_there m client test h =
      let g = taking_guards s m client test h in
      let stands : request_at more m client ≡ Some g.request = ap request_in
      (there (entry_at m client) (command.Atomic g.request) (request-is (command_at s m client) g.request g.stands)) in
      record {
        passes = taking_from more m client test (record { taking = g.taking; request = g.request; stands = stands; passes = g.passes });
        same = stands ∙ sym g.stands;
      }

  return_there : (m : Machine) (client : ℕ) → may s m (Return client) ≡ true → may more m (Return client) ≡ true
  unfolding may
  return_there m client h = let g = may_guards s m (Return client) h in rw g.returns g.cleaned

  may_there : (m : Machine) (step : Step) → may s m step ≡ true → may more m step ≡ true
  unfolding may may_lock
  may_there m (Begin client) h = (idle_there m client is_atomic h).passes
  may_there m (Lock client kind index) h =
      let g = may_guards s m (Lock client kind index) h in
      let reaching = taking_there m client _ (taking_from s m client _ g.may_lock.reaching) in
      and_from _ _ g.lockable (and_from _ _ reaching.passes g.may_lock.free)
  may_there m (BackOff client) h = h
  may_there m (Relock client) h = h
  may_there m (Refuse client) h = (taking_there m client (may_refuse s.topology m client) h).passes
  may_there m (Test client) h = (taking_there m client (may_test s.topology m client) h).passes
  may_there m (Swap client) h = (taking_there m client (may_swap s.topology m client) h).passes
  may_there m (Make client) h = (idle_there m client is_making h).passes
  may_there m (Signal client) h = (idle_there m client is_signal h).passes
  may_there m (Claim k) h = h
  may_there m (Write k kind index) h = h
  may_there m (Flush k kind index) h = h
  may_there m (HwDone k) h = h
  may_there m (Vblank kind index) h = h
  may_there m (Cleanup k) h = h
  may_there m (Read client) h =
      let g = may_guards s m (Read client) h in
      and_from _ _ (idle_there m client is_wait (idle_from s m client is_wait g.waits)).passes g.tells
  may_there m (Return client) h = return_there m client h
  may_there m Stall h = absurd (false≢true h)

  next_there : (m : Machine) (step : Step) → may s m step ≡ true → next more m step ≡ next s m step
  unfolding may next
  next_there m (Begin client) h = refl
  next_there m (Lock client kind index) h = refl
  next_there m (BackOff client) h = refl
  next_there m (Relock client) h = refl
  next_there m (Refuse client) h = ap (refused s.topology m client) (taking_there m client (may_refuse s.topology m client) h).same
  next_there m (Test client) h = refl
  next_there m (Swap client) h = ap (swapped_state s.topology m client) (taking_there m client (may_swap s.topology m client) h).same
  next_there m (Make client) h = ap (made_thing s.topology m client) (idle_there m client is_making h).same
  next_there m (Signal client) h = ap (signalled_by s.topology m client) (idle_there m client is_signal h).same
  next_there m (Claim k) h = refl
  next_there m (Write k kind index) h = refl
  next_there m (Flush k kind index) h = refl
  next_there m (HwDone k) h = refl
  next_there m (Vblank kind index) h = refl
  next_there m (Cleanup k) h = refl
  next_there m (Read client) h = refl
  next_there m (Return client) h = refl
  next_there m Stall h = refl

  may_of : (m : Machine) (step : Step) → legal s m step ≡ true → (next s m step).stalled ≡ false → may s m step ≡ true
  may_of m step l going = elim (legal-may s m step l) [
    | inl ends ↦ absurd (not_ended s m step going ends)
    | inr may ↦ may
  ]

  run_there : (m : Machine) (h : List Step) → are_legal s m h ≡ true → (run_steps s m h).stalled ≡ false
      → (are_legal more m h ≡ true) × (run_steps more m h ≡ run_steps s m h)
  unfolding run_steps are_legal
  run_there m [] is going = (refl, refl)
  run_there m (step ∷ h) is going =
      let all = legal_parts s m step h is in
      let runs = was_going s (next s m step) h all.rest going in
      let may = may_of m step all.first runs in
      let same = next_there m step may in
      let rest = run_there (next s m step) h all.rest going in (
        and_from _ _ (may_legal more m step (legal-going s m step all.first) (may_there m step may))
            (ap (λ n. are_legal more n h) same ∙ rest.0),
        ap (λ n. run_steps more n h) same ∙ rest.1,
      )

-- over one device
over_same : (s longer : Script) → longer.topology ≡ s.topology → over s.topology longer ≡ longer
over_same s longer same = ap (λ t. over t longer) (sym same)

pub histories_stay : HistoriesStay
histories_stay s longer h is history going =
    let found = run_there s longer is.commands (first_machine s.topology) h history going in
    subst (λ (l : Script). StaysHistory s l h) (over_same s longer is.topology) (record { history = found.0; machine = found.1 })

-- Commands that are added

-- the commands of a client that may have more of them behind those that it has
record IsKept (clients : List (List Command)) (n : ℕ) (commands : List Command) : Type 0 where
  now : List Command
  found : slice_get clients n ≡ Some now
  kept : (k : ℕ) (c : Command) → from_one commands k ≡ Some c → from_one now k ≡ Some c

commands_there : (s : Script) (clients : List (List Command))
    → ((n : ℕ) (commands : List Command) → slice_get s.clients n ≡ Some commands → IsKept clients n commands)
    → (e : Entry) (c : Command) → command_of s e ≡ Some c → command_of (record s { clients = clients }) e ≡ Some c
commands_there s clients rows e c is = by_client e.client is
  where
    by_row : (n : ℕ) (o : Option (List Command)) → slice_get s.clients n ≡ o → (o >>= (λ commands. from_one commands e.command)) ≡ Some c
        → (slice_get clients n >>= (λ commands. from_one commands e.command)) ≡ Some c
    by_row n None at h = absurd cc
    by_row n (Some commands) at h = let row = rows n commands at in rw row.found (row.kept e.command c h)

    by_client : (n : ℕ) → (from_one s.clients n >>= (λ commands. from_one commands e.command)) ≡ Some c
        → (from_one clients n >>= (λ commands. from_one commands e.command)) ≡ Some c
    by_client zero h = absurd cc
    by_client (suc n) h = by_row n (slice_get s.clients n) refl h

front : {A : Type 0} (xs more : List A) (n : ℕ) (x : A) → slice_get xs n ≡ Some x → slice_get (xs ++ more) n ≡ Some x
front [] more n x e = absurd (omega (arith, slice_get_within [] n x e))
front (y ∷ ys) more zero x e = e
front (y ∷ ys) more (suc n) x e = front ys more n x e

front_one : (more commands : List Command) (k : ℕ) (c : Command) → from_one commands k ≡ Some c → from_one (commands ++ more) k ≡ Some c
front_one more commands zero c e = absurd cc
front_one more commands (suc k) c e = front commands more k c e

last_rows : (more : List Command) (clients : List (List Command)) (n : ℕ) (commands : List Command) → slice_get clients n ≡ Some commands
    → IsKept (at_last more clients) n commands
last_rows more [] n commands e = absurd (omega (arith, slice_get_within [] n commands e))
last_rows more (x ∷ []) zero commands e =
    let same : x ≡ commands = cc in
    record {
      now = x ++ more;
      found = refl;
      kept = subst
          (λ (xs : List Command). (k : ℕ) (c : Command) → from_one xs k ≡ Some c → from_one (x ++ more) k ≡ Some c) same (front_one more x);
    }
last_rows more (x ∷ []) (suc n) commands e = absurd (omega (arith, slice_get_within [] n commands e))
last_rows more (x ∷ y ∷ ys) zero commands e =
    let same : x ≡ commands = cc in
    record { now = x; found = refl; kept = λ k c is. ap (λ (xs : List Command). from_one xs k) same ∙ is }
last_rows more (x ∷ y ∷ ys) (suc n) commands e =
    let row = last_rows more (y ∷ ys) n commands e in
    record { now = row.now; found = row.found; kept = row.kept }

pub added_is_longer : AddedIsLonger
added_is_longer = record {
  behind_last = λ s more. record { topology = refl; commands = commands_there s (at_last more s.clients) (last_rows more s.clients) };
  own_client = λ s more. record {
    topology = refl;
    commands = commands_there s (s.clients ++ more ∷ []) (λ n commands e.
        record { now = commands; found = front s.clients (more ∷ []) n commands e; kept = λ k c is. is });
  };
}

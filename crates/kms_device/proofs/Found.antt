-- From what a pass has seen to what its turn finds.
use Rattle.std.proofs.Common.{◌≡◌, ◌≢◌, ℕ, ◌≤◌, length, Some, Bool, true, false, refl, sym, ap, ◌∙◌, subst}
use Rattle.std.specs.Prelude.{◌&&◌, not}
use Rattle.std.proofs.lemmas.Bool.{and_from, and_parts}
use Rattle.kms_model.specs.declared.objects.Ticket.{Ticket}
use Rattle.kms_model.specs.declared.replies.Step.{Step}
use Rattle.kms_model.specs.declared.runs.Place.{Place}
use Rattle.kms_model.specs.declared.scripts.Command.{Command}
use Rattle.kms_model.specs.declared.scripts.Script.{Script}
use Rattle.kms_model.specs.Machine.Effects.{next}
use Rattle.kms_model.specs.Machine.Histories.{are_legal, at, is_history, legal, run_steps}
use Rattle.kms_model.specs.Machine.State.{Machine, doing_at, first_machine, place_at}
use Rattle.kms_model.specs.Machine.Steps.{idle_at, is_atomic, is_idle, is_making, is_signal, is_wait, may, returning_of}
use Rattle.kms_model.specs.Promises.{client_of_step}
use Rattle.kms_core.specs.Calls.{MayMake, MayRead, MayReturn, MaySignal}
use Rattle.kms_core.specs.Locks.{HasContext, MayBackOff, MayBegin, MayRelock}
use Rattle.kms_core.specs.Run.{Run, machine}
use Rattle.kms_wwlock.specs.Standing.{ticket_in}
use Rattle.kms_device.specs.Asking.{ContextBackedOff, ContextMustBackOff}
use Rattle.kms_device.specs.Turns.{DevicePass, MayBeFound, run_seen}
use Rattle.kms_model.specs.Device.Serial.{command_of}
use Rattle.kms_model.proofs.Guards.{idle_from, idle_guards}
use Rattle.kms_device.proofs.Runs.{legal-behind, open-at, run-append, stays}
use Rattle.kms_device.proofs.Staying.{same_place}

-- a client that is idle at a command in one machine is so in another where it stands at the same place
idle-same : (s : Script) (m m2 : Machine) (client : ℕ) (test : Command → Bool) → place_at m2 client ≡ place_at m client
    → idle_at s m client test ≡ true → idle_at s m2 client test ≡ true
idle-same s m m2 client test e h =
    let g = idle_guards s m client test h in
    idle_from s m2 client test (record {
      idle = ap (λ (p : Place). is_idle p.doing) e ∙ g.idle;
      command = g.command;
      stands = ap (λ (p : Place). command_of s (record { client = client; command = p.command })) e ∙ g.stands;
      passes = g.passes;
    })

module _ (script : Script) (pass : DevicePass) (found : Run) (f : MayBeFound script pass found) where
  pub history : is_history script found.steps ≡ true
  history = subst (λ s. is_history s found.steps ≡ true) f.same f.is_open.history

  before : Machine
  before = at script pass.seen

  behind : at script found.steps ≡ run_steps script (at script pass.seen) f.history.begins.0
  behind = ap (at script) f.history.begins.1 ∙ run-append script (first_machine script.topology) pass.seen f.history.begins.0

  legal_rest : are_legal script (at script pass.seen) f.history.begins.0 ≡ true
  legal_rest = legal-behind script (first_machine script.topology) pass.seen f.history.begins.0
      (subst (λ h. is_history script h ≡ true) f.history.begins.1 history)

  machine-found : machine found ≡ at script found.steps
  machine-found = ap (λ s. at s found.steps) f.same

  -- what each step of others keeps holds of what is found, where it holds of what was seen
  pub stays-found : (P : Machine → Type 0) → ((m : Machine) (x : Step) → legal script m x ≡ true → client_of_step x ≢ Some pass.rank → P m
      → P (next script m x)) → P (at script pass.seen) → P (machine found)
  stays-found P keeps p =
      subst P (sym (machine-found ∙ behind)) (stays P script pass.rank keeps (at script pass.seen) f.history.begins.0 legal_rest
      f.history.begins.2 p)

  pub going-found : (machine found).stalled ≡ false
  going-found = open-at found.script found.steps f.is_open.history f.is_open.goes_on

  -- the client of the pass is where it was
  pub place-found : place_at (machine found) pass.rank ≡ place_at (at script pass.seen) pass.rank
  place-found =
      stays-found (λ m. place_at m pass.rank ≡ place_at (at script pass.seen) pass.rank)
      (λ m x is others same. same_place script m pass.rank x is others ∙ same) refl

  idle-found : (test : Command → Bool) → idle_at script (at script pass.seen) pass.rank test ≡ true
      → idle_at found.script (machine found) pass.rank test ≡ true
  idle-found test h = subst (λ s. idle_at s (machine found) pass.rank test ≡ true) (sym f.same)
      (idle-same script (at script pass.seen) (machine found) pass.rank test place-found h)

  -- a step that idle clients may do
  may-idle : (test : Command → Bool) → (not (at script pass.seen).stalled && idle_at script (at script pass.seen) pass.rank test) ≡ true
      → (not (machine found).stalled && idle_at found.script (machine found) pass.rank test) ≡ true
  may-idle test h = and_from (not (machine found).stalled) _ (ap not going-found)
      (idle-found test (and_parts (not (at script pass.seen).stalled) _ h).1)

  pub may_make : (client : ℕ) → pass.rank ≡ client → MayMake (run_seen script pass) client → MayMake found client
  unfolding legal may
  may_make client whose h = subst (MayMake found) whose (may-idle is_making (subst (MayMake (run_seen script pass)) (sym whose) h))

  pub may_signal : (client : ℕ) → pass.rank ≡ client → MaySignal (run_seen script pass) client → MaySignal found client
  unfolding legal may
  may_signal client whose h = subst (MaySignal found) whose (may-idle is_signal (subst (MaySignal (run_seen script pass)) (sym whose) h))

  pub may_begin : (client : ℕ) → pass.rank ≡ client → MayBegin (run_seen script pass) client → MayBegin found client
  unfolding legal may
  may_begin client whose h = subst (MayBegin found) whose (may-idle is_atomic (subst (MayBegin (run_seen script pass)) (sym whose) h))

  pub may_read : (client : ℕ) → pass.rank ≡ client → MayRead (run_seen script pass) client → MayRead found client
  may_read client whose h = subst (MayRead found) whose (idle-found is_wait (subst (MayRead (run_seen script pass)) (sym whose) h))

  pub may_return : (client : ℕ) → pass.rank ≡ client → MayReturn (run_seen script pass) client → MayReturn found client
  may_return client whose h = record {
    low = h.low;
    high = subst (λ (s : Script). client ≤ length s.clients) (sym f.same) h.high;
    commit = h.commit;
    returning =
        subst (λ c. returning_of (doing_at (machine found) c) ≡ Some h.commit) whose
        (ap (λ (p : Place). returning_of p.doing) place-found ∙ subst (λ c. returning_of (doing_at (at script pass.seen) c) ≡ Some h.commit)
        (sym whose) h.returning);
  }

  pub may_back_off : (t : Ticket) → ContextMustBackOff (run_seen script pass) pass.rank t → MayBackOff found t
      × HasContext found pass.rank t
  may_back_off t h =
      let must = ap (λ (p : Place). p.doing) place-found ∙ h.must in
      (record { client = pass.rank; object = h.object; must = must; goes_on = going-found }, ap ticket_in must)

  pub may_relock : (t : Ticket) → ContextBackedOff (run_seen script pass) pass.rank t → MayRelock found t × HasContext found pass.rank t
  may_relock t h =
      let off = ap (λ (p : Place). p.doing) place-found ∙ h.off in
      (record { client = pass.rank; object = h.object; off = off; goes_on = going-found }, ap ticket_in off)

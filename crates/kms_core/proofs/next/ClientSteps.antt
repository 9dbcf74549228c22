-- Which steps of clients are legal while the history goes on.
use Rattle.std.proofs.Common.{◌≡◌, ℕ, zero, suc, ◌≤◌, ◌-◌, Bool, true, false, List, [], ◌∷◌, length, get_or, Option, Some, None, refl, sym}
use Rattle.std.proofs.Common.{ap, ◌∙◌, arith}
use Rattle.std.specs.Prelude.{◌&&◌, ◌||◌, ◌==◌, is_some, nat_lt}
use Rattle.std.proofs.lemmas.Bool.{lt-ltb}
use Rattle.std.proofs.lemmas.Bool.Decides.{nat_tests}
use Rattle.std.proofs.lemmas.List.{get_or_default}
use Rattle.kms_model.specs.declared.objects.ObjId.{ObjId}
use Rattle.kms_model.specs.declared.objects.Ticket.{Ticket}
use Rattle.kms_model.specs.declared.replies.Event.{Event}
use Rattle.kms_model.specs.declared.replies.Step.TheVariants as step
use Rattle.kms_model.specs.declared.runs.Doing.{Doing}
use Rattle.kms_model.specs.declared.runs.Doing.TheVariants as doing
use Rattle.kms_model.specs.declared.runs.Place.{Place}
use Rattle.kms_model.specs.declared.scripts.Command.{Command}
use Rattle.kms_model.specs.Machine.State.{Machine, command_at, doing_at, reserved_at, unread_at}
use Rattle.kms_model.specs.Machine.Steps.{contended, idle_at, is_atomic, is_free_for, is_idle, is_making, is_signal, is_wait, may}
use Rattle.kms_model.specs.Machine.Steps.{must_back_off, returning_of}
use Rattle.kms_wwlock.specs.InStep.{AreClientsOf}
use Rattle.kms_signal.specs.Queues.{Queue, empty_queue}
use Rattle.kms_track.specs.Tracking.{cleaned_of}
use Rattle.kms_track.proofs.MachineAnswers.{cleaned_machine}
use Rattle.kms_core.specs.Calls.{idle_command_at, only_if, read_reply}
use Rattle.kms_core.specs.Next.{IsOutside}
use Rattle.kms_core.specs.Run.{Run, machine}
use Rattle.kms_core.specs.Stands.{Stores, Stands, queue_of}
use Rattle.kms_core.proofs.next.Outside.{outside}
use Rattle.kms_core.proofs.Places.{client_there}

-- What clients do

-- a number that no client has
pub outside_idle : {r : Run} {st : Stores} (client : ℕ) → Stands r st → IsOutside r.script client → doing.Idle
    ≡ doing_at (machine r) client
outside_idle {r} client stands away =
    sym (ap (λ (p : Place). p.doing) (outside r.script r.steps stands.history client
    away))

pub outside_command : (r : Run) (client : ℕ) → IsOutside r.script client → None ≡ idle_command_at r client
outside_command r client away = by (is_idle (doing_at (machine r) client)) (command_at r.script (machine r) client) refl where
  by : (b : Bool) (o : Option Command) → command_at r.script (machine r) client ≡ o → None ≡ only_if b o
  by false o at = refl
  by true None at = refl
  by true (Some c) at = absurd (away (client_there r.script (machine r) client c at))

-- Ends

-- Where clients are idle

-- a test of the command at which a client is idle
abbrev pub passes_at : (Command → Bool) → Option Command → Bool
passes_at test None = false
passes_at test (Some c) = test c

only_passes : (r : Run) (client : ℕ) (test : Command → Bool) (b : Bool) (o : Option Command) → is_idle (doing_at (machine r) client) ≡ b
    → command_at r.script (machine r) client ≡ o
    → passes_at test (only_if b o) ≡ idle_at r.script (machine r) client test
only_passes r client test true None idle at = rw (idle, at) refl
only_passes r client test true (Some c) idle at = rw (idle, at) refl
only_passes r client test false o idle at = rw idle refl

pub idle_passes : (r : Run) (client : ℕ) (test : Command → Bool) {o : Option Command} → o ≡ idle_command_at r client → passes_at test o
    ≡ idle_at r.script (machine r) client test
idle_passes r client test is = ap (passes_at test) is ∙ only_passes r client test (is_idle (doing_at (machine r) client))
    (command_at r.script (machine r) client) refl refl

pub begin_told : (r : Run) (client : ℕ) {o : Option Command} → o ≡ idle_command_at r client → passes_at is_atomic o
    ≡ may r.script (machine r) (step.Begin client)
unfolding may
begin_told r client {o} is = idle_passes r client is_atomic is

pub make_told : (r : Run) (client : ℕ) {o : Option Command} → o ≡ idle_command_at r client → passes_at is_making o
    ≡ may r.script (machine r) (step.Make client)
unfolding may
make_told r client {o} is = idle_passes r client is_making is

pub signal_told : (r : Run) (client : ℕ) {o : Option Command} → o ≡ idle_command_at r client → passes_at is_signal o
    ≡ may r.script (machine r) (step.Signal client)
unfolding may
signal_told r client {o} is = idle_passes r client is_signal is

-- Contexts

pub back_told : (r : Run) (client : ℕ) (d : Doing) → d ≡ doing_at (machine r) client → must_back_off d
    ≡ may r.script (machine r) (step.BackOff client)
unfolding may
back_told r client d is = ap must_back_off is

pub relock_told : {r : Run} {st : Stores} (client : ℕ) (answer : Bool) → Stands r st
    → ((m : Machine) → AreClientsOf m.contexts st.clients → answer ≡ is_free_for m (contended (doing_at m client))) → answer
    ≡ may r.script (machine r) (step.Relock client)
unfolding may
relock_told {r} client answer stands told = told (machine r) stands.stores.clients

pub relock_outside : {r : Run} {st : Stores} (client : ℕ) → Stands r st → IsOutside r.script client → false
    ≡ may r.script (machine r) (step.Relock client)
unfolding may
relock_outside {r} {st} client stands away = ap (λ (d : Doing). is_free_for (machine r) (contended d))
    (outside_idle client stands away)

pub must_not : (d : Doing) → ((t : Ticket) (object : ObjId) → d ≡ doing.MustBackOff t object → ⊥) → must_back_off d ≡ false
must_not doing.Idle other = refl
must_not (doing.Taking t) other = refl
must_not (doing.MustBackOff t object) other = absurd (other t object refl)
must_not (doing.BackedOff t object) other = refl
must_not (doing.Returning k) other = refl

pub back_not : (r : Run) (client : ℕ) (d : Doing) → ((t : Ticket) (object : ObjId) → d ≡ doing.MustBackOff t object → ⊥) → d
    ≡ doing_at (machine r) client → false ≡ may r.script (machine r) (step.BackOff client)
back_not r client d other is = sym (must_not d other) ∙ back_told r client d is

-- Commits that are waited for

pub return_told : {r : Run} {st : Stores} (client commit : ℕ) → Stands r st → doing.Returning commit ≡ doing_at (machine r) client
    → cleaned_of st.tracker commit ≡ may r.script (machine r) (step.Return client)
unfolding may
return_told {r} {st} client commit stands is =
    cleaned_machine r.script.topology (machine r) st.tracker commit stands.stores.tracker
    ∙ (let e : returning_of (doing_at (machine r) client) ≡ Some commit = sym (ap returning_of is) in rw e refl)

pub return_not : (r : Run) (client : ℕ) (d : Doing) → returning_of d ≡ None → d ≡ doing_at (machine r) client → false
    ≡ may r.script (machine r) (step.Return client)
unfolding may
return_not r client d none is = let e : returning_of (doing_at (machine r) client) ≡ None = sym (ap returning_of is) ∙ none in rw e refl

-- Events

abbrev pub is_answered : List Event → ℕ → Bool
is_answered unread reserved = nat_lt 0 (length unread) || (reserved == 0)

pub answered_is : (unread : List Event) (reserved : ℕ) → is_some (read_reply unread reserved) ≡ is_answered unread reserved
answered_is [] zero = refl
answered_is [] (suc n) = grind (arith, nat_tests)
answered_is (event ∷ events) reserved = rw (lt-ltb 0 (length (event ∷ events)) (omega arith)) refl

pub answered_told : {r : Run} {st : Stores} (client : ℕ) (q d : Queue) → Stands r st → 1 ≤ client → client
    ≤ length r.script.clients → q ≡ get_or st.queues (client - 1) d
    → is_some (read_reply q.unread q.reserved) ≡ (nat_lt 0 (length (unread_at (machine r).events client))
    || (reserved_at (machine r).events client == 0))
answered_told {r} {st} client q d stands low high is =
    let size = stands.stores.queues.size in
    let queue = stands.stores.queues.queue client low high in
    let own : q ≡ queue_of st.queues client = is ∙ get_or_default st.queues (client - 1) d empty_queue (omega (arith, low, high, size)) in
    answered_is q.unread q.reserved
    ∙ ap (λ (x : Queue). is_answered x.unread x.reserved) own
    ∙ ap (λ (events : List Event). is_answered events (queue_of st.queues client).reserved) queue.unread
    ∙ ap (λ n. is_answered (unread_at (machine r).events client) n) queue.reserved

pub read_there : (r : Run) (client : ℕ) {c : Command} → Some c ≡ idle_command_at r client → (1 ≤ client)
    × (client ≤ length r.script.clients)
read_there r client {c} is = from (is_idle (doing_at (machine r) client)) (command_at r.script (machine r) client) refl is where
  from : (b : Bool) (o : Option Command) → command_at r.script (machine r) client ≡ o → Some c ≡ only_if b o → (1 ≤ client)
      × (client ≤ length r.script.clients)
  from true None at e = absurd cc
  from false None at e = absurd cc
  from true (Some x) at e = client_there r.script (machine r) client x at
  from false (Some x) at e = absurd cc

module _ (r : Run) (client : ℕ) where
  pub read_answered : {c : Command} {b : Bool} → Some c ≡ idle_command_at r client → is_wait c ≡ true → b
      ≡ (nat_lt 0 (length (unread_at (machine r).events client)) || (reserved_at (machine r).events client == 0)) → b
      ≡ may r.script (machine r) (step.Read client)
  unfolding may
  read_answered is wait answered =
      let idle : idle_at r.script (machine r) client is_wait ≡ true = sym (idle_passes r client is_wait is) ∙ wait in
      answered ∙ ap (λ x. x && (nat_lt 0 (length (unread_at (machine r).events client)) || (reserved_at (machine r).events client == 0)))
      (sym idle)

  pub read_other : {c : Command} → Some c ≡ idle_command_at r client → is_wait c ≡ false → false
      ≡ may r.script (machine r) (step.Read client)
  unfolding may
  read_other is other =
      let idle : idle_at r.script (machine r) client is_wait ≡ false = sym (idle_passes r client is_wait is) ∙ other in
      ap (λ x. x && (nat_lt 0 (length (unread_at (machine r).events client)) || (reserved_at (machine r).events client == 0))) (sym idle)

  pub read_absent : None ≡ idle_command_at r client → false ≡ may r.script (machine r) (step.Read client)
  unfolding may
  read_absent is = ap (λ x. x && (nat_lt 0 (length (unread_at (machine r).events client)) || (reserved_at (machine r).events client == 0)))
      (idle_passes r client is_wait is)

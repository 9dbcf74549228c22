-- What a client's command and what it does tell.
use Rattle.std.proofs.Common.{◌≡◌, ℕ, ◌≤◌, ◌<◌, Bool, true, false, List, length, Some, refl, ap, ◌∙◌, arith}
use Rattle.std.specs.Prelude.{◌&&◌, not}
use Rattle.kms_model.specs.declared.runs.Doing.{Doing}
use Rattle.kms_model.specs.declared.runs.Doing.TheVariants as doing
use Rattle.kms_model.specs.declared.runs.Place.{Place}
use Rattle.kms_model.specs.declared.scripts.Command.{Command}
use Rattle.kms_model.specs.declared.scripts.Script.{Script}
use Rattle.kms_model.specs.declared.replies.Step.{Step}
use Rattle.kms_model.specs.Device.Objects.{first_id, index_of, kind_of, object_id}
use Rattle.kms_model.specs.Machine.Histories.{at, is_history}
use Rattle.kms_model.specs.Machine.State.{Machine, doing_at, command_at, entry_at, place_at}
use Rattle.kms_model.specs.Machine.Steps.{idle_at, is_idle}
use Rattle.kms_model.specs.Script.WellFormed.{IsWellFormed}
use Rattle.kms_wwlock.specs.Standing.{Standing, IsClient, place_of, ticket_in}
use Rattle.kms_wwlock.specs.InStep.{AreClientsOf, HasNoContext}
use Rattle.kms_model.proofs.Guards.{idle_guards}
use Rattle.kms_laws.proofs.SmallNumbers.{numbers_fit}
use Rattle.kms_laws.proofs.Sizes.{command-there}
use Rattle.kms_core.specs.Run.{Run, machine}
use Rattle.kms_core.specs.Stands.{Stores, Stands}

pub idle_is : (d : Doing) → is_idle d ≡ true → d ≡ doing.Idle
idle_is doing.Idle e = refl
idle_is (doing.Taking t) e = absurd cc
idle_is (doing.MustBackOff t object) e = absurd cc
idle_is (doing.BackedOff t object) e = absurd cc
idle_is (doing.Returning k) e = absurd cc

-- a client that is idle at a command
pub record IdleAt (s : Script) (m : Machine) (client : ℕ) (test : Command → Bool) : Type 0 where
  pub idle : doing_at m client ≡ doing.Idle
  pub command : Command
  pub at : command_at s m client ≡ Some command
  pub passes : test command ≡ true

pub idle_parts : (s : Script) (m : Machine) (client : ℕ) (test : Command → Bool) → idle_at s m client test ≡ true → IdleAt s m client test
idle_parts s m client test e =
    let g = idle_guards s m client test e in
    record { idle = idle_is (doing_at m client) g.idle; command = g.command; at = g.stands; passes = g.passes }

-- a client that has a command is one of the script's
pub client_there : (s : Script) (m : Machine) (client : ℕ) (c : Command) → command_at s m client ≡ Some c → (1 ≤ client)
    × (client ≤ length s.clients)
client_there s m client c is = let there = command-there s (entry_at m client) c is in (there.low, omega (arith, there.high))

-- its number is one that clients can have
pub is_client : {s : Script} (client : ℕ) → IsWellFormed s → (1 ≤ client) × (client ≤ length s.clients) → IsClient client
is_client client formed there = (there.0, omega (arith, there.1, formed.few))

-- a client that may do a step where it is idle
pub record MayIdle (s : Script) (m : Machine) (client : ℕ) (st : Standing) : Type 0 where
  pub is_client : IsClient client
  pub idle : (place_of st client).doing ≡ doing.Idle
  pub command_fits : (place_of st client).command < 4294967295

-- its place in the store is the machine's
pub may_idle : {s : Script} (h : List Step) (client : ℕ) (test : Command → Bool) {st : Standing} → IsWellFormed s → is_history s h ≡ true
    → AreClientsOf (at s h).contexts st
    → idle_at s (at s h) client test ≡ true → MayIdle s (at s h) client st
may_idle {s} h client test formed history stands asked =
    let parts = idle_parts s (at s h) client test asked in
    let is = is_client client formed (client_there s (at s h) client parts.command parts.at) in
    let same = stands.places client is in
    let fit = (numbers_fit s h formed history).commands client in
    record {
      is_client = is;
      idle = ap (λ (p : Place). p.doing) same ∙ parts.idle;
      command_fits = omega
          (arith, fit, ap (λ (p : Place). p.command) same);
    }

-- a legal step of a history that was not ended
pub not_ended : (stalled may : Bool) → (not stalled && may) ≡ true → may ≡ true
not_ended true may e = absurd cc
not_ended false may e = e

-- what the store has of a client that is idle at a command which passes a test
pub record IsIdleAt (r : Run) (st : Stores) (client : ℕ) (test : Command → Bool) : Type 0 where
  pub low : 1 ≤ client
  pub high : client ≤ length r.script.clients
  pub is_client : IsClient client
  pub no_context : HasNoContext (place_of st.clients client).doing
  pub command_fits : (place_of st.clients client).command < 4294967295
  pub number : (place_of st.clients client).command ≡ (place_at (machine r) client).command
  pub command : Command
  pub at : command_at r.script (machine r) client ≡ Some command
  pub passes : test command ≡ true

pub idle_there : {r : Run} {st : Stores} (client : ℕ) (test : Command → Bool) → Stands r st → idle_at r.script (machine r) client test
    ≡ true → IsIdleAt r st client test
idle_there {r} {st} client test stands idle =
    let parts = idle_parts r.script (machine r) client test idle in
    let there = client_there r.script (machine r) client parts.command parts.at in
    let may = may_idle r.steps client test stands.formed stands.history stands.stores.clients idle in
    record {
      low = there.0;
      high = there.1;
      is_client = may.is_client;
      no_context = ap ticket_in may.idle;
      command_fits = may.command_fits;
      number = ap (λ (p : Place). p.command) (stands.stores.clients.places client may.is_client);
      command = parts.command;
      at = parts.at;
      passes = parts.passes;
    }

-- an object by its kind and its index
pub object_is : (id : ℕ) → first_id (kind_of id) ≤ id → object_id (kind_of id) (index_of id) ≡ id
object_is id low = omega arith

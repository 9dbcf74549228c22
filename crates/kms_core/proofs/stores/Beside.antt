-- Steps that leave parts of the machine as they are.
use Rattle.std.proofs.Common.{◌≡◌, ℕ, true, List, length, Option, Some, None, refl}
use Rattle.kms_model.specs.declared.replies.Answered.{Answered}
use Rattle.kms_model.specs.declared.scripts.Script.{Script}
use Rattle.kms_model.specs.declared.worlds.World.{World}
use Rattle.kms_model.specs.Machine.Effects.{goes_on, locked, relocked}
use Rattle.kms_model.specs.Machine.State.{Events, Machine, Records}
use Rattle.kms_wwlock.specs.InStep.{AreClientsOf}
use Rattle.kms_wwlock.specs.Standing.{Standing}
use Rattle.kms_signal.specs.FenceSets.{FenceSet, is_made}
use Rattle.kms_signal.specs.InStep.{AreFencesOf}
use Rattle.kms_signal.specs.Queues.{Queue}
use Rattle.kms_things.specs.Made.{Made}
use Rattle.kms_core.specs.Logs.{Logged}
use Rattle.kms_core.specs.Stands.{Stores, StandsAt, AreMadeFences, AreQueues, AreRecords, IsWorldOf}

-- all but the clients' contexts is as it was
pub record SameBeside (old new : Machine) : Type 0 where
  pub device : new.device ≡ old.device
  pub records : new.records ≡ old.records
  pub events : new.events ≡ old.events
  pub stalled : new.stalled ≡ old.stalled

pub stands_beside : {s : Script} {old : Machine} (new : Machine) {st : Stores} (clients : Standing) → SameBeside old new
    → AreClientsOf new.contexts clients → StandsAt s old st → StandsAt s new (record st { clients = clients })
stands_beside new clients same now stands = record {
  clients = now;
  recorded = rw same.records stands.recorded;
  world = rw same.device stands.world;
  fences = rw same.device stands.fences;
  fenced = rw same.device stands.fenced;
  out_fenced = rw same.device stands.out_fenced;
  queues = rw same.events stands.queues;
  tracker = rw (same.device, same.records) stands.tracker;
  registers = rw same.device stands.registers;
  going = rw same.device stands.going;
  ended = rw same.stalled stands.ended;
}

pub same_locked : (m : Machine) (client object : ℕ) (holder : Option ℕ) → SameBeside m (locked m client object holder)
same_locked m client object None = record { device = refl; records = refl; events = refl; stalled = refl }
same_locked m client object (Some holder) = record { device = refl; records = refl; events = refl; stalled = refl }

pub same_relocked : (m : Machine) (client : ℕ) (object : Option ℕ) → SameBeside m (relocked m client object)
same_relocked m client None = record { device = refl; records = refl; events = refl; stalled = refl }
same_relocked m client (Some object) = record { device = refl; records = refl; events = refl; stalled = refl }

-- a client goes on, with other records, another world, other fences that are signalled and other events
abbrev pub moved : Machine → ℕ → Records → World → List ℕ → Events → Machine
moved m client records world signalled events = goes_on
    (record m { device = record m.device { world = world; signalled = signalled }; records = records; events = events }) client

pub stands_moved : {s : Script} {m : Machine} (client : ℕ) (records : Records) {world : World} {signalled : List ℕ} {events : Events}
    {st : Stores} {clients : Standing} (journal : Logged (ℕ × ℕ)) (replies : Logged Answered) (made : Made)
    {fences : FenceSet} {queues : List Queue} → records.latches ≡ m.records.latches → AreClientsOf (goes_on m client).contexts clients
    → AreRecords records journal.items replies.items st.latches.items → IsWorldOf s.topology world made st.present
    → AreFencesOf fences signalled → AreMadeFences world signalled fences
    → ((id : ℕ) → is_made st.fences id ≡ true → is_made fences id ≡ true) → AreQueues (length s.clients) events queues → StandsAt s m st
    → StandsAt s (moved m client records world signalled events)
    (record st { clients = clients; journal = journal; replies = replies; made = made; fences = fences; queues = queues })
stands_moved client records {world} {clients} journal replies made {fences} {queues} latches clients_stand recorded is_world fences_stand
    fenced kept queues_stand stands = record {
      clients = clients_stand;
      recorded = recorded;
      world = is_world;
      fences = fences_stand;
      fenced = fenced;
      out_fenced = λ k index id low few is. kept id (stands.out_fenced k index id low few is);
      queues = queues_stand;
      tracker = rw latches stands.tracker;
      registers = stands.registers;
      going = record { size = stands.going.size; go = stands.going.go };
      ended = stands.ended;
    }

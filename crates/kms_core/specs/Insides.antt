-- What the fields of the stores are seen as: a script with a history, and the stores that stand for its machine.
use Rattle.kms_core.specs.declared.stores.Stores.TheInside.{Inside}
use Rattle.kms_core.specs.Run.{Run}
use Rattle.kms_core.specs.Stands.{StandsWithSpare, Stores}

abbrev pub run_in : Inside → Run
run_in c = record { script = c.script; steps = c.steps.items }

abbrev pub stores_of : Inside → Stores
stores_of c = record {
  clients = c.clients;
  journal = c.journal;
  replies = c.replies;
  latches = c.latches;
  made = c.things;
  present = c.present;
  fences = c.fences;
  queues = c.queues.items;
  tracker = c.tracker;
  registers = c.registers;
  goes = c.goes;
  stalled = c.stalled;
  freed = c.freed;
}

-- they stand, with memory for what the tails of commits have left
abbrev pub AreStanding : Inside → Type 0
AreStanding c = StandsWithSpare (run_in c) (stores_of c) c.steps.room

-- Before the first step every store stands.
use Rattle.std.proofs.Common.{◌≡◌, ◌-◌, List, [], replicate, length, None, false, refl, sym, ap, ◌∙◌, arith}
use Rattle.std.proofs.lemmas.Bool.{false≢true}
use Rattle.std.proofs.lemmas.List.{get_or-replicate, length-replicate}
use Rattle.kms_model.specs.declared.scripts.Script.{Script}
use Rattle.kms_model.specs.declared.states.Duplicates.{Duplicates}
use Rattle.kms_model.specs.Device.World.{start}
use Rattle.kms_model.specs.Machine.Framebuffers.{freed_from}
use Rattle.kms_model.specs.Machine.Histories.{run_steps, are_legal}
use Rattle.kms_model.specs.Machine.Registers.{read}
use Rattle.kms_model.specs.Machine.State.{first_machine}
use Rattle.kms_model.specs.Script.WellFormed.{IsWellFormed}
use Rattle.kms_wwlock.specs.InStep.{AreClientsOf}
use Rattle.kms_wwlock.specs.Standing.{Standing}
use Rattle.kms_regs.specs.File.{RegisterFile, StandsForDevice}
use Rattle.kms_signal.proofs.InStepLemmas.{no_fences, no_events}
use Rattle.kms_signal.specs.Queues.{Queue, empty_queue}
use Rattle.kms_track.proofs.SettingUp.{first_stands}
use Rattle.kms_things.specs.Present.{IsPresent}
use Rattle.kms_track.specs.Tracking.{no_tracking}
use Rattle.kms_core.specs.Stands.{HasSpare, Stands, Stores}

-- the stores before the first step, but for those whose making says that they stand
abbrev pub first_stores : Standing → Duplicates → List Queue → RegisterFile → Stores
first_stores clients present queues registers = record {
  clients = clients;
  journal = record { items = []; room = 0 };
  replies = record { items = []; room = 0 };
  latches = record { items = []; room = 0 };
  made = record { things = []; next_id = 1000; fbs = [] };
  present = present;
  fences = record { slots = []; room = 0 };
  queues = queues;
  tracker = no_tracking;
  registers = registers;
  goes = replicate 4 None;
  stalled = false;
  freed = record { items = []; places = 0; room = 0 };
}

pub stands_first : {s : Script} {clients : Standing} {present : Duplicates} {queues : List Queue} (registers : RegisterFile)
    → IsWellFormed s
    → AreClientsOf (first_machine s.topology).contexts clients → IsPresent s.topology (start s.topology) present → queues
    ≡ replicate (length s.clients) empty_queue → StandsForDevice s.topology (first_machine s.topology).device registers
    → Stands (record { script = s; steps = [] }) (first_stores clients present queues registers)
unfolding read run_steps are_legal freed_from
stands_first {s} {clients} {queues} registers formed clients_stand present_stand queues_are registers_stand = record {
  formed = formed;
  history = refl;
  stores = record {
    clients = clients_stand;
    recorded = record { accepted = refl; answered = refl; latched = refl };
    world = record { things = refl; next_id = refl; states = present_stand };
    fences = no_fences 0;
    fenced = record { made = tt; made_before = λ id signalled. absurd (false≢true signalled); below = tt };
    out_fenced = λ k index id low few is. absurd (omega (arith, low));
    queues = record {
      size = ap length queues_are ∙ length-replicate (length s.clients) empty_queue;
      queue = λ client low high. rw (queues_are, get_or-replicate (length s.clients) (client - 1) empty_queue empty_queue (omega arith))
          (no_events client);
    };
    tracker = first_stands s.topology;
    registers = registers_stand;
    going = record { size = refl; go = λ index low. sym (get_or-replicate 4 index None None low) };
    ended = refl;
  };
  freed = record { items = refl; places = omega arith };
  stored = λ id. refl;
}

-- no tail has anything left
pub spared_first : (s : Script) → HasSpare (record { script = s; steps = [] }) 0 0
unfolding run_steps
spared_first s = record { steps = omega arith; latches = omega arith }

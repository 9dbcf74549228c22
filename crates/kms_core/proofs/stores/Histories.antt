-- A history that goes on by a step.
use Rattle.std.proofs.Common.{◌≡◌, ℕ, Bool, true, false, List, [], ◌∷◌, ◌++◌, ap, ◌∙◌, arith, subst, sym}
use Rattle.kms_model.specs.declared.replies.Answered.{Answered}
use Rattle.kms_model.specs.declared.replies.Step.{Step}
use Rattle.kms_model.specs.declared.runs.Latch.{Latch}
use Rattle.kms_model.specs.declared.scripts.Script.{Script}
use Rattle.kms_model.specs.declared.things.Framebuffer.{Framebuffer}
use Rattle.kms_model.specs.declared.tables.Slot.{Slot}
use Rattle.kms_model.specs.Machine.Effects.{next}
use Rattle.kms_model.specs.Machine.Histories.{are_legal, at, is_history, legal, run_steps}
use Rattle.kms_model.specs.Machine.Registers.{Registers}
use Rattle.kms_model.specs.Machine.State.{Contexts, Machine, Marks, first_machine}
use Rattle.kms_wwlock.specs.InStep.{AreClientsOf}
use Rattle.kms_wwlock.specs.Standing.{Standing}
use Rattle.kms_model.proofs.Guards.{legal_parts}
use Rattle.kms_laws.proofs.Modes.{plain-from}
use Rattle.kms_laws.proofs.Turning.{run-more, legal-more}
use Rattle.kms_core.specs.Freeing.{AreFreed, may_free}
use Rattle.kms_core.specs.Logs.{Logged, Reserved}
use Rattle.kms_regs.specs.File.{RegisterFile, StandsForDevice}
use Rattle.kms_track.specs.InStep.{IsTrackerOf}
use Rattle.kms_track.specs.Tracking.{Tracking}
use Rattle.kms_core.specs.Run.{Run, gains, machine}
use Rattle.kms_core.specs.Stands.{AreRecords, Stores, StandsAt, Stands, StandsWithSpare}
use Rattle.kms_core.specs.Stored.{AreStored}
use Rattle.kms_core.proofs.freeing.FreedHistories.{kind_quiet, quiet_freed, quiet_needs}
use Rattle.kms_core.proofs.freeing.FreedSteps.{IsQuiet, SameNeeds}
use Rattle.kms_core.proofs.freeing.StoredSteps.{quiet_stored}

-- a run that is seen is that of the stores, and they stand for it
pub seen : {r v : Run} {st : Stores} {room : ℕ} → StandsWithSpare r st room → r ≡ v → StandsWithSpare v st room
seen {st = st} {room = room} holds same = subst (λ (w : Run). StandsWithSpare w st room) same holds

-- and their history is that run's, with the steps that it gained
pub gained : {r v : Run} {before steps : List Step} (more : List Step) → r ≡ v → before ≡ r.steps → steps ≡ before ++ more
    → record { script = r.script; steps = steps } ≡ gains v more
gained {r} more same is now =
    ap (λ (h : List Step). let w : Run = record { script = r.script; steps = h } in w) (now ∙ ap (λ (h : List Step). h ++ more) is)
    ∙ ap (λ (w : Run). gains w more) same

-- the stores stand where they stand for the machine after the step, for what is freed then, and for what is stored
pub goes_freeing : {r w : Run} {old new : Stores} (step : Step) → Stands r old → w ≡ gains r (step ∷ [])
    → legal r.script (machine r) step ≡ true → StandsAt r.script (next r.script (machine r) step) new
    → AreFreed r.script (r.steps ++ step ∷ []) new.freed → AreStored r.script.topology (next r.script (machine r) step) new.made.fbs
    → Stands w new
goes_freeing {r} {new = new} step stands more is_legal after freed stored = subst (λ (w : Run). Stands w new) (sym more) (record {
  formed = stands.formed;
  history = legal-more r.script (first_machine r.script.topology) r.steps step stands.history is_legal;
  stores = rw (run-more r.script (first_machine r.script.topology) r.steps step) after;
  freed = freed;
  stored = rw (run-more r.script (first_machine r.script.topology) r.steps step) stored;
})

legal_then : (s : Script) (m : Machine) (h : List Step) (step : Step) → are_legal s m (h ++ step ∷ []) ≡ true
    → legal s (run_steps s m h) step ≡ true
unfolding run_steps are_legal
legal_then s m [] step all = (legal_parts s m step [] all).first
legal_then s m (first ∷ h) step all = legal_then s (next s m first) h step (legal_parts s m first (h ++ step ∷ []) all).rest

-- the last step of a history was legal
pub legal_last : (s : Script) (h steps : List Step) (step : Step) → steps ≡ h ++ step ∷ [] → is_history s steps ≡ true
    → legal s (at s h) step ≡ true
legal_last s h steps step is all = legal_then s (first_machine s.topology) h step (rw is at all)

-- the same of a step that frees nothing
goes_quiet : {r w : Run} {old new : Stores} (step : Step) → IsQuiet r.script.topology (machine r) (next r.script (machine r) step)
    → new.freed ≡ old.freed → new.made.fbs ≡ old.made.fbs → Stands r old → w ≡ gains r (step ∷ [])
    → legal r.script (machine r) step ≡ true → StandsAt r.script (next r.script (machine r) step) new → Stands w new
goes_quiet {r} {old = old} {new = new} step quiet same same_fbs stands more is_legal after =
    goes_freeing step stands more is_legal after
    (quiet_freed r.script r.steps step (plain-from r.script stands.formed) stands.history is_legal old.freed new.freed stands.freed
    (ap (λ (v : Reserved (ℕ × ℕ)). v.items) same)
    (let places = ap (λ (v : Reserved (ℕ × ℕ)). v.places) same in omega (arith, places)) quiet)
    (subst (AreStored r.script.topology (next r.script (machine r) step)) (sym same_fbs)
    (quiet_stored r.script.topology (machine r) (next r.script (machine r) step) old.made.fbs quiet stands.stored))

-- by its kind
pub goes_on : {r w : Run} {old new : Stores} (step : Step) → may_free step ≡ false → new.freed ≡ old.freed
    → new.made.fbs ≡ old.made.fbs → Stands r old → w ≡ gains r (step ∷ []) → legal r.script (machine r) step ≡ true
    → StandsAt r.script (next r.script (machine r) step) new → Stands w new
goes_on {r} step quiet same same_fbs stands more is_legal after =
    goes_quiet step (kind_quiet r.script r.steps step (plain-from r.script stands.formed) stands.history is_legal quiet) same same_fbs
    stands more is_legal after

-- and of one that changes nothing that tells what is needed
pub goes_same : {r w : Run} {old new : Stores} (step : Step) → SameNeeds (machine r) (next r.script (machine r) step)
    → new.freed ≡ old.freed → new.made.fbs ≡ old.made.fbs → Stands r old → w ≡ gains r (step ∷ [])
    → legal r.script (machine r) step ≡ true
    → StandsAt r.script (next r.script (machine r) step) new → Stands w new
goes_same {r} step needs same same_fbs stands more is_legal after =
    goes_quiet step (quiet_needs r.script r.steps step (plain-from r.script stands.formed) stands.history is_legal needs) same same_fbs
    stands more is_legal after

-- stores that stand do so where clients, answers, what was freed and the end are told anew, and latches have other memory
pub told_anew : {s : Script} {m : Machine} {st : Stores} {contexts : Contexts} (replies : List Answered) (ended : Bool) {clients : Standing}
    (answers : Logged Answered) (shown : Logged Latch) (freed : Reserved (ℕ × ℕ)) (stalled : Bool)
    → AreClientsOf contexts clients → AreRecords (record m.records { replies = replies }) st.journal.items answers.items shown.items → ended
    ≡ stalled → StandsAt s m st
    → StandsAt s (record m { contexts = contexts; records = record m.records { replies = replies }; stalled = ended })
    (record st { clients = clients; replies = answers; latches = shown; freed = freed; stalled = stalled })
told_anew replies ended {clients} answers shown freed stalled in_step recorded is_ended stands = record {
  clients = in_step;
  recorded = recorded;
  world = stands.world;
  fences = stands.fences;
  fenced = stands.fenced;
  out_fenced = stands.out_fenced;
  queues = stands.queues;
  tracker = stands.tracker;
  registers = stands.registers;
  going = stands.going;
  ended = is_ended;
}

-- stores that stand do so with any framebuffers that were freed
pub with_freed : {s : Script} {m : Machine} {st : Stores} (freed : Reserved (ℕ × ℕ)) → StandsAt s m st
    → StandsAt s m (record st { freed = freed })
with_freed {s} {m} {st} freed stands =
    told_anew m.records.replies m.stalled st.replies st.latches freed st.stalled stands.clients stands.recorded
    stands.ended stands

-- and with any references
pub with_fbs : {s : Script} {m : Machine} {st : Stores} (fbs : List (Slot Framebuffer)) → StandsAt s m st
    → StandsAt s m (record st { made = record st.made { fbs = fbs } })
with_fbs fbs stands = record {
  clients = stands.clients;
  recorded = stands.recorded;
  world = record { things = stands.world.things; next_id = stands.world.next_id; states = stands.world.states };
  fences = stands.fences;
  fenced = stands.fenced;
  out_fenced = stands.out_fenced;
  queues = stands.queues;
  tracker = stands.tracker;
  registers = stands.registers;
  going = stands.going;
  ended = stands.ended;
}

-- and where marks, shadow words and what follows these are told anew
pub written_anew : {s : Script} {m : Machine} (shadow : Registers) (marks : Marks) {st : Stores} (tracker : Tracking) (new : RegisterFile)
    → StandsForDevice s.topology (record m.device { shadow = shadow; marks = marks }) new
    → IsTrackerOf s.topology m.device.commits marks m.records.latches tracker → StandsAt s m st
    → StandsAt s (record m { device = record m.device { shadow = shadow; marks = marks } })
    (record st { tracker = tracker; registers = new })
written_anew shadow marks tracker new written tracked stands = record {
  clients = stands.clients;
  recorded = stands.recorded;
  world = stands.world;
  fences = stands.fences;
  fenced = stands.fenced;
  out_fenced = stands.out_fenced;
  queues = stands.queues;
  tracker = tracked;
  registers = written;
  going = record { size = stands.going.size; go = stands.going.go };
  ended = stands.ended;
}

-- what is freed stands for steps that are the same, with other room
pub same_freed : (s : Script) (h steps : List Step) (old new : Reserved (ℕ × ℕ)) → steps ≡ h → new.items ≡ old.items → new.places
    ≡ old.places → AreFreed s h old → AreFreed s steps new
same_freed s h steps old new is items places freed = rw is
    (record { items = items ∙ freed.items; places = (let few = freed.places in omega (arith, few, places)) })

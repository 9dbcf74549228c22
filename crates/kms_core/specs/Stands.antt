-- How the stores of a core stand for its machine: one part for each store.
use Rattle.std.specs.Prelude.{ℕ, ◌≡◌, ◌≤◌, ◌<◌, ◌-◌, Bool, true, false, List, length, map, reverse, Option, Some, None, slice_index_or}
use Rattle.std.specs.List.{AllByRecursion}
use Rattle.kms_model.specs.declared.objects.Kind.TheVariants.{Crtc}
use Rattle.kms_model.specs.declared.objects.Topology.{Topology}
use Rattle.kms_model.specs.declared.replies.Answered.{Answered}
use Rattle.kms_model.specs.declared.runs.Latch.{Latch}
use Rattle.kms_model.specs.declared.scripts.Script.{Script}
use Rattle.kms_model.specs.declared.states.Duplicates.{Duplicates}
use Rattle.kms_model.specs.declared.worlds.Content.{Content}
use Rattle.kms_model.specs.declared.worlds.Content.TheVariants as content
use Rattle.kms_model.specs.declared.worlds.Thing.{Thing}
use Rattle.kms_model.specs.declared.worlds.World.{World}
use Rattle.kms_model.specs.Device.Objects.{object_id}
use Rattle.kms_model.specs.Device.Serial.{Entry}
use Rattle.kms_model.specs.Machine.Commits.{has_number, out_fence_of}
use Rattle.kms_model.specs.Machine.Histories.{is_history}
use Rattle.kms_model.specs.Machine.State.{Commit, Machine, DeviceState, Records, Events, go_at}
use Rattle.kms_model.specs.Script.WellFormed.{IsWellFormed}
use Rattle.kms_model.specs.Things.Tables.{AreBelow}
use Rattle.kms_wwlock.specs.InStep.{AreClientsOf}
use Rattle.kms_wwlock.specs.Standing.{Standing}
use Rattle.kms_laws.specs.TailsLeft.{all_left}
use Rattle.kms_regs.specs.File.{RegisterFile, StandsForDevice}
use Rattle.kms_signal.specs.FenceSets.{FenceSet, is_made}
use Rattle.kms_signal.specs.InStep.{AreFencesOf, IsQueueOf}
use Rattle.kms_signal.specs.Queues.{Queue, empty_queue}
use Rattle.kms_things.specs.Made.{Made}
use Rattle.kms_things.specs.Present.{IsPresent}
use Rattle.kms_track.specs.InStep.{IsTrackerOf}
use Rattle.kms_track.specs.Tracking.{Tracking}
use Rattle.kms_core.specs.Freeing.{AreFreed}
use Rattle.kms_core.specs.Stored.{AreStored}
use Rattle.kms_core.specs.Logs.{Reserved}
use Rattle.kms_core.specs.Logs.{Logged}
use Rattle.kms_core.specs.Run.{Run, machine}

-- the stores of a core
pub record Stores : Type 0 where
  pub clients : Standing
  pub journal : Logged (ℕ × ℕ)
  pub replies : Logged Answered
  pub latches : Logged Latch
  pub made : Made
  pub present : Duplicates
  pub fences : FenceSet
  pub queues : List Queue
  pub tracker : Tracking
  pub registers : RegisterFile
  -- the commit that a CRTC latches at its next vblank, by index
  pub goes : List (Option ℕ)
  pub stalled : Bool
  pub freed : Reserved (ℕ × ℕ)

-- Parts

-- an accepted command by its client and its number
abbrev pub entry_pair : Entry → ℕ × ℕ
entry_pair e = (e.client, e.command)

-- what was recorded, the oldest first
pub record AreRecords (r : Records) (journal : List (ℕ × ℕ)) (replies : List Answered) (latches : List Latch) : Type 0 where
  pub accepted : journal ≡ map entry_pair (reverse r.journal)
  pub answered : replies ≡ reverse r.replies
  pub latched : latches ≡ reverse r.latches

-- the things of a world are those that were made, and the present states are those of its values
pub record IsWorldOf (t : Topology) (w : World) (made : Made) (present : Duplicates) : Type 0 where
  pub things : w.things ≡ made.things
  pub next_id : w.next_id ≡ made.next_id
  pub states : IsPresent t w present

-- a thing that is a fence
abbrev pub is_fence : Content → Bool
is_fence content.Fence = true
is_fence content.OutFence = true
is_fence (content.Buffer width height format pattern) = false
is_fence (content.Framebuffer info buffer) = false
is_fence (content.Mode m) = false
is_fence (content.Blob bytes) = false

-- a thing that is a fence is one of those that were made
abbrev pub IsMadeFence : FenceSet → Thing → Type 0
IsMadeFence fences thing = is_fence thing.content ≡ true → is_made fences thing.id ≡ true

-- the fences among a world's things were made, and those that are signalled; the next thing has an id above theirs
pub record AreMadeFences (w : World) (signalled : List ℕ) (fences : FenceSet) : Type 0 where
  pub made : AllByRecursion (IsMadeFence fences) w.things
  pub made_before : (id : ℕ) → has_number signalled id ≡ true → is_made fences id ≡ true
  pub below : AreBelow w.next_id fences.slots

-- the out-fences of commits were made
abbrev pub AreOutFencesMade : Topology → List Commit → FenceSet → Type 0
AreOutFencesMade t commits fences =
    (k index id : ℕ) → k < length commits → index < 4 → out_fence_of t commits k (object_id Crtc index) ≡ Some id
    → is_made fences id ≡ true

-- each client of a script has a queue of its events
abbrev pub queue_of : List Queue → ℕ → Queue
queue_of queues client = slice_index_or queues (client - 1) empty_queue

pub record AreQueues (clients : ℕ) (events : Events) (queues : List Queue) : Type 0 where
  pub size : length queues ≡ clients
  pub queue : (client : ℕ) → 1 ≤ client → client ≤ clients → IsQueueOf (queue_of queues client) events client

-- the commits that have GO
pub record AreGoing (d : DeviceState) (goes : List (Option ℕ)) : Type 0 where
  pub size : length goes ≡ 4
  pub go : (index : ℕ) → index < 4 → go_at d (object_id Crtc index) ≡ slice_index_or goes index None

-- All parts

-- each store stands for its part of a machine
pub record StandsAt (s : Script) (m : Machine) (st : Stores) : Type 0 where
  pub clients : AreClientsOf m.contexts st.clients
  pub recorded : AreRecords m.records st.journal.items st.replies.items st.latches.items
  pub world : IsWorldOf s.topology m.device.world st.made st.present
  pub fences : AreFencesOf st.fences m.device.signalled
  pub fenced : AreMadeFences m.device.world m.device.signalled st.fences
  pub out_fenced : AreOutFencesMade s.topology m.device.commits st.fences
  pub queues : AreQueues (length s.clients) m.events st.queues
  pub tracker : IsTrackerOf s.topology m.device.commits m.device.marks m.records.latches st.tracker
  pub registers : StandsForDevice s.topology m.device st.registers
  pub going : AreGoing m.device st.goes
  pub ended : m.stalled ≡ st.stalled

-- the script is well formed, the steps are a history of it, and the stores stand for the machine after them and
-- for what they freed; what is needed is stored
pub record Stands (r : Run) (st : Stores) : Type 0 where
  pub formed : IsWellFormed r.script
  pub history : is_history r.script r.steps ≡ true
  pub stores : StandsAt r.script (machine r) st
  pub freed : AreFreed r.script r.steps st.freed
  pub stored : AreStored r.script.topology (machine r) st.made.fbs

-- memory was taken for so many further steps and latches, as many as the tails of all commits have left
pub record HasSpare (r : Run) (room shown : ℕ) : Type 0 where
  pub steps : all_left r.script.topology (machine r) ≤ room
  pub latches : all_left r.script.topology (machine r) ≤ shown

-- the stores stand, with memory for so many further steps
pub record StandsWithSpare (r : Run) (st : Stores) (room : ℕ) : Type 0 where
  pub stands : Stands r st
  pub spare : HasSpare r room st.latches.room

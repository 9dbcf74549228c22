-- What holds of every history besides the headline: each promise by its name.
use Rattle.std.specs.Prelude.{◌≡◌, ◌≢◌, ℕ, nat_eq, ◌<◌, ◌==◌, ◌&&◌, not, true, false, List, [], ◌∷◌, ◌++◌, length, map, filter, find}
use Rattle.std.specs.Prelude.{reverse, ◌%◌, ◌^◌, Option, Some, None, ◌↔◌, if◌then◌else◌}
use Rattle.std.specs.List.{All, IsDistinct, flat_map, filter_map}
use Rattle.kms_model.specs.declared.objects.Kind.TheVariants.{Crtc, Plane, Conn}
use Rattle.kms_model.specs.declared.objects.Topology.{Topology}
use Rattle.kms_model.specs.declared.pictures.Picture.{Picture}
use Rattle.kms_model.specs.declared.replies.Event.{Event}
use Rattle.kms_model.specs.declared.replies.Reply.TheVariants as reply
use Rattle.kms_model.specs.declared.replies.Step.{Step}
use Rattle.kms_model.specs.declared.replies.Step.TheVariants.{Begin, Lock, BackOff, Relock, Refuse, Test, Swap, Make, Signal, Read, Return}
use Rattle.kms_model.specs.declared.runs.Latch.{Latch}
use Rattle.kms_model.specs.declared.scripts.Request.{Request}
use Rattle.kms_model.specs.declared.scripts.Script.{Script}
use Rattle.kms_model.specs.declared.worlds.Thing.{Thing}
use Rattle.kms_model.specs.declared.worlds.World.{World}
use Rattle.kms_model.specs.Device.Execution.{is_framebuffer}
use Rattle.kms_model.specs.Device.Objects.{object_id, ids_of, kind_of}
use Rattle.kms_model.specs.Device.States.{plane_at, crtc_at}
use Rattle.kms_model.specs.Device.World.{thing_with_id}
use Rattle.kms_model.specs.Frames.Pictures.{picture}
use Rattle.kms_model.specs.Request.Agreement.{crtc_state_at}
use Rattle.kms_model.specs.Request.Flags.{is_test, is_nonblock}
use Rattle.kms_model.specs.Request.Sets.{obj_id}
use Rattle.kms_model.specs.Request.Verdict.{verdict}
use Rattle.kms_model.specs.Machine.Commits.{asks_event, commit_at, commit_names, has_latched, is_claimed, is_cleaned, new_values, previous}
use Rattle.kms_model.specs.Machine.Commits.{waited_fences}
use Rattle.kms_model.specs.Machine.Effects.{decided, next, refusal_reply}
use Rattle.kms_model.specs.Machine.Framebuffers.{freed, freed_by_step, is_in_things, is_needed}
use Rattle.kms_model.specs.Machine.Histories.{at, commit_numbers, is_awaited, is_dead, is_history, last_latched, legal, stalled_on}
use Rattle.kms_model.specs.Machine.Registers.{decoded_picture}
use Rattle.kms_model.specs.Machine.State.{Commit, Machine, doing_at, holds, request_at, reserved_at, unread_at}
use Rattle.kms_model.specs.Machine.Steps.{first_pending, holds_touched, is_taking, lacks_space}
use Rattle.kms_model.specs.Machine.Waits.{WaitsAlong}
use Rattle.kms_model.specs.Script.WellFormed.{IsWellFormed}

-- a promise that ranges over every history of every script
abbrev pub InEachHistory : (Script → List Step → Type 0) → Type 0
InEachHistory Holds = (s : Script) (h : List Step) → IsWellFormed s → is_history s h ≡ true → Holds s h

-- a promise on each step that may follow a history
abbrev pub AtEachStep : (Script → Machine → Step → Type 0) → Type 0
AtEachStep Holds = InEachHistory (λ s h. (step : Step) → legal s (at s h) step ≡ true → Holds s (at s h) step)

-- The frame law

-- the client whose step it is, if any
abbrev pub client_of_step : Step → Option ℕ
client_of_step (Begin client) = Some client
client_of_step (Lock client kind index) = Some client
client_of_step (BackOff client) = Some client
client_of_step (Relock client) = Some client
client_of_step (Refuse client) = Some client
client_of_step (Test client) = Some client
client_of_step (Swap client) = Some client
client_of_step (Make client) = Some client
client_of_step (Signal client) = Some client
client_of_step (Read client) = Some client
client_of_step (Return client) = Some client
client_of_step _ = None

-- an object has the same present state in two worlds: a CRTC's sets of planes and connectors with it
pub record HasSameState (t : Topology) (w v : World) (object : ℕ) : Type 0 where
  pub plane : kind_of object ≡ Plane → plane_at v.things v.values object ≡ plane_at w.things w.values object
  pub connector : kind_of object ≡ Conn → crtc_at v.values object ≡ crtc_at w.values object
  pub crtc : kind_of object ≡ Crtc → crtc_state_at t v.things v.values object ≡ crtc_state_at t w.things w.values object

-- While a client holds an object's lock, no step but its own changes the object's present state.
abbrev pub FrameLaw : Type 0
FrameLaw = AtEachStep (λ s m step. (client object : ℕ) → holds m client object ≡ true → client_of_step step ≢ Some client
    → HasSameState s.topology m.device.world (next s m step).device.world object)

-- Whole pictures

-- what a CRTC, by its index, shows in the values after a commit
abbrev pub picture_after : Topology → List Commit → ℕ → ℕ → Picture
picture_after t cs k crtc = picture t (commit_at t cs k).world.things (new_values (commit_at t cs k)) (object_id Crtc crtc)

-- The live picture of a CRTC is the last that it latched, and each that it latches is what it shows after that commit.
abbrev pub WholePictures : Type 0
WholePictures = InEachHistory (λ s h. (crtc : ℕ) → crtc < s.topology.crtcs →
    (decoded_picture s.topology (at s h).device.live (object_id Crtc crtc) ≡ last_latched (at s h).records.latches crtc)
    × All (λ l. l.picture ≡ picture_after s.topology (at s h).device.commits l.commit l.crtc) (at s h).records.latches)

-- Events once

-- the event of a latch, where its commit asks for one and is a client's
abbrev pub event_of_latch : Topology → List Commit → ℕ → Latch → Option Event
event_of_latch t cs client l =
    if asks_event t cs l.commit && ((commit_at t cs l.commit).client == client)
    then Some (record {
      user_data = (commit_at t cs l.commit).request.user_data;
      sequence = l.count % 2 ^ 32;
      crtc = object_id Crtc l.crtc;
    })
    else None

-- the events delivered to a client, one for each latch of its commits that ask for events, in order of time
abbrev pub delivered : Topology → Machine → ℕ → List Event
delivered t m client = filter_map (event_of_latch t m.device.commits client) (reverse m.records.latches)

-- the CRTCs that a commit of a client, if it asks for events, names and at which it has not latched
abbrev pub awaited_events : Topology → Machine → ℕ → ℕ → List ℕ
awaited_events t m client k =
    if asks_event t m.device.commits k && ((commit_at t m.device.commits k).client == client)
    then filter (λ crtc. commit_names t m.device.commits k crtc && not (has_latched m.records.latches k crtc)) (ids_of t Crtc)
    else []

abbrev pub events_of : Machine → ℕ → List Event
events_of m client = map (λ e. e.1) (filter (λ e. e.0 == client) (reverse m.events.events_read)) ++ unread_at m.events client

-- What a client has read, and then its unread events, are those delivered; one is reserved for each that is still to come.
abbrev pub EventsOnce : Type 0
EventsOnce = InEachHistory (λ s h. (client : ℕ) →
    (events_of (at s h) client ≡ delivered s.topology (at s h) client)
    × (reserved_at (at s h).events client ≡ length (flat_map (awaited_events s.topology (at s h) client) (commit_numbers (at s h)))))

-- Framebuffers

-- A framebuffer that is there and is not needed is never needed again: so it is freed once, by the step after which it is first
-- not needed.
abbrev pub FramebuffersOnce : Type 0
FramebuffersOnce = AtEachStep (λ s m step. All (λ thing. is_framebuffer thing.content ≡ true → is_needed s.topology m thing ≡ false
    → (later : Thing) → thing_with_id (next s m step).device.world.things thing.id ≡ Some later → is_needed s.topology (next s m step) later
    ≡ false) m.device.world.things)

-- What a history freed: no framebuffer twice, and each that was made where it is not needed. A step frees what is needed before
-- it and not after it.
pub record FreesEachOnce (s : Script) (h : List Step) : Type 0 where
  pub once : IsDistinct nat_eq (map (λ thing. thing.id) (freed s h))
  pub unneeded : All (λ thing. is_framebuffer thing.content ≡ true
      → is_in_things (freed s h) thing ≡ not (is_needed s.topology (at s h) thing)) (at s h).device.world.things
  pub first : (step : Step) → legal s (at s h) step ≡ true → freed s (h ++ step ∷ []) ≡ freed s h ++ freed_by_step s (at s h) step

abbrev pub FreedOnce : Type 0
FreedOnce = InEachHistory FreesEachOnce

-- Tests

-- A request that is tested changes nothing but its reply, its locks and its client's place.
abbrev pub TestChangesNothing : Type 0
TestChangesNothing = (s : Script) (m : Machine) (client : ℕ) →
    ((next s m (Test client)).device ≡ m.device) × ((next s m (Test client)).events ≡ m.events)
    × ((next s m (Test client)).records.journal ≡ m.records.journal) × ((next s m (Test client)).records.latches ≡ m.records.latches)
    × (next s m (Test client) ≡ decided m client reply.Tested)

-- Busy

-- when a request at which a client takes locks is answered busy, and for which object
pub record IsBusyFor (t : Topology) (m : Machine) (client : ℕ) (r : Request) (object : ℕ) : Type 0 where
  pub held : holds_touched t m client r ≡ true
  pub accepted : verdict t m.device.world r ≡ None
  pub no_test : is_test r.flags ≡ false
  pub space : lacks_space t m client r ≡ false
  pub nonblock : is_nonblock r.flags ≡ true
  pub first : first_pending t m r ≡ Some object

-- A client that takes locks for a request may be answered busy, with an object and a commit, exactly where it is busy for that
-- object, and that commit is the last that touched it.
abbrev pub CauseOfBusy : Type 0
CauseOfBusy = InEachHistory (λ s h. (client : ℕ) (r : Request) (object k : ℕ) → request_at s (at s h) client ≡ Some r
    → is_taking (doing_at (at s h) client) ≡ true
    → ((legal s (at s h) (Refuse client) ≡ true)
    × (refusal_reply s.topology (at s h) client r (verdict s.topology (at s h).device.world r) ≡ reply.Busy (obj_id object) k))
    ↔ (IsBusyFor s.topology (at s h) client r object
    × (previous s.topology (at s h).device.commits (length (at s h).device.commits) object ≡ Some k)))

-- Waits

-- No client waits, along a chain, for itself.
abbrev pub NoCycleOfWaits : Type 0
NoCycleOfWaits = InEachHistory (λ s h. (client : ℕ) → WaitsAlong s (at s h) client client → ⊥)

-- Dead histories

-- A commit is the least that is not cleaned; it is not claimed, and waits for a fence that a `fence` command made and that is
-- not signalled.
pub record WaitsForFence (s : Script) (m : Machine) (label : ℕ) : Type 0 where
  pub commit : ℕ
  pub there : commit < length m.device.commits
  pub not_cleaned : is_cleaned m.device commit ≡ false
  pub least : (k : ℕ) → k < commit → is_cleaned m.device k ≡ true
  pub not_claimed : is_claimed m.device commit ≡ false
  pub fence : ℕ
  pub awaited : find (is_awaited m) (waited_fences s.topology m.device.commits commit) ≡ Some fence
  pub thing : Thing
  pub is_thing : thing_with_id m.device.world.things fence ≡ Some thing
  pub has_label : thing.label ≡ label

-- A dead history names such a fence.
abbrev pub DeadNamesAFence : Type 0
DeadNamesAFence = InEachHistory (λ s h. is_dead s (at s h) ≡ true → (label : ℕ) × (stalled_on s (at s h) ≡ Some label)
    × WaitsForFence s (at s h) label)

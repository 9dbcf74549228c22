-- What holds of the history of a core, and of the machine after it: the laws of the machine, each as a promise on a run. From: as
-- for the laws of `kms_laws`.
use Rattle.std.specs.Prelude.{◌≡◌, ◌≢◌, ◌<◌, ◌⊎◌, ◌↔◌, ℕ, List, length, Some, true, flat_map}
use Rattle.std.specs.List.{All, list_all}
use Rattle.kms_model.specs.declared.objects.Kind.TheVariants.{Crtc}
use Rattle.kms_model.specs.declared.replies.Reply.TheVariants as reply
use Rattle.kms_model.specs.declared.replies.Step.{Step}
use Rattle.kms_model.specs.declared.replies.Step.TheVariants.{Refuse, Test}
use Rattle.kms_model.specs.declared.scripts.Request.{Request}
use Rattle.kms_model.specs.declared.sets.Resolved.{Resolved}
use Rattle.kms_model.specs.declared.states.Duplicates.{Duplicates}
use Rattle.kms_model.specs.Device.Objects.{object_id}
use Rattle.kms_model.specs.Headline.{history_journal, latched_pictures, shown_pictures}
use Rattle.kms_model.specs.Machine.Commits.{is_cleaned, previous}
use Rattle.kms_model.specs.Machine.Effects.{decided, next, refusal_reply}
use Rattle.kms_model.specs.Machine.Histories.{are_legal, commit_numbers, is_dead, is_drained, last_latched, legal, run_steps, stalled_on}
use Rattle.kms_model.specs.Machine.Registers.{decoded_picture}
use Rattle.kms_model.specs.Machine.State.{doing_at, holds, request_at, reserved_at}
use Rattle.kms_model.specs.Machine.Steps.{is_taking}
use Rattle.kms_model.specs.Machine.Waits.{WaitsAlong}
use Rattle.kms_model.specs.Promises.{HasSameState, IsBusyFor, WaitsForFence, awaited_events, client_of_step, delivered, events_of}
use Rattle.kms_model.specs.Promises.{picture_after}
use Rattle.kms_model.specs.Request.Agreement.{AgreesOld}
use Rattle.kms_model.specs.Request.Lookups.{look_up}
use Rattle.kms_model.specs.Request.Resolves.{IsResolved}
use Rattle.kms_model.specs.Request.Sets.{obj_id}
use Rattle.kms_model.specs.Request.Verdict.{verdict}
use Rattle.kms_laws.specs.Laws.{AsksWithinReach, StaysFree, TellsFence, can_move}
use Rattle.kms_core.specs.Run.{Run, machine}

-- the live picture of a CRTC is the last that it latched
abbrev pub ShowsTheLast : Run → Type 0
ShowsTheLast r = (crtc : ℕ) → crtc < r.script.topology.crtcs
    → decoded_picture r.script.topology (machine r).device.live (object_id Crtc crtc) ≡ last_latched (machine r).records.latches crtc

-- each picture latched is what its CRTC shows in the values after its commit
abbrev pub LatchesWhole : Run → Type 0
LatchesWhole r = All (λ l. l.picture ≡ picture_after r.script.topology (machine r).device.commits l.commit l.crtc)
    (machine r).records.latches

-- what a client read, and then its unread events, are those delivered
abbrev pub DeliversOnce : Run → Type 0
DeliversOnce r = (client : ℕ) → events_of (machine r) client ≡ delivered r.script.topology (machine r) client

-- one event is reserved for each that is still to come
abbrev pub ReservesEach : Run → Type 0
ReservesEach r = (client : ℕ) → reserved_at (machine r).events client
    ≡ length (flat_map (awaited_events r.script.topology (machine r) client) (commit_numbers (machine r)))

-- a framebuffer that is not needed is not needed after any further steps
abbrev pub FreesOnce : Run → Type 0
FreesOnce r = (steps : List Step) → are_legal r.script (machine r) steps ≡ true
    → All (StaysFree r.script (machine r) (run_steps r.script (machine r) steps)) (machine r).device.world.things

-- a test only answers, drops its locks and goes on
abbrev pub TestsAlone : Run → Type 0
TestsAlone r = (client : ℕ) → next r.script (machine r) (Test client) ≡ decided (machine r) client reply.Tested

-- a request may be answered busy exactly where it is, for the object and the commit that hold it back
abbrev pub IsBusyWithCause : Run → Type 0
IsBusyWithCause r =
    (client : ℕ) (q : Request) (object k : ℕ) → request_at r.script (machine r) client ≡ Some q → is_taking (doing_at (machine r) client)
    ≡ true
    → ((legal r.script (machine r) (Refuse client) ≡ true)
    × (refusal_reply r.script.topology (machine r) client q (verdict r.script.topology (machine r).device.world q)
    ≡ reply.Busy (obj_id object) k))
    ↔ (IsBusyFor r.script.topology (machine r) client q object
    × (previous r.script.topology (machine r).device.commits (length (machine r).device.commits) object ≡ Some k))

-- no client waits, along a chain, for itself
abbrev pub WaitsInNoCycle : Run → Type 0
WaitsInNoCycle r = (client : ℕ) → WaitsAlong r.script (machine r) client client → ⊥

-- while a client holds an object's lock, no step but its own changes the object's present state
abbrev pub FramesWhatIsHeld : Run → Type 0
FramesWhatIsHeld r =
    (step : Step) → legal r.script (machine r) step ≡ true → (client object : ℕ) → holds (machine r) client object ≡ true
    → client_of_step step ≢ Some client
    → HasSameState r.script.topology (machine r).device.world (next r.script (machine r) step).device.world object

-- it is drained, or a step may be done, or a commit waits for a fence whose label is told
abbrev pub CanGoOn : Run → Type 0
CanGoOn r = (is_drained r.script (machine r) ≡ true) ⊎ ((can_move r.script (machine r) ≡ true) ⊎ TellsFence r.script (machine r))

-- where it is dead, it tells the label of the fence that the least commit which is not cleaned waits for
abbrev pub NamesItsFence : Run → Type 0
NamesItsFence r = is_dead r.script (machine r) ≡ true → (label : ℕ) × (stalled_on r.script (machine r) ≡ Some label)
    × WaitsForFence r.script (machine r) label

-- where every commit is cleaned, each CRTC has latched all that the device of one thread shows for the journal
abbrev pub ShowsAllOnceCleaned : Run → Type 0
ShowsAllOnceCleaned r =
    list_all (is_cleaned (machine r).device) (commit_numbers (machine r)) ≡ true
    → (crtc : ℕ) → crtc < r.script.topology.crtcs → latched_pictures r.script r.steps crtc
    ≡ shown_pictures r.script (history_journal r.script r.steps) crtc

-- Where a request was resolved with what its labels named earlier, and states were duplicated after more steps, a check asks for
-- objects within the reach of the request then.
abbrev pub AsksWithinItsReach : Run → Type 0
AsksWithinItsReach r =
    (steps : List Step) → are_legal r.script (machine r) steps ≡ true → (q : Request) (resolved : Resolved) (d : Duplicates)
    → IsResolved r.script.topology (look_up (machine r).device.world) q resolved
    → AgreesOld r.script.topology (run_steps r.script (machine r) steps).device.world.things
    (run_steps r.script (machine r) steps).device.world.values d
    → AsksWithinReach r.script.topology (run_steps r.script (machine r) steps).device.world q resolved d

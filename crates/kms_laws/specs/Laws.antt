-- What the laws say beside the promises: the world of a machine, that histories go on, contexts, and look-ups that grew old.
use Rattle.std.specs.Prelude.{◌≡◌, ◌⊎◌, ◌<◌, ◌||◌, ℕ, Bool, true, false, List, length, Some}
use Rattle.std.specs.List.{All, list_all, list_any}
use Rattle.kms_model.specs.declared.replies.Step.{Step}
use Rattle.kms_model.specs.declared.objects.Topology.{Topology}
use Rattle.kms_model.specs.declared.runs.Doing.{Doing}
use Rattle.kms_model.specs.declared.runs.Doing.TheVariants as doing
use Rattle.kms_model.specs.declared.scripts.Request.{Request}
use Rattle.kms_model.specs.declared.scripts.Script.{Script}
use Rattle.kms_model.specs.declared.sets.Resolved.{Resolved}
use Rattle.kms_model.specs.declared.states.Duplicates.{Duplicates}
use Rattle.kms_model.specs.declared.worlds.World.{World}
use Rattle.kms_model.specs.Device.Serial.{serial}
use Rattle.kms_model.specs.Device.Sound.{IsLawful}
use Rattle.kms_model.specs.declared.worlds.Thing.{Thing}
use Rattle.kms_model.specs.Device.Execution.{is_framebuffer}
use Rattle.kms_model.specs.Device.World.{thing_with_id}
use Rattle.kms_model.specs.Headline.{history_journal, latched_pictures, shown_pictures}
use Rattle.kms_model.specs.Machine.Commits.{has_number, is_cleaned, lockable}
use Rattle.kms_model.specs.Machine.Framebuffers.{is_needed}
use Rattle.kms_model.specs.Machine.Histories.{are_legal, at, awaited_label, commit_numbers, is_drained, run_steps, steps_that_move}
use Rattle.kms_model.specs.Machine.State.{Machine, doing_at, holds}
use Rattle.kms_model.specs.Machine.Steps.{contended, is_taking, may, must_back_off, returning_of, ticket_of}
use Rattle.kms_model.specs.Promises.{InEachHistory, WaitsForFence}
use Rattle.kms_model.specs.Request.Agreement.{AgreesOld}
use Rattle.kms_model.specs.Request.Deciding.{IsOfRequest}
use Rattle.kms_model.specs.Request.Lookups.{look_up}
use Rattle.kms_model.specs.Request.Reach.{reaches}
use Rattle.kms_model.specs.Request.Resolves.{IsResolved}
use Rattle.kms_model.specs.Request.Touched.{touches}

-- The world of the machine is that of the device of one thread after the journal, and it is lawful.
pub record HasSerialWorld (s : Script) (h : List Step) : Type 0 where
  pub is_serial : serial s (history_journal s h) ≡ (at s h).device.world
  pub is_lawful : IsLawful s.topology (at s h).device.world

-- Where every commit is cleaned, each CRTC has latched all that the device of one thread shows for the journal, also where clients
-- have commands left.
abbrev pub AllShownOnceCleaned : Type 0
AllShownOnceCleaned = InEachHistory (λ s h. list_all (is_cleaned (at s h).device) (commit_numbers (at s h)) ≡ true
    → (crtc : ℕ) → crtc < s.topology.crtcs → latched_pictures s h crtc ≡ shown_pictures s (history_journal s h) crtc)

-- A framebuffer that is there and is not needed is not needed after any further steps either.
abbrev pub StaysFree : Script → Machine → Machine → Thing → Type 0
StaysFree s now later thing = is_framebuffer thing.content ≡ true → is_needed s.topology now thing ≡ false
    → (one : Thing) → thing_with_id later.device.world.things thing.id ≡ Some one → is_needed s.topology later one ≡ false

abbrev pub FramebuffersStayFree : Type 0
FramebuffersStayFree = InEachHistory (λ s h. (steps : List Step) → are_legal s (at s h) steps ≡ true
    → All (StaysFree s (at s h) (run_steps s (at s h) steps)) (at s h).device.world.things)

-- Ways on

-- a step of a client, of a tail or of a CRTC that has GO may be done
abbrev pub can_move : Script → Machine → Bool
can_move s m = list_any (may s m) (steps_that_move s m)

-- A commit waits for a fence of a `fence` command that is not signalled, and the label of that fence is the one that is told.
pub record TellsFence (s : Script) (m : Machine) : Type 0 where
  pub label : ℕ
  pub told : awaited_label s.topology m ≡ Some label
  pub waits : WaitsForFence s m label

-- A history is drained, or a step may be done in it, or a commit waits for a fence whose label is told.
abbrev pub HistoriesGoOn : Type 0
HistoriesGoOn = InEachHistory (λ s h. (is_drained s (at s h) ≡ true) ⊎ ((can_move s (at s h) ≡ true) ⊎ TellsFence s (at s h)))

-- Contexts

-- a client has a context
abbrev pub has_context : Doing → Bool
has_context (doing.Taking ticket) = true
has_context (doing.MustBackOff ticket object) = true
has_context (doing.BackedOff ticket object) = true
has_context doing.Idle = false
has_context (doing.Returning k) = false

-- What is held, and what a context that backed off takes first, is an object of the device that has a lock. Who holds one takes
-- locks or must back off. No two contexts have one ticket. A client that returns waits for a commit that is there.
pub record ContextsStand (s : Script) (m : Machine) : Type 0 where
  pub held : (client object : ℕ) → holds m client object ≡ true → has_number (lockable s.topology) object ≡ true
  pub holders : (client object : ℕ) → holds m client object ≡ true → (is_taking (doing_at m client) || must_back_off (doing_at m client))
      ≡ true
  pub taken_first : (client object : ℕ) → contended (doing_at m client) ≡ Some object → has_number (lockable s.topology) object ≡ true
  pub tickets : (a b : ℕ) → has_context (doing_at m a) ≡ true → has_context (doing_at m b) ≡ true → ticket_of (doing_at m a)
      ≡ ticket_of (doing_at m b) → a ≡ b
  pub commits : (client k : ℕ) → returning_of (doing_at m client) ≡ Some k → k < length m.device.commits

-- Look-ups that grew old

-- What a request asks for, and duplicates: there is a lawful world that both are of. So what a check of them answers is right
-- there; and all that the request touches there is in its reach in the present world.
pub record AsksWithinReach (t : Topology) (now : World) (r : Request) (resolved : Resolved) (d : Duplicates) : Type 0 where
  pub world : World
  pub of_request : IsOfRequest t world r resolved d
  pub same_values : world.values ≡ now.values
  pub within : (object : ℕ) → touches t world r object ≡ true → reaches t now r object ≡ true

-- Where a request was resolved with what its labels named after a history, and states were duplicated after more steps, a check
-- asks for objects within the reach of the request then.
abbrev pub OldLookUpsAskWithinReach : Type 0
OldLookUpsAskWithinReach = InEachHistory (λ s h. (steps : List Step) → are_legal s (at s h) steps ≡ true
    → (r : Request) (resolved : Resolved) (d : Duplicates)
    → IsResolved s.topology (look_up (at s h).device.world) r resolved
    → AgreesOld s.topology (run_steps s (at s h) steps).device.world.things (run_steps s (at s h) steps).device.world.values d
    → AsksWithinReach s.topology (run_steps s (at s h) steps).device.world r resolved d)

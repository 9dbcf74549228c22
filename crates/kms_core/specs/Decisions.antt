-- What calls that decide about a request ask for and answer. From: "Atomic Mode Setting"; `drm_atomic.c`,
-- drm_atomic_nonblocking_commit; `drm_atomic_helper.c`, drm_atomic_helper_swap_state. That the look-ups of a request are
-- tried again at its decision is this device's own.
use Rattle.std.specs.Prelude.{◌≡◌, ◌≢◌, ◌⊎◌, ◌||◌, ℕ, ◌+◌, ◌<◌, ◌≤◌, not, Bool, true, false, List, [], ◌∷◌, map, Option, Some, None}
use Rattle.std.specs.Prelude.{if◌then◌else◌}
use Rattle.std.specs.List.{filter_map}
use Rattle.kms_model.specs.declared.replies.Refusal.{Refusal}
use Rattle.kms_model.specs.declared.replies.Reply.{Reply}
use Rattle.kms_model.specs.declared.replies.Step.{Step}
use Rattle.kms_model.specs.declared.replies.Step.TheVariants as step
use Rattle.kms_model.specs.declared.runs.Doing.{Doing}
use Rattle.kms_model.specs.declared.scripts.Assign.{Assign}
use Rattle.kms_model.specs.declared.scripts.Request.{Request}
use Rattle.kms_model.specs.declared.sets.Resolved.{Resolved}
use Rattle.kms_model.specs.declared.states.Checked.{Checked}
use Rattle.kms_model.specs.declared.states.Duplicates.{Duplicates}
use Rattle.kms_model.specs.declared.states.Mask.{Mask}
use Rattle.kms_model.specs.declared.worlds.Look.{Look}
use Rattle.kms_model.specs.declared.worlds.Thing.{Thing}
use Rattle.kms_model.specs.declared.worlds.World.{World}
use Rattle.kms_model.specs.Device.World.{thing_labelled}
use Rattle.kms_model.specs.Machine.Commits.{has_number, lockable}
use Rattle.kms_model.specs.Machine.Effects.{decided, next}
use Rattle.kms_model.specs.Machine.Histories.{legal}
use Rattle.kms_model.specs.Machine.State.{Machine, doing_at, has_value, holds, request_at}
use Rattle.kms_model.specs.Machine.Steps.{is_taking, ticket_taking}
use Rattle.kms_model.specs.Request.Agreement.{AgreesOld}
use Rattle.kms_model.specs.Request.Deciding.{GivesChecked, GivesRefusal, IsOfRequest}
use Rattle.kms_model.specs.Request.Flags.{is_test}
use Rattle.kms_model.specs.Request.Lookups.{label_of, look_of}
use Rattle.kms_model.specs.Request.Refusals.{early_refusal}
use Rattle.kms_model.specs.Request.Resolves.{IsResolved}
use Rattle.kms_model.specs.Request.Sets.{look_in}
use Rattle.kms_model.specs.Request.Touched.{touches}
use Rattle.kms_model.specs.Request.Verdict.{late_in}
use Rattle.kms_wwlock.specs.Standing.{IsClient}
use Rattle.kms_track.specs.Places.{first_below, mask_has, object_at_place}
use Rattle.kms_core.specs.declared.stores.looking.Decided.{Decided}
use Rattle.kms_core.specs.declared.stores.looking.Decided.TheVariants as answer
use Rattle.kms_core.specs.Run.{Run, machine}
use Rattle.kms_core.specs.declared.stores.looking.Stale.{Stale}

-- The client of a ticket

-- a client, counted from 0, that takes locks in the context of a ticket
abbrev pub taker_at : (ℕ → Doing) → ℕ → ℕ → Option ℕ
taker_at doing t index = if has_value t (ticket_taking (doing (index + 1))) then Some (index + 1) else None

abbrev pub number_or_0 : Option ℕ → ℕ
number_or_0 None = 0
number_or_0 (Some n) = n

-- the client, counted from 1, that does so; 0 where there is none
abbrev pub taker_in : (ℕ → Doing) → ℕ → ℕ
taker_in doing t = number_or_0 (first_below (taker_at doing t) 16)

abbrev pub taker : Machine → ℕ → ℕ
taker m t = taker_in (doing_at m) t

-- Look-ups

-- the labels that assignments name, in order
abbrev pub labels_of : List Assign → List ℕ
labels_of assigns = filter_map (λ a. label_of a.value) assigns

-- what each of some labels names among things
abbrev pub looks_at : List Thing → List ℕ → List (ℕ × Look)
looks_at things labels = map (λ label. (label, look_of (thing_labelled things label))) labels

-- a look-up tells what its label names now, or it is the first that does not
abbrev pub IsFirstStale : (ℕ → Look) → List (ℕ × Look) → Option Stale → Type 0
IsFirstStale now [] found = found ≡ None
IsFirstStale now (l ∷ ls) found =
    ((l.1 ≡ now l.0) × IsFirstStale now ls found)
    ⊎ ((l.1 ≢ now l.0) × (found ≡ Some (record { label = l.0; was = l.1; now = now l.0 })))

-- What the calls ask for

abbrev pub world : Run → World
world r = (machine r).device.world

-- A client takes locks for a request in the context of a ticket, and the history was not ended. `used` has what each label
-- of the request named at some time.
pub record IsDeciding (r : Run) (t : ℕ) (used : List (ℕ × Look)) (request : Request) : Type 0 where
  pub client : 1 ≤ taker (machine r) t
  pub at : request_at r.script (machine r) (taker (machine r) t) ≡ Some request
  pub labels : map (λ l. l.0) used ≡ labels_of request.assigns
  pub going : (machine r).stalled ≡ false

-- What the request asks for with `used`, and duplicates of present states: what a check is given.
pub record IsGiven (r : Run) (used : List (ℕ × Look)) (request : Request) (resolved : Resolved) (duplicates : Duplicates) : Type 0 where
  pub asks : IsResolved r.script.topology (look_in used) request resolved
  pub old : AgreesOld r.script.topology (world r).things (world r).values duplicates

-- the first early refusal, with `used`
pub record IsRefusedEarly (r : Run) (used : List (ℕ × Look)) (request : Request) (why : Refusal) : Type 0 where
  pub first : early_refusal r.script.topology (look_in used) request ≡ Some why.0

-- the first late refusal, as a check gives it; the context holds each object of the device that the request touches, as
-- `used` and the duplicates give it
pub record IsRefusedLate (r : Run) (t : ℕ) (used : List (ℕ × Look)) (request : Request) (why : Refusal) : Type 0 where
  pub resolved : Resolved
  pub duplicates : Duplicates
  pub given : IsGiven r used request resolved duplicates
  pub gives : GivesRefusal r.script.topology request resolved duplicates why
  pub holds :
      (w : World) → IsOfRequest r.script.topology w request resolved duplicates
      → (object : ℕ) → has_number (lockable r.script.topology) object ≡ true → touches r.script.topology w request object ≡ true
      → holds (machine r) (taker (machine r) t) object ≡ true

pub record MayRefuse (r : Run) (t : ℕ) (used : List (ℕ × Look)) (why : Refusal) : Type 0 where
  pub request : Request
  pub deciding : IsDeciding r t used request
  pub due : IsRefusedEarly r used request why ⊎ IsRefusedLate r t used request why

-- a client's context holds the object at a place, where it is in a set
abbrev pub held_at : Machine → ℕ → Mask → ℕ → Bool
held_at m client objects p = not (mask_has objects p) || holds m client (object_at_place p)

-- the context of a client holds the objects of a set
abbrev pub HoldsAll : Machine → ℕ → Mask → Type 0
HoldsAll m client mask = (p : ℕ) → p < 28 → mask_has mask p ≡ true → holds m client (object_at_place p) ≡ true

-- What was checked, as a check gives it, which refuses nothing; the context holds what the request touches.
pub record IsAccepted (r : Run) (t : ℕ) (used : List (ℕ × Look)) (request : Request) (resolved : Resolved) (checked : Checked) : Type 0
  where
    pub duplicates : Duplicates
    pub given : IsGiven r used request resolved duplicates
    pub gives : GivesChecked r.script.topology request resolved duplicates checked
    pub passes : (w : World) → IsOfRequest r.script.topology w request resolved duplicates → late_in r.script.topology w request ≡ None
    pub holds : HoldsAll (machine r) (taker (machine r) t) checked.touched

pub record MayTest (r : Run) (t : ℕ) (used : List (ℕ × Look)) (checked : Checked) : Type 0 where
  pub request : Request
  pub deciding : IsDeciding r t used request
  pub resolved : Resolved
  pub accepted : IsAccepted r t used request resolved checked
  pub test : is_test request.flags ≡ true

-- What they answer

-- exactly where a look-up tells something else now, the request is to be decided again, with the first that does; else the
-- answer is the decision
abbrev pub IsDecided : (ℕ → Look) → List (ℕ × Look) → Decided → Decided → Type 0
IsDecided now used decision (answer.Again label was current) = IsFirstStale now used
    (Some (record { label = label; was = was; now = current }))
IsDecided now used decision other = IsFirstStale now used None × (other ≡ decision)

-- the steps that an answer names, of a client, where a step decides
abbrev pub steps_of : ℕ → Step → Decided → List Step
steps_of client decision (answer.Done reply) = decision ∷ []
steps_of client decision (answer.Refused reply) = step.Refuse client ∷ []
steps_of client decision (answer.NotYet object commit) = []
steps_of client decision (answer.Again label was now) = []

-- A step of a client that takes locks is legal, and decides its request with a reply.
pub record Decides (r : Run) (client : ℕ) (step : Step) (reply : Reply) : Type 0 where
  pub number : IsClient client
  pub taking : is_taking (doing_at (machine r) client) ≡ true
  pub legal : legal r.script (machine r) step ≡ true
  pub does : next r.script (machine r) step ≡ decided (machine r) client reply

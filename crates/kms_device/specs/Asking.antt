-- What the calls of a client ask for, of what its pass has seen. From: "KMS Locking", `drm_modeset_lock.c`; "Atomic Mode Setting";
-- `drm_atomic_helper.c`, drm_atomic_helper_swap_state.
use Rattle.std.specs.Prelude.{◌≡◌, ◌≤◌, ◌⊎◌, ℕ, All, Bool, IfSome, is_some, true, false, List, map, slice_get, Option, Some, None}
use Rattle.kms_model.specs.declared.objects.Kind.{Kind}
use Rattle.kms_model.specs.declared.objects.Kind.TheVariants.{Conn, Crtc, Plane}
use Rattle.kms_model.specs.declared.objects.ObjId.{ObjId}
use Rattle.kms_model.specs.declared.objects.Ticket.{Ticket}
use Rattle.kms_model.specs.declared.replies.Refusal.{Refusal}
use Rattle.kms_model.specs.declared.replies.Step.{Step}
use Rattle.kms_model.specs.declared.runs.Doing.TheVariants as doing
use Rattle.kms_model.specs.declared.scripts.Request.{Request}
use Rattle.kms_model.specs.declared.sets.Resolved.{Resolved}
use Rattle.kms_model.specs.declared.states.Both.{Both}
use Rattle.kms_model.specs.declared.states.Checked.{Checked}
use Rattle.kms_model.specs.declared.states.Duplicates.{Duplicates}
use Rattle.kms_model.specs.declared.worlds.Look.{Look}
use Rattle.kms_model.specs.declared.worlds.World.{World}
use Rattle.kms_model.specs.Device.Objects.{exists, first_id, index_of, kind_of, object_id}
use Rattle.kms_model.specs.Device.World.{thing_labelled}
use Rattle.kms_model.specs.Machine.Commits.{has_number, lockable}
use Rattle.kms_model.specs.Machine.State.{doing_at, holds, request_at}
use Rattle.kms_model.specs.Machine.Steps.{is_lockable}
use Rattle.kms_model.specs.Request.Agreement.{AgreesOld}
use Rattle.kms_model.specs.Request.Deciding.{GivesChecked, GivesRefusal, IsOfRequest}
use Rattle.kms_model.specs.Request.Flags.{is_test}
use Rattle.kms_model.specs.Order.Turns.{in_named_group, in_set_group}
use Rattle.kms_model.specs.Request.Lookups.{label_of, look_up}
use Rattle.kms_model.specs.Request.Reach.{reaches, reaching}
use Rattle.kms_model.specs.Request.Resolves.{IsResolved}
use Rattle.kms_model.specs.Request.Sets.{look_in}
use Rattle.kms_model.specs.Request.Touched.{touches}
use Rattle.kms_model.specs.Request.Verdict.{late_in}
use Rattle.kms_histlock.specs.Rules.{IsStart}
use Rattle.kms_core.specs.Decisions.{HoldsAll, IsRefusedEarly, labels_of, world}
use Rattle.kms_core.specs.Run.{Run, machine}
use Rattle.kms_track.specs.InStep.{HasStates}

-- Contexts

-- the context of a client, with a ticket, must back off
pub record ContextMustBackOff (r : Run) (client : ℕ) (t : Ticket) : Type 0 where
  pub object : ObjId
  pub must : doing_at (machine r) client ≡ doing.MustBackOff t object

-- it backed off
pub record ContextBackedOff (r : Run) (client : ℕ) (t : Ticket) : Type 0 where
  pub object : ObjId
  pub off : doing_at (machine r) client ≡ doing.BackedOff t object

-- Locks

-- each object of a kind that is duplicated is one of the device, and a client's context holds it
abbrev pub HoldsEach : {S : Type 0} → Run → ℕ → Kind → List (Option (Both S)) → Type 0
HoldsEach {S = S} r client kind states =
    (index : ℕ) (both : Both S) → slice_get states index ≡ Some (Some both)
    → (exists r.script.topology kind index ≡ true) × (holds (machine r) client (object_id kind index) ≡ true)

-- Duplicates are the states that the locks of a client's context gave, of which it dropped none: it holds each object, which
-- has that state still.
pub record AreOfLocks (r : Run) (client : ℕ) (d : Duplicates) : Type 0 where
  pub crtcs : HoldsEach r client Crtc d.crtcs
  pub planes : HoldsEach r client Plane d.planes
  pub conns : HoldsEach r client Conn d.conns
  pub old : AgreesOld r.script.topology (world r).things (world r).values d

-- a client's context holds each object of the device that is in a group
abbrev pub HoldsGroup : Run → ℕ → (ℕ → Bool) → Type 0
HoldsGroup r client in_group =
    (kind : Kind) (index : ℕ) → is_lockable r.script.topology kind index ≡ true → in_group (object_id kind index) ≡ true
    → holds (machine r) client (object_id kind index) ≡ true

-- a request with those of its assignments that count for its reach: all, where nothing is wrong with it by itself
abbrev pub reaching_part : Run → Request → Request
reaching_part r request = record request { assigns = reaching r.script.topology (world r) request.assigns }

-- a client takes locks for a request in the context of a ticket, and an object of the device has a lock
pub record TakesLocks (r : Run) (client : ℕ) (t : Ticket) (id : ObjId) : Type 0 where
  pub request : Request
  pub taking : doing_at (machine r) client ≡ doing.Taking t
  pub at : request_at r.script (machine r) client ≡ Some request
  pub is_id : first_id (kind_of id.0) ≤ id.0
  pub lockable : is_lockable r.script.topology (kind_of id.0) (index_of id.0) ≡ true

-- Each label of the client's request is made, and the object is in its reach. The context holds whole each group before the first
-- that has the object. The groups are the objects that are set, the CRTCs that are named, and the planes and connectors of CRTCs
-- that need a modeset.
pub record IsNextByGroups (r : Run) (client : ℕ) (t : Ticket) (id : ObjId) : Type 0 where
  pub takes : TakesLocks r client t id
  pub made : All (λ a. IfSome (label_of a.value) (λ label. is_some (thing_labelled (world r).things label) ≡ true)) takes.request.assigns
  pub reached : reaches r.script.topology (world r) takes.request id.0 ≡ true
  pub set : in_set_group (reaching_part r takes.request) id.0 ≡ false → HoldsGroup r client (in_set_group (reaching_part r takes.request))
  pub named :
      in_set_group (reaching_part r takes.request) id.0 ≡ false
      → in_named_group r.script.topology (world r) (reaching_part r takes.request) id.0 ≡ false
      → HoldsGroup r client (in_named_group r.script.topology (world r) (reaching_part r takes.request))

-- What the client's request asks for was resolved with what its labels named after a beginning of the history, and duplicates are the
-- states that the context's locks gave. Wherever that is so the request touches the object, as a check tells.
pub record MayAskFor (r : Run) (client : ℕ) (t : Ticket) (id : ObjId) : Type 0 where
  pub takes : TakesLocks r client t id
  pub early : List Step
  pub begins : IsStart early r.steps
  pub resolved : Resolved
  pub asks : IsResolved r.script.topology (look_up (world (record r { steps = early }))) takes.request resolved
  pub duplicates : Duplicates
  pub taken : AreOfLocks r client duplicates
  pub touched : (w : World) → IsOfRequest r.script.topology w takes.request resolved duplicates
      → touches r.script.topology w takes.request id.0 ≡ true

-- the object is next by the groups, or a check has asked for it
abbrev pub MayLockNext : Run → ℕ → Ticket → ObjId → Type 0
MayLockNext r client t id = IsNextByGroups r client t id ⊎ MayAskFor r client t id

-- Decisions

-- A client takes locks for a request in the context of a ticket. `used` has what each label of the request named at some time.
pub record IsDecidingFor (r : Run) (client : ℕ) (t : Ticket) (used : List (ℕ × Look)) (request : Request) : Type 0 where
  pub taking : doing_at (machine r) client ≡ doing.Taking t
  pub at : request_at r.script (machine r) client ≡ Some request
  pub labels : map (λ l. l.0) used ≡ labels_of request.assigns

-- the first late refusal, as a check gives it with such duplicates; the context holds each object of the device that the
-- request touches
pub record IsRefusedWith (r : Run) (client : ℕ) (used : List (ℕ × Look)) (request : Request) (why : Refusal) : Type 0 where
  pub resolved : Resolved
  pub duplicates : Duplicates
  pub asks : IsResolved r.script.topology (look_in used) request resolved
  pub taken : AreOfLocks r client duplicates
  pub gives : GivesRefusal r.script.topology request resolved duplicates why
  pub holds :
      (w : World) → IsOfRequest r.script.topology w request resolved duplicates
      → (object : ℕ) → has_number (lockable r.script.topology) object ≡ true → touches r.script.topology w request object ≡ true
      → holds (machine r) client object ≡ true

-- a client's request is refused by itself, or with duplicates
pub record MayBeRefused (r : Run) (client : ℕ) (t : Ticket) (used : List (ℕ × Look)) (why : Refusal) : Type 0 where
  pub request : Request
  pub deciding : IsDecidingFor r client t used request
  pub due : IsRefusedEarly r used request why ⊎ IsRefusedWith r client used request why

-- What was checked, as a check gives it with such duplicates, which refuses nothing; the context holds what the request touches.
pub record IsAcceptedWith (r : Run) (client : ℕ) (used : List (ℕ × Look)) (request : Request) (resolved : Resolved) (checked : Checked) :
    Type 0 where
  pub duplicates : Duplicates
  pub asks : IsResolved r.script.topology (look_in used) request resolved
  pub taken : AreOfLocks r client duplicates
  pub gives : GivesChecked r.script.topology request resolved duplicates checked
  pub passes : (w : World) → IsOfRequest r.script.topology w request resolved duplicates → late_in r.script.topology w request ≡ None
  pub holds : HoldsAll (machine r) client checked.touched

-- a client's request is accepted, and it is a test
pub record MayBeTested (r : Run) (client : ℕ) (t : Ticket) (used : List (ℕ × Look)) (checked : Checked) : Type 0 where
  pub request : Request
  pub deciding : IsDecidingFor r client t used request
  pub resolved : Resolved
  pub accepted : IsAcceptedWith r client used request resolved checked
  pub test : is_test request.flags ≡ true

-- it is accepted and is no test; what it touches was duplicated
pub record MayBeSwapped (r : Run) (client : ℕ) (t : Ticket) (used : List (ℕ × Look)) (checked : Checked) (resolved : Resolved) : Type 0
  where
    pub request : Request
    pub deciding : IsDecidingFor r client t used request
    pub accepted : IsAcceptedWith r client used request resolved checked
    pub states : HasStates checked
    pub no_test : is_test request.flags ≡ false

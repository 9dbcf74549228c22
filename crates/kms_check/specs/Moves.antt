-- What a client that takes locks for a request does next. From: "KMS Locking"; "Atomic Mode Setting"; `drm_atomic_uapi.c`,
-- drm_mode_atomic_ioctl. That one object is asked for at a time, the least first, is this device's own.
use Rattle.std.specs.Prelude.{◌≡◌, ◌⊎◌, ℕ, true, List, Option, Some, None, Err, if◌then◌else◌}
use Rattle.std.specs.Option.{option_and_then}
use Rattle.kms_model.specs.declared.objects.ObjId.{ObjId}
use Rattle.kms_model.specs.declared.objects.Topology.{Topology}
use Rattle.kms_model.specs.declared.replies.Refusal.{Refusal}
use Rattle.kms_model.specs.declared.scripts.Request.{Request}
use Rattle.kms_model.specs.declared.sets.Resolved.{Resolved}
use Rattle.kms_model.specs.declared.states.Checked.{Checked}
use Rattle.kms_model.specs.declared.states.Duplicates.{Duplicates}
use Rattle.kms_model.specs.declared.states.Mask.{Mask}
use Rattle.kms_model.specs.declared.worlds.Look.{Look}
use Rattle.kms_model.specs.declared.worlds.World.{World}
use Rattle.kms_model.specs.Machine.Commits.{lockable}
use Rattle.kms_model.specs.Request.Deciding.{GivesChecked, GivesRefusal, IsOfRequest}
use Rattle.kms_model.specs.Request.Refusals.{early_refusal}
use Rattle.kms_model.specs.Request.Resolves.{IsResolved}
use Rattle.kms_model.specs.Request.Sets.{look_in}
use Rattle.kms_model.specs.Request.Touched.{touches}
use Rattle.kms_model.specs.Request.Verdict.{late_in}
use Rattle.kms_model.proofs.Items.{IsIn}
use Rattle.kms_check.specs.Answers.{locks_of, refusal_of}
use Rattle.kms_check.specs.Lacking.{first_lacking}
use Rattle.kms_state.specs.Places.{is_duplicated, old_states}
use Rattle.kms_track.specs.Places.{first_below, mask_has, object_at_place}
use Rattle.kms_check.specs.declared.checking.Refused.{Refused}
use Rattle.kms_check.specs.declared.moving.Move.{Move}
use Rattle.kms_check.specs.declared.moving.Move.TheVariants.{Refuse, Lock, Accept}

-- the id of the object at a place, if a set has it
abbrev pub member_at : Mask → ℕ → Option ℕ
member_at m p = if mask_has m p then Some (object_at_place p) else None

-- the least id of the objects of a set
abbrev pub least_of : Mask → Option ℕ
least_of m = first_below (member_at m) 28

-- the least object that is not duplicated of the first group that is not duplicated whole
abbrev pub least_lacking : Topology → World → Request → Duplicates → Option ℕ
least_lacking t w r d = option_and_then least_of (first_lacking t w r d)

-- In each world that duplicates and what a request asks for are of, each object of the device that it touches is duplicated.
abbrev pub CoversTouched : Topology → Request → Resolved → Duplicates → Type 0
CoversTouched t r resolved d =
    (w : World) → IsOfRequest t w r resolved d
    → (object : ℕ) → IsIn object (lockable t) → touches t w r object ≡ true → is_duplicated d object ≡ true

-- `used` has what each label of a request named at some time

-- an object is asked for: the least of the first group that is not duplicated whole
pub record AsksFor (t : Topology) (r : Request) (used : List (ℕ × Look)) (d : Duplicates) (id : ObjId) : Type 0 where
  pub resolved : Resolved
  pub asks : IsResolved t (look_in used) r resolved
  pub least : (w : World) → IsOfRequest t w r resolved d → least_lacking t w r d ≡ Some id.0

-- the first late refusal, as a check gives it; what the request touches is duplicated
pub record RefusedLate (t : Topology) (r : Request) (used : List (ℕ × Look)) (d : Duplicates) (why : Refusal) : Type 0 where
  pub resolved : Resolved
  pub asks : IsResolved t (look_in used) r resolved
  pub gives : GivesRefusal t r resolved d why
  pub covers : CoversTouched t r resolved d

-- a request is refused by itself, or by the state after it
abbrev pub RefusedBy : Topology → Request → List (ℕ × Look) → Duplicates → Refusal → Type 0
RefusedBy t r used d why = (early_refusal t (look_in used) r ≡ Some why.0) ⊎ RefusedLate t r used d why

-- What was checked, as a check gives it, which refuses nothing; what the request touches is duplicated, and no old state is lost.
pub record AcceptedAs (t : Topology) (r : Request) (used : List (ℕ × Look)) (d : Duplicates) (checked : Checked) (resolved : Resolved) :
    Type 0 where
  pub asks : IsResolved t (look_in used) r resolved
  pub gives : GivesChecked t r resolved d checked
  pub passes : (w : World) → IsOfRequest t w r resolved d → late_in t w r ≡ None
  pub covers : CoversTouched t r resolved d
  pub kept : old_states checked.states ≡ old_states d

-- A check over states does not accept what a request asks for: it tells which objects are lacking, or the first late refusal
-- where none is.
pub record IsRefused (t : Topology) (r : Request) (resolved : Resolved) (d : Duplicates) (refused : Refused) : Type 0 where
  pub locks : (w : World) → IsOfRequest t w r resolved d → locks_of (Err refused) ≡ first_lacking t w r d
  pub refusal : (w : World) → IsOfRequest t w r resolved d → first_lacking t w r d ≡ None
      → refusal_of (Err refused) ≡ late_in t w r

-- a move is the next one
abbrev pub IsMove : Topology → Request → List (ℕ × Look) → Duplicates → Move → Type 0
IsMove t r used d (Refuse why) = RefusedBy t r used d why
IsMove t r used d (Lock id) = AsksFor t r used d id
IsMove t r used d (Accept checked resolved) = AcceptedAs t r used d checked.value resolved

-- What the calls of workers ask for and answer. From: `drm_atomic_helper.c`, commit_work and
-- drm_atomic_helper_commit_tail.
use Rattle.std.specs.Prelude.{ℕ, ◌≡◌, ◌≤◌, ◌<◌, ◌&&◌, ◌⊎◌, Bool, true, false, List, [], ◌∷◌, find, length, slice_index_or, ⊤, Option, Some}
use Rattle.std.specs.Prelude.{None}
use Rattle.kms_model.specs.declared.objects.Kind.{Kind}
use Rattle.kms_model.specs.declared.objects.Kind.TheVariants.{Crtc, Plane}
use Rattle.kms_model.specs.declared.objects.ObjId.{ObjId}
use Rattle.kms_model.specs.declared.objects.Topology.{Topology}
use Rattle.kms_model.specs.declared.replies.Step.{Step}
use Rattle.kms_model.specs.declared.replies.Step.TheVariants as step
use Rattle.kms_model.specs.declared.runs.Latch.{Latch}
use Rattle.kms_model.specs.declared.states.Both.{Both}
use Rattle.kms_model.specs.declared.states.CrtcState.{CrtcState}
use Rattle.kms_model.specs.declared.states.PlaneState.{PlaneState}
use Rattle.kms_model.specs.Device.Objects.{first_id, index_of, kind_of, object_id}
use Rattle.kms_model.specs.Device.Sound.{IsDevice, IsPlaneInRange}
use Rattle.kms_model.specs.Machine.Commits.{has_number, is_all_latched, is_claimed, is_cleaned, is_hw_done}
use Rattle.kms_model.specs.Machine.Histories.{commit_numbers, legal}
use Rattle.kms_model.specs.Machine.State.{Commit, DeviceState, Marks}
use Rattle.kms_model.specs.Machine.Registers.{crtc_register, crtc_words, plane_register, plane_words}
use Rattle.kms_regs.specs.File.{RegisterFile}
use Rattle.kms_regs.specs.StepLaws.{WritesCrtc, WritesPlane}
use Rattle.kms_track.specs.declared.tail.Tail.{Tail}
use Rattle.kms_track.specs.InStep.{IsTrackerOf}
use Rattle.kms_track.specs.Tails.{connector_of}
use Rattle.kms_track.specs.Tracking.{Tracking}
use Rattle.kms_core.specs.Run.{Run, machine}

-- the history was not ended
abbrev pub IsGoing : Run → Type 0
IsGoing r = (machine r).stalled ≡ false

-- Claims

-- the least commit whose claim is legal
abbrev pub first_claim : Run → Option ℕ
first_claim r = find (λ k. legal r.script (machine r) (step.Claim k)) (commit_numbers (machine r))

-- the claim of a commit is legal
abbrev pub MayClaim : Run → ℕ → Type 0
MayClaim r k = legal r.script (machine r) (step.Claim k) ≡ true

abbrev pub claim_steps : Option ℕ → List Step
claim_steps None = []
claim_steps (Some k) = step.Claim k ∷ []

-- a commit that is cleaned, or that fails a test
abbrev pub IsPassedBy : Marks → (ℕ → Bool) → ℕ → Type 0
IsPassedBy marks test k = (has_number marks.cleaned k ≡ true) ⊎ (test k ≡ false)

-- a commit is the first, of so many, that passes a test, but for those that are cleaned
abbrev pub IsFirstOf : Marks → ℕ → (ℕ → Bool) → Option ℕ → Type 0
IsFirstOf marks count test None = (j : ℕ) → j < count → IsPassedBy marks test j
IsFirstOf marks count test (Some k) = (k < count) × (test k ≡ true) × ((j : ℕ) → j < k → IsPassedBy marks test j)

-- it is so for all commits that a tracker stands for
abbrev pub FindsFirstWhere : Tracking → (ℕ → Bool) → Option ℕ → Type 0
FindsFirstWhere v test first =
    (t : Topology) (commits : List Commit) (marks : Marks) (latches : List Latch)
    → IsTrackerOf t commits marks latches v → IsFirstOf marks (length commits) test first

-- commits that a tracker stands for, whose numbers have 32 bits
pub record AreFewCommits (v : Tracking) : Type 0 where
  pub topology : Topology
  pub commits : List Commit
  pub marks : Marks
  pub latches : List Latch
  pub stand : IsTrackerOf topology commits marks latches v
  pub few : length commits < 4294967295

-- Steps of tails

-- all registers of a claimed commit are written and flushed, which was not told, and the history was not ended
abbrev pub MayBeDone : Run → ℕ → Type 0
MayBeDone r k = legal r.script (machine r) (step.HwDone k) ≡ true

-- a commit is claimed and not cleaned, and the history was not ended
pub record MayCleanUp (r : Run) (k : ℕ) : Type 0 where
  pub claimed : is_claimed (machine r).device k ≡ true
  pub kept : is_cleaned (machine r).device k ≡ false
  pub going : IsGoing r

-- its registers are all written and flushed, and it has latched at each CRTC that it names
abbrev pub is_over_in : Topology → DeviceState → List Latch → ℕ → Bool
is_over_in t d latches k = is_hw_done d k && is_all_latched t d latches k

abbrev pub is_commit_over : Run → ℕ → Bool
is_commit_over r k = is_over_in r.script.topology (machine r).device (machine r).records.latches k

-- an answer tells so, of a commit that is not cleaned, of each device that a tracker stands for
abbrev pub TellsOver : Tracking → ℕ → Bool → Type 0
TellsOver v k over =
    (t : Topology) (d : DeviceState) (latches : List Latch)
    → IsDevice t → k < length d.commits → is_cleaned d k ≡ false → IsTrackerOf t d.commits d.marks latches v
    → over ≡ is_over_in t d latches k

abbrev pub cleanup_steps : ℕ → Bool → List Step
cleanup_steps k false = []
cleanup_steps k true = step.Cleanup k ∷ []

-- Writes

abbrev pub write_step : ℕ → ObjId → Step
write_step k id = step.Write k (kind_of id.0) (index_of id.0)

-- the CRTC or the plane is the one that a claimed commit writes next, and the history was not ended
pub record MayWrite (r : Run) (k : ℕ) (id : ObjId) : Type 0 where
  pub is_id : first_id (kind_of id.0) ≤ id.0
  pub is_legal : legal r.script (machine r) (write_step k id) ≡ true

-- the shadow words of a CRTC, and of a plane, are those of the old state that is there
pub record HoldsCrtc (f : RegisterFile) (index : ℕ) (o : Option (Both CrtcState)) : Type 0 where
  pub both : Both CrtcState
  pub there : o ≡ Some both
  pub words : crtc_register f.shadow (object_id Crtc index) ≡ crtc_words (crtc_register f.shadow (object_id Crtc index)).conn both.old

pub record HoldsPlane (f : RegisterFile) (index : ℕ) (o : Option (Both PlaneState)) : Type 0 where
  pub both : Both PlaneState
  pub there : o ≡ Some both
  pub old_range : IsPlaneInRange both.old
  pub new_range : IsPlaneInRange both.new
  pub words : plane_register f.shadow (object_id Plane index) ≡ plane_words both.old

-- the same of an object that a commit's tail has the states of, by its kind
abbrev pub HoldsOld : RegisterFile → Tail → Kind → ℕ → Type 0
HoldsOld f x Crtc index = (index < 4) × HoldsCrtc f index (slice_index_or x.checked.states.crtcs index None)
HoldsOld f x Plane index = (index < 16) × HoldsPlane f index (slice_index_or x.checked.states.planes index None)
HoldsOld f x _ index = ⊥

-- those of the new state are written, where it is there
abbrev pub IsCrtcWritten : RegisterFile → RegisterFile → ℕ → Option (Both CrtcState) → Type 0
IsCrtcWritten old new index o = (both : Both CrtcState) → o ≡ Some both → WritesCrtc old new index (connector_of o) both.new

abbrev pub IsPlaneWritten : RegisterFile → RegisterFile → ℕ → Option (Both PlaneState) → Type 0
IsPlaneWritten old new index o = (both : Both PlaneState) → o ≡ Some both → WritesPlane old new index both.new

abbrev pub IsWritten : RegisterFile → RegisterFile → Tail → Kind → ℕ → Type 0
IsWritten old new x Crtc index = IsCrtcWritten old new index (slice_index_or x.checked.states.crtcs index None)
IsWritten old new x Plane index = IsPlaneWritten old new index (slice_index_or x.checked.states.planes index None)
IsWritten old new x _ index = ⊤

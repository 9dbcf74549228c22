-- What a tracker answers while it stands for a machine.
use Rattle.std.specs.Prelude.{◌≡◌, ℕ, ◌≤◌, ◌<◌, ◌&&◌, [], List, length, Option, None, Some, true, false, is_none}
use Rattle.std.specs.List.{list_all}
use Rattle.kms_model.specs.declared.objects.ObjId.{ObjId}
use Rattle.kms_model.specs.declared.objects.Topology.{Topology}
use Rattle.kms_model.specs.declared.runs.Latch.{Latch}
use Rattle.kms_model.specs.declared.scripts.Request.{Request}
use Rattle.kms_model.specs.declared.states.Mask.{Mask}
use Rattle.kms_model.specs.Firsts.{first_some}
use Rattle.kms_model.specs.Machine.Commits.{has_number, is_cleaned, is_hw_done, previous, second_previous, waited_fences}
use Rattle.kms_model.specs.Machine.Effects.{commit_numbered}
use Rattle.kms_model.specs.Machine.State.{Commit, Machine, Marks, no_marks}
use Rattle.kms_model.specs.Machine.Steps as steps
use Rattle.kms_model.specs.Request.Named.{named}
use Rattle.kms_model.specs.Request.Sets.{obj_id}
use Rattle.kms_model.specs.Request.Touched.{named_by, touches}
use Rattle.kms_signal.specs.FenceSets.{FenceSet, is_made}
use Rattle.kms_signal.specs.InStep.{AreFencesOf}
use Rattle.kms_track.specs.InStep.{IsInStep, IsTrackerOf, IsWithinPlaces, is_of_device}
use Rattle.kms_track.specs.Places.{mask_has, object_at_place}
use Rattle.kms_track.specs.Tracking.{Tracking, busy_of, cleaned_of, no_tracking, not_yet_of, or_other, ready_of, unless, with_object}

-- before the first step
abbrev pub StandsAtFirst : Type 0
StandsAtFirst = (t : Topology) → IsTrackerOf t [] no_marks [] no_tracking

-- room is made
abbrev pub StandsWithRoom : Type 0
StandsWithRoom =
    (t : Topology) (commits : List Commit) (marks : Marks) (latches : List Latch) (v w : Tracking)
    → IsTrackerOf t commits marks latches v → w.count ≡ v.count → w.lasts ≡ v.lasts → w.tails.slots ≡ v.tails.slots
    → IsTrackerOf t commits marks latches w

-- the first commit, from a number on, that is not cleaned, of so many
abbrev pub IsFirstFrom : Marks → ℕ → ℕ → Option ℕ → Type 0
IsFirstFrom marks count from None = (j : ℕ) → from ≤ j → j < count → has_number marks.cleaned j ≡ true
IsFirstFrom marks count from (Some k) =
    (from ≤ k) × (k < count) × (has_number marks.cleaned k ≡ false)
    × ((j : ℕ) → from ≤ j → j < k → has_number marks.cleaned j ≡ true)

-- A number is that of the first commit, from a number on, that is not cleaned, of all commits that a tracker stands for.
abbrev pub FindsFirst : Tracking → ℕ → Option ℕ → Type 0
FindsFirst v from first =
    (t : Topology) (commits : List Commit) (marks : Marks) (latches : List Latch)
    → IsTrackerOf t commits marks latches v → IsFirstFrom marks (length commits) from first

-- `ready` tells whether a claim is legal. The fences stand for the machine's, and those of the commit were made.
abbrev pub TellsClaim : Type 0
TellsClaim =
    (t : Topology) (m : Machine) (v : Tracking) (fences : FenceSet) (k : ℕ)
    → IsInStep t m v → IsWithinPlaces t → AreFencesOf fences m.device.signalled
    → list_all (is_made fences) (waited_fences t m.device.commits k) ≡ true
    → ready_of v fences k ≡ steps.may_claim t m k

-- `is_cleaned` tells whether a commit is cleaned; one that is not set up is not.
abbrev pub TellsCleaned : Type 0
TellsCleaned = (t : Topology) (m : Machine) (v : Tracking) (k : ℕ) → IsInStep t m v → cleaned_of v k ≡ is_cleaned m.device k

-- an object that is pending, where there is one, with the last commit that touched it
abbrev pub busy_answer : Topology → List Commit → Option ℕ → Option (ObjId × ℕ)
busy_answer t commits None = None
busy_answer t commits (Some object) = Some (obj_id object, commit_numbered (previous t commits (length commits) object))

-- `busy`, of the objects that a request touches, tells the first that is pending, with the last commit that touched it.
abbrev pub TellsPending : Type 0
TellsPending =
    (t : Topology) (m : Machine) (v : Tracking) (mask : Mask) (r : Request)
    → IsInStep t m v → IsWithinPlaces t
    → ((p : ℕ) → p < 28 → mask_has mask p ≡ (is_of_device t (object_at_place p) && touches t m.device.world r (object_at_place p)))
    → busy_of v mask ≡ busy_answer t m.device.commits (steps.first_pending t m r)

-- the commit that a swap waits for at a CRTC: its last one where that is not done, else its last but one where that is
-- not cleaned
abbrev pub awaited_commit : Topology → Machine → ℕ → Option ℕ
awaited_commit t m crtc =
    or_other (unless (is_hw_done m.device) (previous t m.device.commits (length m.device.commits) crtc))
    (unless (is_cleaned m.device) (second_previous t m.device.commits (length m.device.commits) crtc))

-- the first CRTC that a request names and at which its swap waits, with the commit
abbrev pub awaited_answer : Topology → Machine → Request → Option (ObjId × ℕ)
awaited_answer t m r = first_some (λ crtc. with_object crtc (awaited_commit t m crtc)) (named t m.device.world r)

-- `not_yet`, of the CRTCs that a request names, tells the first at which its swap waits, with the commit that it waits for.
abbrev pub TellsAwaited : Type 0
TellsAwaited =
    (t : Topology) (m : Machine) (v : Tracking) (r : Request)
    → IsInStep t m v → IsWithinPlaces t → not_yet_of v (named_by t m.device.world r) ≡ awaited_answer t m r

-- It is none exactly where the swap is ready.
abbrev pub TellsReady : Type 0
TellsReady =
    (t : Topology) (m : Machine) (v : Tracking) (r : Request)
    → IsInStep t m v → IsWithinPlaces t → is_none (not_yet_of v (named_by t m.device.world r)) ≡ steps.is_ready t m r

-- When a tracker stands for what a machine has of its commits.
use Rattle.std.specs.Prelude.{◌≡◌, ℕ, ◌-◌, ◌<◌, ◌≤◌, ◌&&◌, nat_lt, Bool, true, false, List, length, is_some, slice_index_or, Option, Some}
use Rattle.std.specs.Prelude.{None, if◌then◌else◌}
use Rattle.kms_model.specs.declared.objects.Kind.TheVariants.{Crtc, Plane, Conn}
use Rattle.kms_model.specs.declared.objects.Topology.{Topology}
use Rattle.kms_model.specs.declared.runs.Latch.{Latch}
use Rattle.kms_model.specs.declared.states.Both.{Both}
use Rattle.kms_model.specs.declared.states.Checked.{Checked}
use Rattle.kms_model.specs.declared.states.CrtcState.{CrtcState}
use Rattle.kms_model.specs.declared.states.PlaneState.{PlaneState}
use Rattle.kms_model.specs.Device.Masks.{has_bit}
use Rattle.kms_model.specs.Device.Objects.{count_of, exists, index_of, kind_of, object_id}
use Rattle.kms_model.specs.Device.Sound.{IsDevice}
use Rattle.kms_model.specs.Machine.Commits.{commit_at, commit_touches, has_flipped, has_latched, has_number, has_pair}
use Rattle.kms_model.specs.Machine.Commits.{is_on_before_or_after, lockable, new_crtc, new_plane, old_plane, old_values, previous}
use Rattle.kms_model.specs.Machine.Commits.{second_previous, thing_made, waited_fences}
use Rattle.kms_model.specs.Machine.State.{Commit, DeviceState, Machine, Marks}
use Rattle.kms_model.specs.Request.Agreement.{crtc_state_at}
use Rattle.kms_model.specs.Request.Deciding.{IsChecked}
use Rattle.kms_model.specs.Request.Flags.{wants_event}
use Rattle.kms_model.specs.Request.Touched.{out_fence_label}
use Rattle.kms_model.specs.Things.Tables.{AreBelow, IsRising}
use Rattle.kms_model.proofs.Items.{IsIn}
use Rattle.kms_track.specs.declared.lasts.Last.{Last}
use Rattle.kms_track.specs.declared.progress.Progress.{Progress}
use Rattle.kms_track.specs.declared.tail.Signals.{Signals}
use Rattle.kms_track.specs.declared.tail.Tail.{Tail}
use Rattle.kms_track.specs.Places.{crtc_id, is_side, mask_has, object_at_place, sides_at}
use Rattle.kms_track.specs.Tails.{fence_ids}
use Rattle.kms_track.specs.Tracking.{Tracking, last_at, tail_of}

-- The device

-- an object is on the device, by its id
abbrev pub is_of_device : Topology → ℕ → Bool
is_of_device t object = exists t (kind_of object) (index_of object)

-- the device is one that a tracker can follow: at most 4 CRTCs, 16 planes and 8 connectors
pub record IsWithinPlaces (t : Topology) : Type 0 where
  pub crtcs : count_of t Crtc ≤ 4
  pub planes : count_of t Plane ≤ 16
  pub conns : count_of t Conn ≤ 8

-- the object at a place is on the device
abbrev pub is_there : Topology → ℕ → Bool
is_there t p =
    if nat_lt p 4 then nat_lt p (count_of t Crtc)
    else (if nat_lt p 20 then nat_lt (p - 4) (count_of t Plane) else nat_lt (p - 20) (count_of t Conn))

-- A commit

-- the id of the out-fence that a commit makes for the CRTC with an index, if any
abbrev pub out_fence_at : Topology → Commit → ℕ → Option ℕ
out_fence_at t c index = thing_made t c (out_fence_label c.request.assigns (object_id Crtc index))

-- what a commit signals where it latches, and its client
pub record AreSignalsOf (t : Topology) (c : Commit) (signals : Signals) : Type 0 where
  pub client : signals.client ≡ c.client
  pub user_data : signals.user_data ≡ c.request.user_data
  pub event : signals.wants_event ≡ wants_event c.request.flags
  pub out_fences : (i : ℕ) → i < 4 → slice_index_or signals.out_fences i None ≡ out_fence_at t c i

-- each object that was checked as touched has both its states
pub record HasStates (checked : Checked) : Type 0 where
  pub crtcs : (i : ℕ) → i < 4 → has_bit checked.touched.crtcs i ≡ true → is_some (slice_index_or checked.states.crtcs i None) ≡ true
  pub planes : (i : ℕ) → i < 16 → has_bit checked.touched.planes i ≡ true → is_some (slice_index_or checked.states.planes i None) ≡ true
  pub conns : (i : ℕ) → i < 8 → has_bit checked.touched.conns i ≡ true → is_some (slice_index_or checked.states.conns i None) ≡ true

-- an object that a commit touches is, before it or after it, on a CRTC of the device
abbrev pub is_on_there : Topology → Commit → ℕ → ℕ → Bool
is_on_there t c object crtc = is_of_device t crtc && is_on_before_or_after (kind_of object) c object crtc

-- What was checked is that of a commit, with the states of what it touches, which tell the CRTCs that each object is on.
pub record IsCheckedFor (t : Topology) (c : Commit) (checked : Checked) : Type 0 where
  pub is : IsChecked t c.world c.request checked
  pub states : HasStates checked
  pub on :
      (p i : ℕ) → p < 28 → i < 4 → mask_has checked.touched p ≡ true
      → is_on_there t c (object_at_place p) (crtc_id i) ≡ is_side (sides_at checked.states p) (crtc_id i)

-- what was done of a commit with a number
pub record IsProgressOf (marks : Marks) (latches : List Latch) (k : ℕ) (p : Progress) : Type 0 where
  pub claimed : p.claimed ≡ has_number marks.claimed k
  pub crtcs : (i : ℕ) → i < 4 → has_bit p.crtcs i ≡ has_pair marks.written k (object_id Crtc i)
  pub planes : (i : ℕ) → i < 16 → has_bit p.planes i ≡ has_pair marks.written k (object_id Plane i)
  pub flushed : (i : ℕ) → i < 4 → has_bit p.flushed i ≡ has_pair marks.flushed k (object_id Crtc i)
  pub done : p.done ≡ has_number marks.done k
  pub latched : (i : ℕ) → i < 4 → has_bit p.latched i ≡ has_latched latches k (object_id Crtc i)

-- a value is the tail of the commit with a number
pub record IsTailOf (t : Topology) (commits : List Commit) (marks : Marks) (latches : List Latch) (k : ℕ) (x : Tail) : Type 0 where
  pub signals : AreSignalsOf t (commit_at t commits k) x.signals
  pub checked : IsCheckedFor t (commit_at t commits k) x.checked
  pub in_fences : fence_ids x.in_fences ≡ waited_fences t commits k
  pub previous_are :
      (p : ℕ) → p < 28 → is_of_device t (object_at_place p) ≡ true
      → slice_index_or x.previous p None ≡ previous t commits k (object_at_place p)
  pub progress : IsProgressOf marks latches k x.progress

-- a commit that is over was claimed, is done, and has flipped for each object that it touches
pub record IsOver (t : Topology) (commits : List Commit) (marks : Marks) (latches : List Latch) (k : ℕ) : Type 0 where
  pub claimed : has_number marks.claimed k ≡ true
  pub done : has_number marks.done k ≡ true
  pub flipped :
      (object : ℕ) → IsIn object (lockable t) → commit_touches t commits k object ≡ true → has_flipped t commits latches k object ≡ true

-- a commit has a tail where it is not cleaned, and else is over
abbrev pub IsKept : Topology → List Commit → Marks → List Latch → ℕ → Option Tail → Type 0
IsKept t commits marks latches k None = (has_number marks.cleaned k ≡ true) × IsOver t commits marks latches k
IsKept t commits marks latches k (Some x) = (has_number marks.cleaned k ≡ false) × IsTailOf t commits marks latches k x

-- nothing was done of a commit with a number
pub record IsUntouched (marks : Marks) (latches : List Latch) (k : ℕ) : Type 0 where
  pub claimed : has_number marks.claimed k ≡ false
  pub written : (object : ℕ) → has_pair marks.written k object ≡ false
  pub flushed : (crtc : ℕ) → has_pair marks.flushed k crtc ≡ false
  pub done : has_number marks.done k ≡ false
  pub latched : (crtc : ℕ) → has_latched latches k crtc ≡ false
  pub cleaned : has_number marks.cleaned k ≡ false

-- All commits

-- the last two commits that touched an object
pub record AreLastOf (t : Topology) (commits : List Commit) (object : ℕ) (last : Last) : Type 0 where
  pub commit : last.commit ≡ previous t commits (length commits) object
  pub before : last.before ≡ second_previous t commits (length commits) object

-- A tracker stands for commits, with what was done of them. Nothing was done of commits that are not set up.
pub record IsTrackerOf (t : Topology) (commits : List Commit) (marks : Marks) (latches : List Latch) (v : Tracking) : Type 0 where
  pub count : v.count ≡ length commits
  pub rising : IsRising v.tails.slots
  pub below : AreBelow (length commits) v.tails.slots
  pub lasts : (p : ℕ) → p < 28 → is_of_device t (object_at_place p) ≡ true → AreLastOf t commits (object_at_place p) (last_at v p)
  pub kept : (k : ℕ) → k < length commits → IsKept t commits marks latches k (tail_of v k)
  pub untouched : (k : ℕ) → length commits ≤ k → IsUntouched marks latches k

abbrev pub IsInStep : Topology → Machine → Tracking → Type 0
IsInStep t m v = IsTrackerOf t m.device.commits m.device.marks m.records.latches v

-- What a tail tells

-- what holds of a tail wherever it is that of a commit of a device
abbrev pub WhereverOf : Tail → (Topology → DeviceState → List Latch → ℕ → Type 0) → Type 0
WhereverOf x holds =
    (t : Topology) (d : DeviceState) (latches : List Latch) (k : ℕ)
    → IsDevice t → IsTailOf t d.commits d.marks latches k x → holds t d latches k

-- the state of a CRTC before a commit
abbrev pub old_crtc : Topology → List Commit → ℕ → ℕ → CrtcState
old_crtc t cs k crtc = let c = commit_at t cs k in crtc_state_at t c.world.things (old_values c) crtc

-- the states of an object before and after a commit
pub record AreStates {S : Type 0} (old new : S) (both : Both S) : Type 0 where
  pub old_is : both.old ≡ old
  pub new_is : both.new ≡ new

-- those of the plane, and of the CRTC, with an index
abbrev pub ArePlaneStates : Topology → DeviceState → ℕ → ℕ → Both PlaneState → Type 0
ArePlaneStates t d k index =
    AreStates (old_plane t d.commits k (object_id Plane index)) (new_plane t d.commits k (object_id Plane index))

abbrev pub AreCrtcStates : Topology → DeviceState → ℕ → ℕ → Both CrtcState → Type 0
AreCrtcStates t d k index =
    AreStates (old_crtc t d.commits k (object_id Crtc index)) (new_crtc t d.commits k (object_id Crtc index))

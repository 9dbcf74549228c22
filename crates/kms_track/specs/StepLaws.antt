-- That a tracker which is told of each step of a machine stands for the machine after it, and what steps take of what is left.
use Rattle.std.specs.Prelude.{◌≡◌, ℕ, ◌+◌, ◌<◌, ◌≤◌, ◌&&◌, true, false, List, length, map, Option, Some, None}
use Rattle.kms_model.specs.declared.objects.Kind.{Kind}
use Rattle.kms_model.specs.declared.objects.Kind.TheVariants.{Crtc, Plane}
use Rattle.kms_model.specs.declared.objects.Topology.{Topology}
use Rattle.kms_model.specs.declared.replies.Step.{Step}
use Rattle.kms_model.specs.declared.replies.Step.TheVariants.{Swap, Claim, Write, Flush, HwDone, Vblank, Cleanup}
use Rattle.kms_model.specs.declared.runs.Latch.{Latch}
use Rattle.kms_model.specs.declared.scripts.Request.{Request}
use Rattle.kms_model.specs.declared.scripts.Script.{Script}
use Rattle.kms_model.specs.declared.states.Checked.{Checked}
use Rattle.kms_model.specs.declared.worlds.World.{World}
use Rattle.kms_model.specs.Device.Objects.{count_of, object_id, ids_of}
use Rattle.kms_model.specs.Device.Sound.{IsDevice, IsLawful}
use Rattle.kms_model.specs.Machine.Commits.{commit_concerns, commit_names, commit_touches, has_latched, is_claimed, is_hw_done, lockable}
use Rattle.kms_model.specs.Machine.Commits.{new_crtc}
use Rattle.kms_model.specs.Machine.Effects.{next}
use Rattle.kms_model.specs.Machine.Histories.{legal}
use Rattle.kms_model.specs.Machine.State.{Commit, DeviceState, Machine, go_at, request_at}
use Rattle.kms_model.specs.Request.Deciding.{IsChecked}
use Rattle.kms_model.specs.Request.Lookups.{look_up}
use Rattle.kms_model.specs.Request.Sets.{in_fences}
use Rattle.kms_model.specs.Request.Touched.{touched_by, touches}
use Rattle.kms_model.specs.Request.Verdict.{verdict}
use Rattle.kms_model.specs.Things.Tables.{IsRising, without_id}
use Rattle.kms_model.proofs.Items.{IsIn}
use Rattle.kms_signal.specs.StepLaws.{leaves_commits, new_commit}
use Rattle.kms_track.specs.declared.progress.Mark.{Mark}
use Rattle.kms_track.specs.declared.progress.Mark.TheVariants as mark
use Rattle.kms_track.specs.declared.tail.Signals.{Signals}
use Rattle.kms_track.specs.declared.tail.Tail.{Tail}
use Rattle.kms_track.specs.InStep.{AreSignalsOf, HasStates, IsCheckedFor, IsInStep, IsTailOf, IsWithinPlaces, is_of_device}
use Rattle.kms_track.specs.Places.{mask_has, object_at_place}
use Rattle.kms_track.specs.Tails.{HasRegisters, IsMark, all_left, is_latch_off, is_step_left, steps_left, wrote_mark}
use Rattle.kms_track.specs.Tracking.{IsSetUp, Tracking, marked, tail_of}

-- Swaps

-- the ids of the in-fences of a commit
abbrev pub waits_of : Topology → Commit → List ℕ
waits_of t c = map (λ f. f.1) (in_fences t (look_up c.world) c.request.assigns)

abbrev pub FollowsSwap : Type 0
FollowsSwap =
    (s : Script) (m : Machine) (client : ℕ) (r : Request) (v w : Tracking) (signals : Signals) (checked : Checked) (fences : List ℕ)
    → request_at s m client ≡ Some r → IsInStep s.topology m v
    → AreSignalsOf s.topology (new_commit m client r) signals → IsCheckedFor s.topology (new_commit m client r) checked
    → waits_of s.topology (new_commit m client r) ≡ fences → IsSetUp v w signals checked fences
    → IsInStep s.topology (next s m (Swap client)) w

-- Tails

-- a legal step of a commit's tail is followed by its mark
abbrev pub Follows : Script → Machine → Step → ℕ → Mark → Type 0
Follows s m step k mark =
    (v : Tracking) → legal s m step ≡ true → IsInStep s.topology m v → IsInStep s.topology (next s m step) (marked v k mark)

abbrev pub FollowsClaim : Type 0
FollowsClaim = (s : Script) (m : Machine) (k : ℕ) → Follows s m (Claim k) k mark.Claimed

-- a CRTC or a plane is written
abbrev pub FollowsWrite : Type 0
FollowsWrite =
    (s : Script) (m : Machine) (k index : ℕ) (kind : Kind)
    → HasRegisters (object_id kind index) → Follows s m (Write k kind index) k (wrote_mark (object_id kind index))

abbrev pub FollowsHwDone : Type 0
FollowsHwDone = (s : Script) (m : Machine) (k : ℕ) → Follows s m (HwDone k) k mark.Done

-- A CRTC that is on after the commit is flushed, and then waits; one that is off latches.
abbrev pub FollowsFlush : Type 0
FollowsFlush =
    (s : Script) (m : Machine) (k index : ℕ)
    → index < 4 → (new_crtc s.topology m.device.commits k (object_id Crtc index)).active ≡ true
    → Follows s m (Flush k Crtc index) k (mark.Flushed index)

abbrev pub FollowsFlushOff : Type 0
FollowsFlushOff =
    (s : Script) (m : Machine) (k index : ℕ) (v : Tracking)
    → index < 4 → (new_crtc s.topology m.device.commits k (object_id Crtc index)).active ≡ false
    → legal s m (Flush k Crtc index) ≡ true → IsInStep s.topology m v
    → IsInStep s.topology (next s m (Flush k Crtc index)) (marked (marked v k (mark.Flushed index)) k (mark.Latched index))

-- A vblank without GO tells nothing; one with GO latches.
abbrev pub FollowsVblank : Type 0
FollowsVblank =
    (s : Script) (m : Machine) (index : ℕ) (v : Tracking)
    → go_at m.device (object_id Crtc index) ≡ None → IsInStep s.topology m v
    → IsInStep s.topology (next s m (Vblank Crtc index)) v

abbrev pub FollowsVblankWithGo : Type 0
FollowsVblankWithGo =
    (s : Script) (m : Machine) (k index : ℕ) (v : Tracking)
    → k < length m.device.commits → index < 4 → go_at m.device (object_id Crtc index) ≡ Some k → IsInStep s.topology m v
    → IsInStep s.topology (next s m (Vblank Crtc index)) (marked v k (mark.Latched index))

-- A commit that is done was claimed, and names each CRTC that concerns an object which it touches.
pub record HasNames (t : Topology) (d : DeviceState) : Type 0 where
  pub done_claimed : (k : ℕ) → is_hw_done d k ≡ true → is_claimed d k ≡ true
  pub named :
      (k object crtc : ℕ) → k < length d.commits → IsIn object (lockable t) → IsIn crtc (ids_of t Crtc)
      → commit_touches t d.commits k object ≡ true → commit_concerns t d.commits k object crtc ≡ true
      → commit_names t d.commits k crtc ≡ true

abbrev pub FollowsCleanup : Type 0
FollowsCleanup =
    (s : Script) (m : Machine) (k : ℕ) (v w : Tracking)
    → legal s m (Cleanup k) ≡ true → HasNames s.topology m.device → IsInStep s.topology m v
    → w.count ≡ v.count → w.lasts ≡ v.lasts → w.tails.slots ≡ without_id v.tails.slots k
    → IsInStep s.topology (next s m (Cleanup k)) w

abbrev pub FollowsTheOthers : Type 0
FollowsTheOthers =
    (s : Script) (m : Machine) (step : Step) (v : Tracking)
    → leaves_commits step ≡ true → IsInStep s.topology m v → IsInStep s.topology (next s m step) v

-- the commit of a step of a tail
abbrev pub commit_of_tail_step : Step → Option ℕ
commit_of_tail_step (Claim k) = Some k
commit_of_tail_step (Write k kind index) = Some k
commit_of_tail_step (Flush k kind index) = Some k
commit_of_tail_step (HwDone k) = Some k
commit_of_tail_step (Cleanup k) = Some k
commit_of_tail_step _ = None

-- A commit whose step is legal was set up.
abbrev pub LegalIsSetUp : Type 0
LegalIsSetUp =
    (s : Script) (m : Machine) (step : Step) (k : ℕ) (v : Tracking)
    → commit_of_tail_step step ≡ Some k → legal s m step ≡ true → IsInStep s.topology m v → k < length m.device.commits

-- What a check gives

-- What was checked of an accepted request, in a lawful world, is what a tracker is told of its commit.
abbrev pub ChecksAreFollowed : Type 0
ChecksAreFollowed =
    (t : Topology) (c : Commit) (checked : Checked)
    → IsDevice t → IsLawful t c.world → verdict t c.world c.request ≡ None
    → IsChecked t c.world c.request checked → HasStates checked → IsCheckedFor t c checked

-- `busy` is asked of the set of the objects that a request touches.
abbrev pub TouchesAreFollowed : Type 0
TouchesAreFollowed =
    (t : Topology) (w : World) (r : Request) (p : ℕ)
    → p < 28 → mask_has (touched_by t w r) p ≡ (is_of_device t (object_at_place p) && touches t w r (object_at_place p))

-- A device that a script can have is one that a tracker can follow.
abbrev pub DevicesAreFollowed : Type 0
DevicesAreFollowed = (t : Topology) → IsDevice t → IsWithinPlaces t

-- What is left of commits

-- the mark of a step of a tail
abbrev pub mark_of : Step → Option Mark
mark_of (Claim k) = Some mark.Claimed
mark_of (Write k Crtc index) = Some (mark.WroteCrtc index)
mark_of (Write k Plane index) = Some (mark.WrotePlane index)
mark_of (Flush k Crtc index) = Some (mark.Flushed index)
mark_of (HwDone k) = Some mark.Done
mark_of _ = None

-- A step of a tail that is legal is left to do.
abbrev pub LegalIsLeft : Type 0
LegalIsLeft =
    (s : Script) (m : Machine) (step : Step) (k : ℕ) (mark : Mark) (x : Tail)
    → commit_of_tail_step step ≡ Some k → mark_of step ≡ Some mark → legal s m step ≡ true → IsDevice s.topology
    → IsTailOf s.topology m.device.commits m.device.marks m.records.latches k x
    → is_step_left mark x ≡ true

-- So is a latch at a CRTC that the commit names, that is on after it, and where it has not latched.
abbrev pub LatchIsLeft : Type 0
LatchIsLeft =
    (t : Topology) (d : DeviceState) (latches : List Latch) (k index : ℕ) (x : Tail)
    → index < count_of t Crtc → commit_names t d.commits k (object_id Crtc index) ≡ true
    → has_latched latches k (object_id Crtc index) ≡ false → (new_crtc t d.commits k (object_id Crtc index)).active ≡ true
    → IsDevice t → IsTailOf t d.commits d.marks latches k x
    → is_step_left (mark.Latched index) x ≡ true

-- A latch at a CRTC that is off after the commit takes none.
abbrev pub LatchIsOff : Type 0
LatchIsOff =
    (t : Topology) (d : DeviceState) (latches : List Latch) (k index : ℕ) (x : Tail)
    → (new_crtc t d.commits k (object_id Crtc index)).active ≡ false
    → IsDevice t → IsTailOf t d.commits d.marks latches k x
    → is_latch_off (mark.Latched index) x ≡ true

-- At most 31 steps are left of a commit, and one at least: its cleanup.
abbrev pub FewAreLeft : Type 0
FewAreLeft = (x : Tail) → (1 ≤ steps_left x) × (steps_left x ≤ 31)

-- A step of a commit that is left leaves one less of all.
abbrev pub MarkTakesOne : Type 0
MarkTakesOne =
    (v : Tracking) (k : ℕ) (mark : Mark) (x : Tail)
    → IsRising v.tails.slots → tail_of v k ≡ Some x → IsMark mark → is_step_left mark x ≡ true
    → all_left (marked v k mark).tails.slots + 1 ≡ all_left v.tails.slots

-- A latch at a CRTC that is off after the commit leaves as many.
abbrev pub MarkTakesNone : Type 0
MarkTakesNone =
    (v : Tracking) (k : ℕ) (mark : Mark) (x : Tail)
    → IsRising v.tails.slots → tail_of v k ≡ Some x → IsMark mark → is_latch_off mark x ≡ true
    → all_left (marked v k mark).tails.slots ≡ all_left v.tails.slots

-- A cleanup leaves what the others have left, which is less.
abbrev pub CleanupTakesAll : Type 0
CleanupTakesAll =
    (v w : Tracking) (k : ℕ) (x : Tail)
    → IsRising v.tails.slots → tail_of v k ≡ Some x → w.tails.slots ≡ without_id v.tails.slots k
    → all_left w.tails.slots + steps_left x ≡ all_left v.tails.slots

-- A commit that is set up adds at most 31.
abbrev pub SetupAddsFew : Type 0
SetupAddsFew =
    (v w : Tracking) (signals : Signals) (checked : Checked) (fences : List ℕ)
    → IsSetUp v w signals checked fences → all_left w.tails.slots ≤ all_left v.tails.slots + 31

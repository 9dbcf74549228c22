-- What is left of the tail of a commit: at most 31 steps, and each of its steps leaves less.
use Rattle.std.specs.Prelude.{◌≡◌, ℕ, zero, suc, ◌+◌, ◌<◌, ◌≤◌, Bool, true, false, ◌&&◌, not, List, length, filter, Option, Some, None}
use Rattle.kms_model.specs.Firsts.{one_if}
use Rattle.kms_model.specs.declared.objects.Kind.TheVariants.{Crtc}
use Rattle.kms_model.specs.declared.objects.Topology.{Topology}
use Rattle.kms_model.specs.declared.replies.Step.{Step}
use Rattle.kms_model.specs.declared.replies.Step.TheVariants.{Claim, Write, Flush, HwDone, Swap, Vblank, Cleanup}
use Rattle.kms_model.specs.declared.runs.Latch.{Latch}
use Rattle.kms_model.specs.Device.Objects.{ids_of, object_id}
use Rattle.kms_model.specs.Machine.Commits.{commit_names, commit_touches, has_latched, has_number, has_pair, registered}
use Rattle.kms_model.specs.Machine.Effects.{next}
use Rattle.kms_model.specs.Machine.Histories.{at}
use Rattle.kms_model.specs.Machine.State.{Commit, Machine, Marks, go_at}
use Rattle.kms_model.specs.Promises.{AtEachStep, InEachHistory}

-- the objects that a commit has still to write, and the CRTCs at which it has still to be flushed, or to latch
abbrev pub unwritten : Topology → List Commit → Marks → ℕ → List ℕ
unwritten t cs marks k = filter (λ object. commit_touches t cs k object && not (has_pair marks.written k object)) (registered t)

abbrev pub unflushed : Topology → List Commit → Marks → ℕ → List ℕ
unflushed t cs marks k = filter (λ crtc. commit_names t cs k crtc && not (has_pair marks.flushed k crtc)) (ids_of t Crtc)

abbrev pub unlatched : Topology → List Commit → List Latch → ℕ → List ℕ
unlatched t cs latches k = filter (λ crtc. commit_names t cs k crtc && not (has_latched latches k crtc)) (ids_of t Crtc)

-- the steps that are left of a commit's tail: its claim, its writes, its flushes, its hw_done, its latches, its cleanup
abbrev pub steps_left : Topology → List Commit → Marks → List Latch → ℕ → ℕ
steps_left t cs marks latches k =
    one_if (not (has_number marks.claimed k))
    + (length (unwritten t cs marks k)
    + (length (unflushed t cs marks k)
    + (one_if (not (has_number marks.done k))
    + (length (unlatched t cs latches k)
    + one_if (not (has_number marks.cleaned k))))))

abbrev pub tail_left : Topology → Machine → ℕ → ℕ
tail_left t m k = steps_left t m.device.commits m.device.marks m.records.latches k

-- the sum of the numbers that belong to so many numbers from one on
abbrev pub sum : (ℕ → ℕ) → ℕ → ℕ → ℕ
sum f from zero = 0
sum f from (suc n) = f from + sum f (from + 1) n

-- of the tails of all commits
abbrev pub all_left : Topology → Machine → ℕ
all_left t m = sum (tail_left t m) 0 (length m.device.commits)

-- the commit of whose tail a step is: a vblank is of that for which its CRTC has GO
abbrev pub commit_of_step : Machine → Step → Option ℕ
commit_of_step m (Claim k) = Some k
commit_of_step m (Write k kind index) = Some k
commit_of_step m (Flush k kind index) = Some k
commit_of_step m (HwDone k) = Some k
commit_of_step m (Cleanup k) = Some k
commit_of_step m (Vblank kind index) = go_at m.device (object_id kind index)
commit_of_step m _ = None

-- of a commit that is there, no step makes more to do, and a step of its tail leaves less
pub record LeavesLess (t : Topology) (before after : Machine) (step : Step) (k : ℕ) : Type 0 where
  pub no_more : tail_left t after k ≤ tail_left t before k
  pub less : commit_of_step before step ≡ Some k → tail_left t after k < tail_left t before k

-- at most 31 steps are left of each tail
abbrev pub TailsAreShort : Type 0
TailsAreShort = InEachHistory (λ s h. (k : ℕ) → tail_left s.topology (at s h) k ≤ 31)

abbrev pub TailsGetShorter : Type 0
TailsGetShorter = AtEachStep (λ s m step. (k : ℕ) → k < length m.device.commits → LeavesLess s.topology m (next s m step) step k)

abbrev pub is_swap : Step → Bool
is_swap (Swap client) = true
is_swap _ = false

-- Of all tails a step of one leaves less. A swap makes a whole tail more at most, and no other step makes more.
pub record LeavesLessInAll (t : Topology) (before after : Machine) (step : Step) : Type 0 where
  pub of_tail : (k : ℕ) → k < length before.device.commits → commit_of_step before step ≡ Some k → all_left t after < all_left t before
  pub of_swap : all_left t after ≤ all_left t before + 31
  pub of_others : is_swap step ≡ false → all_left t after ≤ all_left t before

abbrev pub AllTailsGetShorter : Type 0
AllTailsGetShorter = AtEachStep (λ s m step. LeavesLessInAll s.topology m (next s m step) step)

-- nothing is left of a commit that is cleaned
abbrev pub CleanedTailsAreOver : Type 0
CleanedTailsAreOver = InEachHistory (λ s h. (k : ℕ) → has_number (at s h).device.marks.cleaned k ≡ true → tail_left s.topology (at s h) k
    ≡ 0)

-- Whose a step is, what is counted of a history, and the tail of a commit. From: `drm_vblank.c`, drm_crtc_vblank_count (the counts
-- of CRTCs); `drm_atomic_helper.c`, commit_tail (the order of a tail).
use Rattle.std.specs.Prelude.{ℕ, ◌≤◌, ◌≡◌, ◌&&◌, nat_le, Bool, true, false, List, [], ◌∷◌, ◌++◌, All, Option, Some, None}
use Prim.Native.Nat.{zero-le, suc-le-suc}
use Rattle.kms_model.specs.declared.objects.Kind.{Kind}
use Rattle.kms_model.specs.declared.objects.Kind.TheVariants.{Crtc, Plane}
use Rattle.kms_model.specs.declared.objects.ObjId.{ObjId}
use Rattle.kms_model.specs.declared.objects.Topology.{Topology}
use Rattle.kms_model.specs.declared.replies.Step.{Step}
use Rattle.kms_model.specs.declared.replies.Step.TheVariants.{Cleanup, Flush, HwDone, Stall, Write}
use Rattle.kms_model.specs.Device.Objects.{exists, first_id, kind_of}
use Rattle.kms_model.specs.Machine.Histories.{for_each, is_drained, legal}
use Rattle.kms_model.specs.Promises.{client_of_step}
use Rattle.kms_laws.specs.Blankings.{blankings, is_blanking, one_more_if}
use Rattle.kms_core.specs.Decisions.{number_or_0}
use Rattle.kms_core.specs.Latching.{goes_at}
use Rattle.kms_core.specs.Run.{Run, machine}
use Rattle.kms_core.specs.Work.{write_step}

-- the client whose step it is; 0 for nobody's
abbrev pub owner : Step → ℕ
owner step = number_or_0 (client_of_step step)

-- the end of a dead history
abbrev pub is_stall : Step → Bool
is_stall Stall = true
is_stall _ = false

one_more_if-grows : (b : Bool) (m n : ℕ) → m ≤ n → one_more_if b m ≤ one_more_if b n
one_more_if-grows true m n l = suc-le-suc l
one_more_if-grows false m n l = l

-- a longer history has no fewer
pub blankings-grow : (crtc : ℕ) (xs ys : List Step) → blankings crtc xs ≤ blankings crtc (xs ++ ys)
blankings-grow crtc [] ys = zero-le
blankings-grow crtc (x ∷ xs) ys =
    one_more_if-grows (is_blanking crtc x) (blankings crtc xs) (blankings crtc (xs ++ ys)) (blankings-grow crtc xs ys)

-- no step of a history ends it
abbrev pub NeverEnds : List Step → Type 0
NeverEnds steps = All (λ step. is_stall step ≡ false) steps

-- What is done

-- a step that is done, or none
abbrev pub step_if : Bool → Step → List Step
step_if false step = []
step_if true step = step ∷ []

-- whether the history is drained, where a call found nothing to do
abbrev pub rests_in : {A : Type 0} → Option A → Run → Bool
rests_in None r = is_drained r.script (machine r)
rests_in (Some a) r = false

-- the device has the CRTC with an index, and it latches a commit at its next vblank
abbrev pub blanks_at : Run → ℕ → Bool
blanks_at r crtc = exists r.script.topology Crtc crtc && goes_at r crtc

-- a step is legal next
abbrev pub is_legal : Run → Step → Bool
is_legal r step = legal r.script (machine r) step

-- an object is the CRTC or the plane that a commit writes next
abbrev pub may_write : Run → ℕ → ObjId → Bool
may_write r k id = nat_le (first_id (kind_of id.0)) id.0 && is_legal r (write_step k id)

-- the step of a commit that flushes an object, or else writes it
abbrev pub write_or_flush : Bool → ℕ → Kind → ℕ → Step
write_or_flush true k kind index = Flush k kind index
write_or_flush false k kind index = Write k kind index

-- What a worker may do for a commit that it claimed, in order: the writes of CRTCs and of planes, the flushes, and the end. The
-- first that is legal is the first that is left.
abbrev pub tail_of : Topology → ℕ → List Step
tail_of t k =
    for_each t Crtc (λ kind index. Write k kind index) ++ (for_each t Plane (λ kind index. Write k kind index)
    ++ (for_each t Crtc (λ kind index. Flush k kind index) ++ HwDone k ∷ Cleanup k ∷ []))

-- Which steps one call does by itself, and when an object may be asked for. From: "KMS Locking", `drm_modeset_lock.c`.
use Rattle.std.specs.Prelude.{ℕ, ◌&&◌, not, nat_le, Bool, true, false, List, [], ◌∷◌, Option, Some, None, is_some, if◌then◌else◌}
use Rattle.kms_model.specs.Order.Turns.{lock_step}
use Rattle.kms_model.specs.declared.objects.Kind.TheVariants.{Crtc}
use Rattle.kms_model.specs.declared.objects.ObjId.{ObjId}
use Rattle.kms_model.specs.declared.replies.Step.{Step}
use Rattle.kms_model.specs.declared.replies.Step.TheVariants as step
use Rattle.kms_model.specs.Device.Objects.{first_id}
use Rattle.kms_model.specs.Machine.Histories.{legal}
use Rattle.kms_model.specs.Machine.State.{doing_at}
use Rattle.kms_model.specs.Machine.Steps.{contended}
use Rattle.kms_core.specs.Run.{Run, machine}

-- a call does the step by itself: it takes no lock and decides nothing, and it is told its commit
abbrev pub is_single : Step → Bool
is_single (step.Lock client kind index) = false
is_single (step.Relock client) = false
is_single (step.Refuse client) = false
is_single (step.Test client) = false
is_single (step.Swap client) = false
is_single (step.Claim k) = false
is_single _ = true

-- a client that takes locks may ask for the object, which is free, or an older context holds it
abbrev pub may_ask : Run → ℕ → ObjId → Bool
may_ask r client id = nat_le (first_id Crtc) id.0 && legal r.script (machine r) (lock_step client id.0)

-- the step of a client that asks for an object, where it may
abbrev pub asked_steps : Run → ℕ → ObjId → List Step
asked_steps r client id = if may_ask r client id then lock_step client id.0 ∷ [] else []

-- a client has backed off for an object, and may ask for it again
abbrev pub may_ask_again : Run → ℕ → Bool
may_ask_again r client = not (machine r).stalled && is_some (contended (doing_at (machine r) client))

-- the steps of an answer that is there
abbrev pub steps_if : {A : Type 0} → (A → List Step) → Option A → List Step
steps_if steps None = []
steps_if steps (Some a) = steps a

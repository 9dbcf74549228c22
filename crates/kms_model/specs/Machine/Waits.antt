-- Which clients wait for which. From: "KMS Locking"; the kernel's document on wound/wait mutexes.
use Rattle.std.specs.Prelude.{◌≡◌, ◌≢◌, ℕ, Bool, true, ◌&&◌, not, ◌⊎◌}
use Rattle.kms_model.specs.declared.scripts.Script.{Script}
use Rattle.kms_model.specs.Request.Reach.{reaches}
use Rattle.kms_model.specs.Machine.State.{Machine, doing_at, has_value, holds}
use Rattle.kms_model.specs.Machine.Steps.{contended, may_lock, taking_at}

-- A client that takes locks waits for one that holds an object in its reach, which it may not lock.
abbrev pub waits_at_lock : Script → Machine → ℕ → ℕ → ℕ → Bool
waits_at_lock s m x y object =
    taking_at s m x (λ r. reaches s.topology m.device.world r object) && (holds m y object && not (may_lock s m x object))

-- A client whose context backed off waits for the one that holds the object that it takes first.
abbrev pub waits_at_relock : Machine → ℕ → ℕ → ℕ → Bool
waits_at_relock m x y object = has_value object (contended (doing_at m x)) && holds m y object

-- client x waits for client y
pub record Waits (s : Script) (m : Machine) (x y : ℕ) : Type 0 where
  pub others : x ≢ y
  pub object : ℕ
  pub waits : (waits_at_lock s m x y object ≡ true) ⊎ (waits_at_relock m x y object ≡ true)

-- a way along waits from one client to another
pub data WaitsAlong (s : Script) (m : Machine) : ℕ → ℕ → Type 0 where
  Direct : {x y : ℕ} → Waits s m x y → WaitsAlong s m x y
  Through : {x y z : ℕ} → Waits s m x y → WaitsAlong s m y z → WaitsAlong s m x z

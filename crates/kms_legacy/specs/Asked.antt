-- What the translation of a call answers, and the connectors that a call takes off a CRTC.
use Rattle.std.specs.Prelude.{◌≡◌, ◌<◌, ◌≤◌, ◌^◌, ℕ, Bool, true, ◌&&◌, ◌==◌, not, List, length, IfErr, Option, Some, None, Result, Ok, Err}
use Rattle.std.specs.Prelude.{⊤}
use Rattle.kms_model.specs.declared.legacy.LegacyCall.{LegacyCall}
use Rattle.kms_model.specs.declared.legacy.LegacyCall.TheVariants as call
use Rattle.kms_model.specs.declared.objects.Kind.TheVariants.{Crtc}
use Rattle.kms_model.specs.declared.objects.Mode.{Mode}
use Rattle.kms_model.specs.declared.objects.Topology.{Topology}
use Rattle.kms_model.specs.declared.pictures.FbInfo.{FbInfo}
use Rattle.kms_model.specs.declared.scripts.Request.{Request}
use Rattle.kms_model.specs.Device.Objects.{object_id}
use Rattle.kms_model.specs.Legacy.Translation.{Present, others}
use Rattle.kms_legacy.specs.declared.errors.LegacyError.{LegacyError}
use Rattle.kms_legacy.specs.declared.errors.LegacyError.TheVariants as errors

-- A request exactly where it is stated, and a refusal exactly where that number is; want of memory comes only where a request
-- is stated.
abbrev pub GivesRequest : Result Request LegacyError → Result Request ℕ → Type 0
GivesRequest (Ok r) stated = stated ≡ Ok r
GivesRequest (Err (errors.Refused number)) stated = stated ≡ Err number
GivesRequest (Err errors.NoMemory) stated = IfErr stated (λ number. ⊥)

-- all, or all but one
abbrev pub all_but : Option ℕ → List ℕ → List ℕ
all_but None indices = indices
all_but (Some one) indices = others one indices

-- an index is none that stays
abbrev pub is_other : Option ℕ → ℕ → Bool
is_other None index = true
is_other (Some one) index = not (index == one)

-- a connector is on a CRTC, and none that stays
abbrev pub goes_off : Present → ℕ → Option ℕ → ℕ → Bool
goes_off now crtc but conn = (now.conn_crtc conn == object_id Crtc crtc) && is_other but conn

-- a CRTC's index and a device's planes and connectors are among those of the largest device
pub record IsWithin (t : Topology) (crtc : ℕ) : Type 0 where
  pub few : crtc < 4
  pub planes : length t.planes ≤ 16
  pub conns : length t.conns ≤ 8

-- any call but `setcrtc`
abbrev pub IsNoSetCrtc : LegacyCall → Type 0
IsNoSetCrtc (call.SetCrtc crtc fb x y mode conn) = ⊥
IsNoSetCrtc (call.CrtcOff crtc) = ⊥
IsNoSetCrtc _ = ⊤

-- the numbers of a size have few bits, where there is one
abbrev pub HasModeSize : Option Mode → Type 0
HasModeSize None = ⊤
HasModeSize (Some m) = (m.hdisplay < 2 ^ 16) × (m.vdisplay < 2 ^ 16)

abbrev pub HasFbSize : Option FbInfo → Type 0
HasFbSize None = ⊤
HasFbSize (Some info) = (info.width < 2 ^ 32) × (info.height < 2 ^ 32)

-- What a latch shows.
use Rattle.std.specs.Prelude.{◌≡◌, ◌≢◌, ℕ, ◌<◌, length}
use Rattle.kms_model.specs.Device.Objects.{object_id}
use Rattle.kms_model.specs.declared.objects.Kind.TheVariants.{Crtc, Plane}
use Rattle.kms_model.specs.declared.objects.Topology.{Topology}
use Rattle.kms_model.specs.declared.states.CrtcState.{CrtcState}
use Rattle.kms_model.specs.declared.states.PlaneState.{PlaneState}
use Rattle.kms_model.specs.Machine.Registers.{Registers, decoded_picture, latched_registers, plane_register}
use Rattle.kms_regs.specs.Written.{AreWritten, picture_of_states}

-- a plane is live on one CRTC and in the shadow on another
pub record MovesCrtc (shadow live : Registers) (plane : ℕ) : Type 0 where
  pub live_on_one : (plane_register live plane).crtc ≢ 0
  pub shadow_on_one : (plane_register shadow plane).crtc ≢ 0
  pub on_another : (plane_register live plane).crtc ≢ (plane_register shadow plane).crtc

-- no plane of the device does
abbrev pub NoPlaneMoves : Topology → Registers → Registers → Type 0
NoPlaneMoves t shadow live = (index : ℕ) → index < length t.planes → ¬ MovesCrtc shadow live (object_id Plane index)

-- after a latch at the CRTC with an index its live picture is that of the shadow words
abbrev pub ShowsTheShadow : Topology → Registers → Registers → ℕ → Type 0
ShowsTheShadow t shadow live crtc =
    decoded_picture t (latched_registers t shadow live (object_id Crtc crtc)) (object_id Crtc crtc)
    ≡ decoded_picture t shadow (object_id Crtc crtc)

-- after a latch at the CRTC with an index its live picture is that of the states that were written for it
abbrev pub ShowsWhatWasWritten : Topology → Registers → Registers → ℕ → Type 0
ShowsWhatWasWritten t shadow live crtc =
    (conn : ℕ) (s : CrtcState) (state : ℕ → PlaneState) → AreWritten t shadow crtc conn s state
    → decoded_picture t (latched_registers t shadow live (object_id Crtc crtc)) (object_id Crtc crtc)
    ≡ picture_of_states t (object_id Crtc crtc) state conn s.gamma s.active s.mode

-- the live pictures of the others are as they were
abbrev pub LeavesTheOthers : Topology → Registers → Registers → ℕ → Type 0
LeavesTheOthers t shadow live crtc =
    (other : ℕ) → other ≢ crtc → decoded_picture t (latched_registers t shadow live (object_id Crtc crtc)) (object_id Crtc other)
    ≡ decoded_picture t live (object_id Crtc other)

-- The law, for all registers

abbrev pub LatchShowsTheShadow : Type 0
LatchShowsTheShadow = (t : Topology) (shadow live : Registers) (crtc : ℕ) → ShowsTheShadow t shadow live crtc

abbrev pub LatchShowsWhatWasWritten : Type 0
LatchShowsWhatWasWritten = (t : Topology) (shadow live : Registers) (crtc : ℕ) → ShowsWhatWasWritten t shadow live crtc

abbrev pub LatchLeavesTheOthers : Type 0
LatchLeavesTheOthers =
    (t : Topology) (shadow live : Registers) (crtc : ℕ) → NoPlaneMoves t shadow live → LeavesTheOthers t shadow live crtc

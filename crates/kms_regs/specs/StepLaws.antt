-- What calls make of a register file, and that one which follows each step of a machine stands for the machine after it.
use Rattle.std.specs.Prelude.{◌≡◌, ℕ, ◌+◌, ◌<◌, Bool, true, false, ◌∷◌, Some}
use Rattle.kms_model.specs.Device.Objects.{index_of, object_id}
use Rattle.kms_model.specs.declared.objects.Kind.TheVariants.{Crtc, Plane}
use Rattle.kms_model.specs.declared.objects.Topology.{Topology}
use Rattle.kms_model.specs.declared.replies.Step.{Step}
use Rattle.kms_model.specs.declared.replies.Step.TheVariants.{Write, Flush, Vblank}
use Rattle.kms_model.specs.declared.runs.Latch.{Latch}
use Rattle.kms_model.specs.declared.scripts.Script.{Script}
use Rattle.kms_model.specs.declared.states.CrtcState.{CrtcState}
use Rattle.kms_model.specs.declared.states.PlaneState.{PlaneState}
use Rattle.kms_model.specs.Machine.Commits.{new_connector, new_crtc, new_plane}
use Rattle.kms_model.specs.Machine.Effects.{next}
use Rattle.kms_model.specs.Machine.Registers.{crtc_register, crtc_words, is_on_in, plane_register, plane_words, write_crtc, write_plane}
use Rattle.kms_model.specs.Machine.State.{DeviceState, Machine, count_at, go_at}
use Rattle.kms_regs.specs.Rewritten.{rewrite_crtc, rewrite_plane}
use Rattle.kms_regs.specs.File.{RegisterFile, StandsForDevice, blanked, flushed, latched_picture, with_shadow}

-- What calls make of a register file, for each device that it stands for

-- of the plane with an index the shadow words that differ between two states become those of the second, and no others
abbrev pub RewritesPlane : RegisterFile → RegisterFile → ℕ → PlaneState → PlaneState → Type 0
RewritesPlane old new index before state =
    (t : Topology) (d : DeviceState) → StandsForDevice t d old
    → StandsForDevice t (with_shadow d (rewrite_plane d.shadow (object_id Plane index) (plane_words before) (plane_words state))) new

-- the same of the CRTC with an index, whose words have a connector before and after
abbrev pub RewritesCrtc : RegisterFile → RegisterFile → ℕ → ℕ → ℕ → CrtcState → CrtcState → Type 0
RewritesCrtc old new index conn_before conn before state =
    (t : Topology) (d : DeviceState) → StandsForDevice t d old
    → StandsForDevice t (with_shadow d (rewrite_crtc d.shadow (object_id Crtc index) (crtc_words conn_before before)
    (crtc_words conn state))) new

-- the shadow words of the plane with an index are those of a state
abbrev pub WritesPlane : RegisterFile → RegisterFile → ℕ → PlaneState → Type 0
WritesPlane old new index state =
    (t : Topology) (d : DeviceState) → StandsForDevice t d old
    → StandsForDevice t (with_shadow d (write_plane d.shadow (object_id Plane index) (plane_words state))) new

-- the shadow words of the CRTC with an index are those of a state with a connector
abbrev pub WritesCrtc : RegisterFile → RegisterFile → ℕ → ℕ → CrtcState → Type 0
WritesCrtc old new index conn state =
    (t : Topology) (d : DeviceState) → StandsForDevice t d old
    → StandsForDevice t (with_shadow d (write_crtc d.shadow (object_id Crtc index) (crtc_words conn state))) new

-- the CRTC with an index is flushed, for any commit
abbrev pub Flushes : RegisterFile → RegisterFile → ℕ → Type 0
Flushes old new index =
    (t : Topology) (d : DeviceState) (k : ℕ) → StandsForDevice t d old → StandsForDevice t (flushed t d k (object_id Crtc index)) new

-- the CRTC with an index has a vblank
abbrev pub Blanks : RegisterFile → RegisterFile → ℕ → Type 0
Blanks old new index =
    (t : Topology) (d : DeviceState) → StandsForDevice t d old → StandsForDevice t (blanked t d (object_id Crtc index)) new

-- Steps. A commit writes the new states of what it touches.

abbrev pub FollowsPlaneWrite : Type 0
FollowsPlaneWrite =
    (s : Script) (m : Machine) (k index : ℕ) (old new : RegisterFile)
    → StandsForDevice s.topology m.device old
    → WritesPlane old new index (new_plane s.topology m.device.commits k (object_id Plane index))
    → StandsForDevice s.topology (next s m (Write k Plane index)).device new

abbrev pub FollowsCrtcWrite : Type 0
FollowsCrtcWrite =
    (s : Script) (m : Machine) (k index : ℕ) (old new : RegisterFile)
    → index < 4 → StandsForDevice s.topology m.device old
    → WritesCrtc old new index (new_connector s.topology m.device.commits k (object_id Crtc index))
    (new_crtc s.topology m.device.commits k (object_id Crtc index))
    → StandsForDevice s.topology (next s m (Write k Crtc index)).device new

-- the CRTC is on in its shadow words exactly where it is in the commit's new state
abbrev pub FollowsFlush : Type 0
FollowsFlush =
    (s : Script) (m : Machine) (k index : ℕ) (old new : RegisterFile)
    → is_on_in m.device.shadow (object_id Crtc index) ≡ (new_crtc s.topology m.device.commits k (object_id Crtc index)).active
    → StandsForDevice s.topology m.device old → Flushes old new index
    → StandsForDevice s.topology (next s m (Flush k Crtc index)).device new

abbrev pub FollowsVblank : Type 0
FollowsVblank =
    (s : Script) (m : Machine) (index : ℕ) (old new : RegisterFile)
    → StandsForDevice s.topology m.device old → Blanks old new index
    → StandsForDevice s.topology (next s m (Vblank Crtc index)).device new

-- What a machine records of a latch: a CRTC that is off latches at its flush, and one with GO at its vblank. The
-- picture is that of the calls.

abbrev pub latch_of : Topology → DeviceState → ℕ → ℕ → ℕ → Latch
latch_of t d k crtc count = record { crtc = index_of crtc; commit = k; count = count; picture = latched_picture t d crtc }

abbrev pub FlushIsRecorded : Type 0
FlushIsRecorded =
    (s : Script) (m : Machine) (k index : ℕ)
    → (new_crtc s.topology m.device.commits k (object_id Crtc index)).active ≡ false
    → (next s m (Flush k Crtc index)).records.latches
    ≡ latch_of s.topology m.device k (object_id Crtc index) (count_at m.device (object_id Crtc index)) ∷ m.records.latches

abbrev pub VblankIsRecorded : Type 0
VblankIsRecorded =
    (s : Script) (m : Machine) (k index : ℕ)
    → go_at m.device (object_id Crtc index) ≡ Some k
    → (next s m (Vblank Crtc index)).records.latches
    ≡ latch_of s.topology m.device k (object_id Crtc index) (count_at m.device (object_id Crtc index) + 1) ∷ m.records.latches

-- the steps that leave the registers as they are
abbrev pub keeps_registers : Step → Bool
keeps_registers (Write k kind index) = false
keeps_registers (Flush k kind index) = false
keeps_registers (Vblank kind index) = false
keeps_registers _ = true

abbrev pub FollowsTheOthers : Type 0
FollowsTheOthers =
    (s : Script) (m : Machine) (step : Step) (f : RegisterFile)
    → keeps_registers step ≡ true → StandsForDevice s.topology m.device f → StandsForDevice s.topology (next s m step).device f

-- What the calls ask for, in the machine's words

-- the words of an old state, of which the machine's shadow words are
abbrev pub HoldsOldPlane : Type 0
HoldsOldPlane =
    (t : Topology) (d : DeviceState) (f : RegisterFile) (index : ℕ) (state : PlaneState)
    → StandsForDevice t d f → plane_register d.shadow (object_id Plane index) ≡ plane_words state
    → plane_register f.shadow (object_id Plane index) ≡ plane_words state

-- those of a CRTC, with whatever connector
abbrev pub HoldsOldCrtc : Type 0
HoldsOldCrtc =
    (t : Topology) (d : DeviceState) (f : RegisterFile) (index conn : ℕ) (state : CrtcState)
    → StandsForDevice t d f → crtc_register d.shadow (object_id Crtc index) ≡ crtc_words conn state
    → crtc_register f.shadow (object_id Crtc index) ≡ crtc_words (crtc_register f.shadow (object_id Crtc index)).conn state

-- a CRTC whose words are those of a state is on where the state is
abbrev pub IsOnInWords : Type 0
IsOnInWords =
    (d : DeviceState) (crtc conn : ℕ) (state : CrtcState)
    → crtc_register d.shadow crtc ≡ crtc_words conn state → is_on_in d.shadow crtc ≡ state.active

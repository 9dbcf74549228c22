-- What a register file holds, and when it stands for the registers, GO and counts of a machine.
use Rattle.std.specs.Prelude.{◌≡◌, ℕ, ◌+◌, Bool, false, List, ◌∷◌, length, Option, Some, None, is_some, if◌then◌else◌}
use Rattle.kms_model.specs.Device.Objects.{object_id}
use Rattle.kms_model.specs.declared.objects.Kind.TheVariants.{Crtc}
use Rattle.kms_model.specs.declared.objects.Topology.{Topology}
use Rattle.kms_model.specs.declared.pictures.Picture.{Picture}
use Rattle.kms_model.specs.declared.pictures.Picture.TheVariants.{Off}
use Rattle.kms_model.specs.Machine.Registers.{Registers, decoded_picture, is_on_in, latched_registers, read}
use Rattle.kms_model.specs.Machine.State.{DeviceState, count_at, go_at}
use Rattle.kms_model.specs.Request.Checks.{with_ids}
use Rattle.kms_regs.specs.Words.{ReadSame}

-- what a register file holds, for a device with so many planes
pub record RegisterFile : Type 0 where
  pub planes : ℕ
  pub shadow : Registers
  pub live : Registers
  -- whether a CRTC has GO, and the count of its vblanks, by id
  pub go : List (ℕ × Bool)
  pub counts : List (ℕ × ℕ)

-- a register file of arrays, by index
abbrev pub file_of : ℕ → Registers → Registers → List Bool → List ℕ → RegisterFile
file_of planes shadow live go counts = record {
  planes = planes;
  shadow = shadow;
  live = live;
  go = with_ids (object_id Crtc 0) go;
  counts = with_ids (object_id Crtc 0) counts;
}

-- a CRTC has GO, by id
abbrev pub has_go : RegisterFile → ℕ → Bool
has_go f crtc = read false f.go crtc

-- the count of a CRTC's vblanks, by id
abbrev pub blanking_count : RegisterFile → ℕ → ℕ
blanking_count f crtc = read 0 f.counts crtc

-- a register file holds these registers, GO where a commit has it, and these counts
pub record Holds (t : Topology) (shadow live : Registers) (go : List (ℕ × Option ℕ)) (counts : List (ℕ × ℕ)) (f : RegisterFile) : Type 0
  where
    pub planes : length t.planes ≡ f.planes
    pub shadow_words : ReadSame shadow f.shadow
    pub live_words : ReadSame live f.live
    pub goes : (index : ℕ) → is_some (read None go (object_id Crtc index)) ≡ has_go f (object_id Crtc index)
    pub counted : (index : ℕ) → read 0 counts (object_id Crtc index) ≡ blanking_count f (object_id Crtc index)

-- a register file stands for a machine's device
abbrev pub StandsForDevice : Topology → DeviceState → RegisterFile → Type 0
StandsForDevice t d f = Holds t d.shadow d.live d.go d.counts f

-- What the calls do to a device

-- the shadow words that a worker wrote
abbrev pub with_shadow : DeviceState → Registers → DeviceState
with_shadow d shadow = record d { shadow = shadow }

-- a CRTC latches
abbrev pub latched_device : Topology → DeviceState → ℕ → DeviceState
latched_device t d crtc = record d { live = latched_registers t d.shadow d.live crtc }

-- A flush for a commit: a CRTC that is on in the shadow gets GO, and one that is off latches at once.
abbrev pub flushed : Topology → DeviceState → ℕ → ℕ → DeviceState
flushed t d k crtc = if is_on_in d.shadow crtc then record d { go = (crtc, Some k) ∷ d.go } else latched_device t d crtc

-- a vblank is counted, and takes GO away
abbrev pub counted : DeviceState → ℕ → DeviceState
counted d crtc = record d { counts = (crtc, count_at d crtc + 1) ∷ d.counts; go = (crtc, None) ∷ d.go }

-- a vblank, at which a CRTC with GO latches
abbrev pub blanked : Topology → DeviceState → ℕ → DeviceState
blanked t d crtc = if is_some (go_at d crtc) then latched_device t (counted d crtc) crtc else counted d crtc

-- What the calls answer

-- the picture that a latch shows
abbrev pub latched_picture : Topology → DeviceState → ℕ → Picture
latched_picture t d crtc = decoded_picture t (latched_registers t d.shadow d.live crtc) crtc

-- the picture of a flush: that of a CRTC that is off, which latches at once
abbrev pub flushed_picture : DeviceState → ℕ → Option Picture
flushed_picture d crtc = if is_on_in d.shadow crtc then None else Some Off

-- the picture of a vblank, where the CRTC has GO
abbrev pub blanked_picture : Topology → DeviceState → ℕ → Option Picture
blanked_picture t d crtc = if is_some (go_at d crtc) then Some (latched_picture t d crtc) else None

-- What the states of a CRTC and of planes show, and words that were written for them.
use Rattle.std.specs.Prelude.{◌≡◌, ◌≢◌, ℕ, ◌<◌, Bool, true, false, length, Option, Some, None}
use Rattle.kms_model.specs.Device.Objects.{ids_of, object_id}
use Rattle.kms_model.specs.Device.Sound.{IsPlaneInRange}
use Rattle.kms_model.specs.declared.objects.Kind.TheVariants.{Crtc, Plane}
use Rattle.kms_model.specs.declared.objects.Gamma.{Gamma}
use Rattle.kms_model.specs.declared.objects.Mode.{Mode}
use Rattle.kms_model.specs.declared.objects.Topology.{Topology}
use Rattle.kms_model.specs.declared.pictures.FbInfo.{FbInfo}
use Rattle.kms_model.specs.declared.pictures.Picture.{Picture}
use Rattle.kms_model.specs.declared.pictures.Picture.TheVariants.{Off, On}
use Rattle.kms_model.specs.declared.states.CrtcState.{CrtcState}
use Rattle.kms_model.specs.declared.states.PlaneState.{PlaneState}
use Rattle.kms_model.specs.Frames.Pictures.{layers_with, shown_with}
use Rattle.kms_model.specs.Machine.Registers.{Registers, crtc_register, crtc_words, plane_register, plane_words}
use Rattle.kms_model.specs.Device.GammaBytes.{IsGammaTable}
use Rattle.kms_model.specs.Device.ModeBytes.{AreBytes}
use Rattle.kms_model.specs.Device.ModeRanges.{FitsTypes}

-- a framebuffer, if there is one, has an id
abbrev pub HasId : Option FbInfo → Type 0
HasId None = Unit {0}
HasId (Some fb) = fb.id ≢ 0

-- a plane's state that its words tell
pub record IsWritable (s : PlaneState) : Type 0 where
  pub in_range : IsPlaneInRange s
  pub has_id : HasId s.fb

-- a mode that its words tell: its fields are within their types
pub record IsWritableMode (m : Mode) : Type 0 where
  pub fits : FitsTypes m
  pub name_bytes : AreBytes m.name

-- a CRTC's table, if it has one, is one that its words tell
abbrev pub HasGamma : Option Gamma → Type 0
HasGamma None = Unit {0}
HasGamma (Some g) = IsGammaTable g

-- what a CRTC with a connector, or 0, shows in a state, with the states of planes that a function gives; one that is on
-- has a mode
abbrev pub picture_of_states : Topology → ℕ → (ℕ → PlaneState) → ℕ → Option Gamma → Bool → Option Mode → Picture
picture_of_states t crtc state conn gamma true (Some m) = On (shown_with m conn gamma (layers_with state m crtc (ids_of t Plane)))
picture_of_states t crtc state conn gamma true None = Off
picture_of_states t crtc state conn gamma false mode = Off

-- the mode of a CRTC that is on is there, and its words tell it
abbrev pub HasMode : Bool → Option Mode → Type 0
HasMode true (Some m) = IsWritableMode m
HasMode true None = ⊥
HasMode false mode = Unit {0}

-- the words of the CRTC with an index and of all planes are those of these states
pub record AreWritten (t : Topology) (rs : Registers) (crtc conn : ℕ) (s : CrtcState) (state : ℕ → PlaneState) : Type 0 where
  pub crtc_is : crtc_register rs (object_id Crtc crtc) ≡ crtc_words conn s
  pub mode_is : HasMode s.active s.mode
  pub gamma_is : HasGamma s.gamma
  pub planes_are : (index : ℕ) → index < length t.planes → plane_register rs (object_id Plane index)
      ≡ plane_words (state (object_id Plane index))
  pub states_are : (index : ℕ) → index < length t.planes → IsWritable (state (object_id Plane index))

-- Frames that are kept, with their pictures and digests.
use Rattle.std.specs.Prelude.{◌≡◌, ◌<◌, ◌≤◌, ◌+◌, ◌*◌, ◌⊎◌, ℕ, List, length, take, slice_get, Option, Some}
use Rattle.sha2.specs.declared.Sha256.{Sha256}
use Rattle.sha2.specs.Hashers.{Holds256}
use Rattle.sha2.specs.Sha256.{sha256}
use Rattle.kms_model.specs.declared.pictures.Picture.{Picture}
use Rattle.kms_model.specs.declared.pictures.Picture.TheVariants.{Off, On}
use Rattle.kms_model.specs.declared.worlds.Thing.{Thing}
use Rattle.kms_model.specs.Frames.FrameBytes.{frame_of, word_of}
use Rattle.kms_model.specs.Frames.Shown.{EachCanBeShown}
use Rattle.kms_compose.specs.Changes.{IsSameSize}
use Rattle.kms_compose.specs.Images.{CanShow, word_under}
use Rattle.kms_compose.specs.declared.images.FbImage.{FbImage}
use Rattle.kms_kept_frames.specs.declared.fronts.Fronts.{Fronts}
use Rattle.kms_kept_frames.specs.declared.kept.Drawn.{Drawn}
use Rattle.kms_kept_frames.specs.declared.kept.KeptFrame.{KeptFrame}
use Rattle.kms_kept_frames.specs.declared.screen.Screen.{Screen}

-- Of the states of a frame's digest the first holds the first step of the frame, and each other one holds a step more than the
-- one before it.
pub record AreFronts (f : Fronts) (frame : List ℕ) : Type 0 where
  pub wide : 0 < f.step
  pub fits : length f.states.items * f.step ≤ length frame
  pub each : (k : ℕ) (s : Sha256) → slice_get f.states.items k ≡ Some s → Holds256 s (take ((k + 1) * f.step) frame)

-- A picture can be shown, the frame beside it is its own, of these words of framebuffers, and so are the states of its digest.
pub record IsDrawn (can_show : Picture → Type 0) (words : ℕ → ℕ → ℕ → Option ℕ) (d : Drawn) : Type 0 where
  pub can : can_show d.picture
  pub exact : d.frame ≡ frame_of words d.picture
  pub fronts : AreFronts d.fronts d.frame

-- the same with the frame's digest
pub record IsKeptFrame (can_show : Picture → Type 0) (words : ℕ → ℕ → ℕ → Option ℕ) (k : KeptFrame) : Type 0 where
  pub drawn : IsDrawn can_show words k.drawn
  pub digest : k.digest ≡ sha256 k.drawn.frame

-- what is kept of a CRTC
pub record AreKeptFrames (can_show : Picture → Type 0) (words : ℕ → ℕ → ℕ → Option ℕ) (s : Screen) : Type 0 where
  pub first : IsKeptFrame can_show words s.first
  pub second : IsKeptFrame can_show words s.second

-- over images of framebuffers
abbrev pub IsDrawnOver : List FbImage → Drawn → Type 0
IsDrawnOver images = IsDrawn (CanShow images) (word_under images)

abbrev pub AreKeptFramesOver : List FbImage → Screen → Type 0
AreKeptFramesOver images = AreKeptFrames (CanShow images) (word_under images)

-- over the things of a machine
abbrev pub IsKeptFrameOf : List Thing → KeptFrame → Type 0
IsKeptFrameOf things = IsKeptFrame (EachCanBeShown things) (word_of things)

abbrev pub IsKeptFrameOver : List FbImage → KeptFrame → Type 0
IsKeptFrameOver images = IsKeptFrame (CanShow images) (word_under images)

abbrev pub AreKeptFramesOf : List Thing → Screen → Type 0
AreKeptFramesOf things = AreKeptFrames (EachCanBeShown things) (word_of things)

-- two pictures are on, in modes of one size and with one gamma table, or none
abbrev pub AreOfOneSizeAndTable : Picture → Picture → Type 0
AreOfOneSizeAndTable Off other = ⊥
AreOfOneSizeAndTable (On one) Off = ⊥
AreOfOneSizeAndTable (On one) (On other) = IsSameSize one.mode other.mode × (one.gamma ≡ other.gamma)

-- the picture is this one
abbrev pub IsDrawnOf : Picture → Drawn → Type 0
IsDrawnOf p d = d.picture ≡ p

-- a picture's frame, over images of framebuffers, and its digest
abbrev pub IsRenewed : List FbImage → Picture → KeptFrame → Type 0
IsRenewed images p k = IsKeptFrameOver images k × IsDrawnOf p k.drawn

-- a picture is one of the two
abbrev pub Has : Screen → Picture → Type 0
Has s p = (s.first.drawn.picture ≡ p) ⊎ (s.second.drawn.picture ≡ p)

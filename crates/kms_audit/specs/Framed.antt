-- Digests of pictures that are kept.
use Rattle.std.specs.Prelude.{◌≡◌, ◌<◌, ℕ, List, Some, slice_get}
use Rattle.kms_audit.specs.declared.frames.KeptDigest.{KeptDigest}
use Rattle.kms_audit.specs.declared.frames.LastTwo.{LastTwo}
use Rattle.kms_audit.specs.declared.latches.Showing.{Showing}
use Rattle.kms_model.specs.declared.worlds.Thing.{Thing}
use Rattle.kms_model.specs.Frames.FrameBytes.{frame_bytes}
use Rattle.kms_model.specs.Frames.Shown.{EachCanBeShown}
use Rattle.kms_model.specs.Report.SeenReport.{digest_shown}

-- a picture that can be shown over some things, with the digest of its frame
pub record IsKept (things : List Thing) (k : KeptDigest) : Type 0 where
  pub can : EachCanBeShown things k.picture
  pub digest : k.digest ≡ digest_shown k.picture (frame_bytes things k.picture)

-- the last two of a CRTC
pub record AreKept (things : List Thing) (l : LastTwo) : Type 0 where
  pub later : IsKept things l.later
  pub earlier : IsKept things l.earlier

-- those of each CRTC
abbrev pub AreAllKept : List Thing → Showing → Type 0
AreAllKept things showing = (crtc : ℕ) (l : LastTwo) → crtc < 4 → slice_get showing.kept crtc ≡ Some l → AreKept things l

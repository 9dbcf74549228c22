-- Two strands, which share out the latches of a CRTC.
use Rattle.std.specs.Prelude.{ℕ, ◌==◌, ◌&&◌, Bool, true, false}
use Rattle.kms_model.specs.declared.pictures.Picture.{Picture}
use Rattle.kms_model.specs.declared.pictures.Picture.TheVariants.{Off, On}
use Rattle.kms_model.specs.declared.runs.Latch.{Latch}
use Rattle.kms_kept_frames.specs.declared.strands.Strand.{Strand}
use Rattle.kms_kept_frames.specs.declared.strands.Strand.TheVariants.{First, Second}

-- two strands are the same
abbrev pub is_strand : Strand → Strand → Bool
is_strand First First = true
is_strand First Second = false
is_strand Second First = false
is_strand Second Second = true

-- a picture that is on has a frame
abbrev has_frame : Picture → Bool
has_frame Off = false
has_frame (On shown) = true

-- a latch is one of a CRTC, and on
abbrev pub is_lit : ℕ → Latch → Bool
is_lit crtc l = (l.crtc == crtc) && has_frame l.picture

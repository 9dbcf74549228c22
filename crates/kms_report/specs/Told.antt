-- What a report tells of the latches of a CRTC.
use Rattle.std.specs.Prelude.{ℕ, List, All}
use Rattle.kms_core.specs.Run.{machine}
use Rattle.kms_model.specs.Frames.Shown.{EachCanBeShown}
use Rattle.kms_kept_frames.specs.declared.strands.Strand.{Strand}
use Rattle.kms_report.specs.declared.told.Told.{Told}
use Rattle.kms_report.specs.Images.{things_of}
use Rattle.kms_report.specs.Strands.{strand_digests}
use Rattle.kms_report.specs.Telling.{latches_text}

-- the picture of each latch can be shown over the things of the machine
abbrev pub CanBeTold : Told → Type 0
CanBeTold t = All (λ l. EachCanBeShown (things_of t.core.now) l.picture) t.latches.now

-- the lines of the latches of the CRTC
abbrev pub told_text : Told → List ℕ
told_text t = latches_text (machine t.core.now) t.pixmap t.latches.now t.crtc

-- the digests of a strand, by the strands of the latches
abbrev pub told_digests : Told → Strand → List Strand → List (List ℕ)
told_digests t strand strands = strand_digests (things_of t.core.now) t.crtc strand t.latches.now strands

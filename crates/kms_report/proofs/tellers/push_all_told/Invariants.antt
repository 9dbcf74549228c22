use Rattle.std.proofs.Common.{◌≡◌, ◌++◌, drop, false, take}
use Rattle.kms_core.specs.Run.{machine}
use Rattle.kms_report.specs.Images.{things_of}
use Rattle.kms_report.specs.Strands.{strand_digests}
use Rattle.kms_report.specs.Telling.{latches_text}
use Rattle.kms_kept_frames.specs.declared.strands.Strand.TheVariants.{First, Second}
use Rattle.kms_report.proofs.tellers.push_all_told.Given as goal

abbrev pub invariant-loop-place : goal.invariant-loop-place
invariant-loop-place l = record {
  told : l.text.items ≡ l.initial.text.items ++ latches_text (machine l.core) false (take l.place l.latches) l.crtc;
  first : l.first ≡ strand_digests (things_of l.core) l.crtc First (drop l.place l.latches) (drop l.place l.strands);
  second : l.second ≡ strand_digests (things_of l.core) l.crtc Second (drop l.place l.latches) (drop l.place l.strands);
}

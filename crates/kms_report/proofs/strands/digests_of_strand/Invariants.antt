use Rattle.std.proofs.Common.{◌≡◌, ◌++◌, drop}
use Rattle.kms_report.specs.Images.{things_of}
use Rattle.kms_report.specs.Strands.{strand_digests}
use Rattle.kms_kept_frames.specs.Screens.{AreKeptFramesOf}
use Rattle.kms_report.proofs.strands.digests_of_strand.Given as goal

abbrev pub invariant-loop-place : goal.invariant-loop-place
invariant-loop-place g l = record {
  told : l.digests.items ++ strand_digests (things_of l.told.core.now) l.told.crtc l.strand (drop l.place l.latches)
      (drop l.place l.strands)
      ≡ strand_digests (things_of l.told.core.now) l.told.crtc l.strand l.latches l.strands;
  stands : AreKeptFramesOf (things_of l.told.core.now) l.own;
}

use Rattle.std.proofs.Common.{◌≡◌, ◌++◌, take}
use Rattle.kms_core.specs.Run.{machine}
use Rattle.kms_report.specs.Images.{things_of}
use Rattle.kms_report.specs.Telling.{latches_text}
use Rattle.kms_kept_frames.specs.Screens.{AreKeptFramesOf}
use Rattle.kms_report.proofs.latches.push_after.Given as goal

abbrev pub invariant-loop-place : goal.invariant-loop-place
invariant-loop-place g l = record {
  told : l.text.items ≡ l.initial.text.items ++ latches_text (machine l.core) l.pixmap (take l.place l.latches) l.crtc;
  stands : AreKeptFramesOf (things_of l.core) l.screen;
}

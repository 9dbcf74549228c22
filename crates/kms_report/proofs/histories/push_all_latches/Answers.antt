use Rattle.std.proofs.Common.{arith}
use Rattle.kms_core.specs.Run.{machine}
use Rattle.kms_report.specs.Telling.{latches_text}
use Rattle.kms_report.proofs.Ranges.{appended_range}
use Rattle.kms_report.proofs.histories.push_all_latches.Goals as goal

pub loop-crtc-preserved : goal.loop-crtc-preserved
loop-crtc-preserved g c =
    appended_range (latches_text (machine c.args.core.now) c.args.pixmap c.args.latches.now) c.args.text.now.items _ _ 0 c.loop-crtc.crtc
    c.loop-crtc.crtc (omega arith) c.loop-crtc.invariant c.in_ok-push.ensures

use Rattle.std.proofs.Common.{◌≡◌, ◌++◌}
use Rattle.std.specs.List.{flat_map, range_with_len}
use Rattle.kms_core.specs.Run.{machine}
use Rattle.kms_report.specs.Telling.{latches_text}
use Rattle.kms_report.proofs.histories.push_all_latches.Given as goal

abbrev pub invariant-loop-crtc : goal.invariant-loop-crtc
invariant-loop-crtc g l =
    l.text.items ≡ l.initial.text.items ++ flat_map (latches_text (machine l.core) l.pixmap l.latches) (range_with_len 0 l.crtc)

-- What holds of the CRTCs that are left holds of all.
use Rattle.std.proofs.Common.{◌≡◌, ◌-◌}
use Rattle.std.specs.List.{list_all, range_with_len}
use Rattle.kms_audit.specs.Latching.{track_on}
use Rattle.kms_audit.proofs.latches.Showing.is_all_told.Given as goal

abbrev pub invariant-loop-crtc : goal.invariant-loop-crtc
invariant-loop-crtc l =
    list_all (λ c. (track_on l.self.tracks c).agrees) (range_with_len l.crtc (l.crtcs - l.crtc))
    ≡ list_all (λ c. (track_on l.self.tracks c).agrees) (range_with_len 0 l.crtcs)

-- The CRTCs before this one have shown what they show, the others not yet.
use Rattle.std.proofs.Common.{◌≡◌, ◌<◌, ℕ, ◌&&◌, nat_lt, if◌then◌else◌, length}
use Rattle.kms_audit.specs.Framed.{AreAllKept}
use Rattle.kms_audit.specs.Latching.{AreWithin, pictured_now, track_on, track_with}
use Rattle.kms_model.specs.Device.Masks.{has_bit}
use Rattle.kms_audit.proofs.latches.Showing.show.Given as goal

abbrev pub invariant-loop-crtc : goal.invariant-loop-crtc
invariant-loop-crtc l = record {
  tracks : (c : ℕ) → c < 4 → track_on l.self.tracks c
      ≡ (if nat_lt c l.crtc && has_bit l.named c
      then track_with l.lines c (pictured_now l.serial c l.commit) (track_on l.initial.self.tracks c)
      else track_on l.initial.self.tracks c);
  within : AreWithin (length l.lines) l.self;
  kept : AreAllKept l.serial.world.things l.self;
}

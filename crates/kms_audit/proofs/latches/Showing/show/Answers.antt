use Rattle.std.proofs.Common.{arith, sym, ◌∙◌}
use Rattle.kms_audit.proofs.Shows.{named-there, show-all, show-first, show-one, show-skip}
use Rattle.kms_audit.proofs.latches.Showing.show.Goals as goal

pub loop-crtc-init : goal.loop-crtc-init
loop-crtc-init c = record {
  tracks = show-first c.args.lines.now c.args.serial.now c.args.named c.args.commit c.args.self.now.tracks;
  within = c.requires.within;
  kept = c.requires.kept;
}

pub show_on-requires-clause-there : goal.show_on-requires-clause-there
show_on-requires-clause-there c =
    named-there c.args.serial.now.topology.crtcs c.loop-crtc.crtc c.args.named c.requires.named
    (sym c.has_bit.ensures ∙ c.if-not-has_bit.false)

pub loop-crtc-preserved-then-not-has_bit : goal.loop-crtc-preserved-then-not-has_bit
loop-crtc-preserved-then-not-has_bit c =
    let inv = c.loop-crtc.invariant in
    record {
      tracks =
          show-skip c.args.lines.now c.args.serial.now c.args.named c.args.commit c.args.self.now.tracks c.loop-crtc.crtc
          c.loop-crtc.self.tracks inv.tracks
          (sym c.has_bit.ensures ∙ c.if-not-has_bit.true);
      within = inv.within;
      kept = inv.kept;
    }

pub loop-crtc-preserved : goal.loop-crtc-preserved
loop-crtc-preserved c =
    let inv = c.loop-crtc.invariant in
    let shown = c.in_ok-show_on.ensures in
    record {
      tracks =
          show-one c.args.lines.now c.args.serial.now c.args.named c.args.commit c.args.self.now.tracks c.loop-crtc.crtc
          c.loop-crtc.self.tracks inv.tracks
          (sym c.has_bit.ensures ∙ c.if-not-has_bit.false) (omega arith) c.show_on.new.self.tracks shown.track shown.others;
      within = shown.within;
      kept = shown.kept;
    }

pub returns-clause-tracks : goal.returns-clause-tracks
returns-clause-tracks c =
    show-all c.args.lines.now c.args.serial.now c.args.named c.args.commit c.args.self.now.tracks c.loop-crtc.crtc c.loop-crtc.self.tracks
    c.loop-crtc.invariant.tracks (omega arith)

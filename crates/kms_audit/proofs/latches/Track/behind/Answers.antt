use Rattle.std.proofs.Common.{arith}
use Rattle.std.proofs.lemmas.Bool.{not-false, not-true}
use Rattle.std.proofs.lemmas.Option.{slice_get_past}
use Rattle.kms_audit.proofs.Shows.{line-at, track-apart, track-met, track-past, track-unmet}
use Rattle.kms_audit.specs.Latching.{pictured_now}
use Rattle.kms_audit.proofs.latches.Track.behind.Goals as goal

pub returns-then-not-self-clause-track : goal.returns-then-not-self-clause-track
returns-then-not-self-clause-track c =
    track-apart c.args.lines.now c.args.crtc (pictured_now c.args.serial.now c.args.crtc c.args.commit) c.args.self
    (not-true _ c.if-not-self.true)

pub returns-in_default-clause-track : goal.returns-in_default-clause-track
returns-in_default-clause-track c =
    track-past c.args.lines.now c.args.crtc (pictured_now c.args.serial.now c.args.crtc c.args.commit) c.args.self
    (slice_get_past c.args.lines.now c.args.self.line c.in_default.ensures.lookup.3)

pub returns-then-not-meets-clause-track : goal.returns-then-not-meets-clause-track
returns-then-not-meets-clause-track c =
    track-unmet c.args.lines.now c.args.crtc (pictured_now c.args.serial.now c.args.crtc c.args.commit) c.args.self
    c.in-Some.line.now
    (line-at c.args.lines.now c.args.self.line c.in-Some.line.now c.in-Some.ensures.lookup.3.0 c.in-Some.ensures.lookup.1)
    c.in_ok-meets.meets c.in_ok-meets.ensures.meets c.if-not-meets.true

pub line_from-next-requires : goal.line_from-next-requires
line_from-next-requires c = omega (arith, c.in-Some.ensures.lookup.3.0)

pub returns-clause-track : goal.returns-clause-track
returns-clause-track c =
    track-met c.args.lines.now c.args.crtc (pictured_now c.args.serial.now c.args.crtc c.args.commit) c.args.self
    c.in-Some.line.now
    (line-at c.args.lines.now c.args.self.line c.in-Some.line.now c.in-Some.ensures.lookup.3.0 c.in-Some.ensures.lookup.1)
    c.in_ok-meets.meets c.in_ok-meets.ensures.meets (not-false _ c.if-not-self.false) c.if-not-meets.false c.line_from-next.result
    c.line_from-next.ensures.place

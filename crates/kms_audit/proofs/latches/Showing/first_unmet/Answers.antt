use Rattle.std.proofs.Common.{List, ap, sym, ◌∙◌}
use Rattle.kms_audit.proofs.Tracks.{first_unmet-next}
use Rattle.kms_audit.specs.declared.latches.Track.{Track}
use Rattle.kms_audit.specs.Latching.{first_unmet, track_on, unmet}
use Rattle.kms_audit.specs.Sections.{earliest}
use Rattle.kms_audit.proofs.latches.Showing.first_unmet.Goals as goal

pub loop-crtc-preserved : goal.loop-crtc-preserved
loop-crtc-preserved c =
    let tracks = c.args.self.now.tracks in
    let track = c.track_at-track.ensures ∙ ap (λ (ts : List Track). track_on ts c.loop-crtc.crtc) c.as_slice.ensures in
    c.earliest-first.ensures
    ∙ (ap (λ o. earliest o c.unmet-own.result) c.loop-crtc.invariant
    ∙ (ap (earliest (first_unmet c.args.lines tracks c.loop-crtc.crtc)) (c.unmet-own.ensures ∙ ap (unmet c.args.lines) track)
    ∙ sym (first_unmet-next c.args.lines tracks c.loop-crtc.crtc)))

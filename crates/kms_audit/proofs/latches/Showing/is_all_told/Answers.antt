use Rattle.std.proofs.Common.{List, ap, arith, sym, ◌∙◌}
use Rattle.std.proofs.lemmas.Bool.{not-false, not-true}
use Rattle.kms_audit.proofs.Shows.{all-done, all-step, all-wrong}
use Rattle.kms_audit.specs.declared.latches.Track.{Track}
use Rattle.kms_audit.specs.Latching.{track_on}
use Rattle.kms_audit.proofs.latches.Showing.is_all_told.Goals as goal

pub returns-then-not-track : goal.returns-then-not-track
returns-then-not-track c =
    let track = c.track_at-track.ensures ∙ ap (λ (ts : List Track). track_on ts c.loop-crtc.crtc) c.as_slice.ensures in
    all-wrong (λ n. (track_on c.args.self.now.tracks n).agrees) c.loop-crtc.crtc c.args.crtcs (omega arith)
    (sym (ap (λ (t : Track). t.agrees) track) ∙ not-true _ c.if-not-track.true)
    ∙ c.loop-crtc.invariant

pub loop-crtc-preserved : goal.loop-crtc-preserved
loop-crtc-preserved c =
    let track = c.track_at-track.ensures ∙ ap (λ (ts : List Track). track_on ts c.loop-crtc.crtc) c.as_slice.ensures in
    all-step (λ n. (track_on c.args.self.now.tracks n).agrees) c.loop-crtc.crtc c.args.crtcs (omega arith)
    (sym (ap (λ (t : Track). t.agrees) track) ∙ not-false _ c.if-not-track.false)
    ∙ c.loop-crtc.invariant

pub returns : goal.returns
returns c =
    all-done (λ n. (track_on c.args.self.now.tracks n).agrees) c.loop-crtc.crtc c.args.crtcs (omega arith) ∙ c.loop-crtc.invariant

use Rattle.std.proofs.Common.{List, ap, arith, refl, ◌∙◌}
use Rattle.std.proofs.lemmas.Option.{slice_get-get_or}
use Rattle.kms_audit.proofs.Shows.{kept-set, track-others, track-set, within-set}
use Rattle.kms_audit.specs.declared.latches.Track.{Track}
use Rattle.kms_audit.specs.Latching.{pictured_now, track_on, track_with}
use Rattle.kms_audit.proofs.latches.Showing.show_on.Goals as goal

pub behind-requires-clause-line : goal.behind-requires-clause-line
behind-requires-clause-line c =
    let track = c.track_at-track.ensures ∙ ap (λ (ts : List Track). track_on ts c.args.crtc) c.as_slice.ensures in
    omega (arith, c.requires.within.line c.args.crtc c.requires.few, ap (λ (t : Track). t.line) track)

pub behind-requires-clause-kept : goal.behind-requires-clause-kept
behind-requires-clause-kept c =
    c.requires.kept c.args.crtc _ c.requires.few
    (slice_get-get_or c.args.self.now.kept c.args.crtc _ (omega (arith, c.requires.within.kept, c.requires.few)))

pub returns : goal.returns
returns c =
    let old = c.args.self.now in
    let track = c.track_at-track.ensures ∙ ap (λ (ts : List Track). track_on ts c.args.crtc) c.as_slice.ensures in
    record {
      track =
          track-set old.tracks _ c.args.crtc c.in_ok-next.next (omega (arith, c.requires.within.tracks, c.requires.few)) refl
          ∙ (c.in_ok-next.ensures.track
          ∙ ap (track_with c.args.lines.now c.args.crtc (pictured_now c.args.serial.now c.args.crtc c.args.commit)) track);
      others = λ other few apart. track-others old.tracks _ c.args.crtc c.in_ok-next.next refl other apart;
      within = within-set _ old _ c.args.crtc c.in_ok-next.next c.behind.new.kept c.requires.few c.requires.within refl refl
          c.in_ok-next.ensures.within;
      kept =
          kept-set c.args.serial.now.world.things old.kept _ c.args.crtc c.behind.new.kept
          (omega (arith, c.requires.within.kept, c.requires.few)) refl c.requires.kept
          c.in_ok-next.ensures.kept;
    }

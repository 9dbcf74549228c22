use Rattle.std.proofs.Common.{refl}
use Rattle.kms_audit.proofs.Shows.{four-tracks, kept-first-two, within-first}
use Rattle.kms_audit.proofs.latches.Showing.dark.Goals as goal

pub returns : goal.returns
returns c =
    let tracks =
    four-tracks c.args.lines.now c.new.result c.new-2.result c.new-3.result c.new-4.result c.new.ensures.track
    c.new-2.ensures.track c.new-3.ensures.track
    c.new-4.ensures.track in
    record {
      tracks = tracks;
      within = within-first c.args.lines.now _ refl refl tracks;
      kept = λ things. kept-first-two things c.dark-dark.result _ refl (c.dark-dark.ensures things);
    }

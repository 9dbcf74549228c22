use Rattle.std.proofs.Common.{length}
use Rattle.kms_compose.proofs.Bands.{band_long, band_low}
use Rattle.kms_compose.proofs.threads.fn.SeveralDrawers.draw_bands.par_chunks_mut_for_each.Goals as goal

pub draw_band-requires : goal.draw_band-requires
draw_band-requires c = record {
  parts = c.requires.0;
  narrow = c.requires.3;
  across = c.requires.4;
  low = band_low c.captures.width c.captures.row c.captures.area.now.height c.args.start
      (length c.args.band.now) c.requires.2 c.requires.1 c.requires.6 c.captures.area.now.top c.requires.5;
  long = band_long c.captures.width c.captures.row c.captures.area.now.height c.args.start
      (length c.args.band.now) c.requires.2 c.requires.1 c.requires.6;
}

use Rattle.std.proofs.Common.{rules}
use Rattle.kms_blobs.proofs.modes.front.Goals as goal

pub returns-clause-fits : goal.returns-clause-fits
returns-clause-fits c = record {
  clock = search rules;
  hdisplay = search rules;
  hsync_start = search rules;
  hsync_end = search rules;
  htotal = search rules;
  hskew = search rules;
}

use Rattle.std.proofs.Common.{rules}
use Rattle.kms_blobs.proofs.modes.middle.Goals as goal

pub returns-clause-fits : goal.returns-clause-fits
returns-clause-fits c =
    record { vdisplay = search rules; vsync_start = search rules; vsync_end = search rules; vtotal = search rules; vscan = search rules }

use Rattle.std.proofs.Common.{rules}
use Rattle.kms_blobs.proofs.modes.back.Goals as goal

pub returns-clause-fits : goal.returns-clause-fits
returns-clause-fits c = record { vrefresh = search rules; flags = search rules; kind = search rules; name = search rules }

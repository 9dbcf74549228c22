use Rattle.std.proofs.Common.{arith}
use Rattle.std.proofs.lemmas.Int.{to_z-of_z}
use Rattle.kms_geom.proofs.fits_source.Goals as goal

pub returns-then-ends_within-clause-exact : goal.returns-then-ends_within-clause-exact
returns-then-ends_within-clause-exact c = grind (arith, to_z-of_z)

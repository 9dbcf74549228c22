use Rattle.std.proofs.Common.{arith}
use Rattle.std.proofs.lemmas.Int.{to_z-of_z}
use Rattle.kms_geom.proofs.Pixels.{common, nothing_common}
use Rattle.kms_geom.proofs.clip.Goals as goal

pub returns-clause-exact : goal.returns-clause-exact
returns-clause-exact c = grind (arith, to_z-of_z)

pub returns-clause-common : goal.returns-clause-common
returns-clause-common c = λ x y. rw (returns-clause-exact c) (common c.args.dst c.args.area x y)

pub returns-clause-none : goal.returns-clause-none
returns-clause-none c = rw (returns-clause-exact c) (nothing_common c.args.dst c.args.area)

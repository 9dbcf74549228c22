use Rattle.std.proofs.Common.{arith}
use Rattle.std.proofs.lemmas.Int.{ints, clamps}
use Rattle.kms_geom.proofs.Pixels.{size_fits}
use Rattle.kms_geom.proofs.common_edges.Goals as goal

pub returns-clause-start : goal.returns-clause-start
returns-clause-start c = omega (arith, ints, clamps, c.max.ensures.value)

pub returns-clause-end : goal.returns-clause-end
returns-clause-end c = omega (arith, ints, clamps, c.min.ensures.value)

pub returns-clause-size : goal.returns-clause-size
returns-clause-size c =
    size_fits _ _ _ _ _ _ c.requires.first c.requires.first_size c.requires.second c.requires.second_size
    (returns-clause-start c) (returns-clause-end c)

use Rattle.std.proofs.Common.{sym, ◌∙◌, arith}
use Rattle.kms_compose.proofs.Recomposed.{above_area}
use Rattle.kms_compose.proofs.recomposing.least_row.Goals as goal

pub returns-in-Some-clause-above : goal.returns-in-Some-clause-above
returns-in-Some-clause-above c = λ x y high. sym (c.in-Some.ensures.covers x y) ∙ above_area c.in-Some.area x y (omega (arith, high))

pub returns-in-None-clause-above : goal.returns-in-None-clause-above
returns-in-None-clause-above c = λ x y high. sym (c.in-None.ensures.covers x y)

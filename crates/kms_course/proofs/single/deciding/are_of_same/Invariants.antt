-- the look-ups so far are of the same labels
use Rattle.std.proofs.Common.{◌≡◌, map, take}
use Rattle.kms_course.proofs.single.deciding.are_of_same.Given as goal

abbrev pub invariant-loop-index : goal.invariant-loop-index
invariant-loop-index l = map (λ x. x.0) (take l.index l.used) ≡ map (λ x. x.0) (take l.index l.other)

-- the states so far are duplicated, and the others make the whole
use Rattle.std.proofs.Common.{drop}
use Rattle.kms_course.proofs.Taken.{HasTakenUp}
use Rattle.kms_course.proofs.single.contexts.take_up_all.Given as goal

abbrev pub invariant-loop-object : goal.invariant-loop-object
invariant-loop-object l = HasTakenUp l.fn.core l.fn.context l.fn.objects l.context (drop l.object-index l.objects)

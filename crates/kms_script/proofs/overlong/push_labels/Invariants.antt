use Rattle.std.proofs.Common.{length}
use Rattle.kms_script.proofs.ManyAssigns.{LabelsSoFar}
use Rattle.kms_script.proofs.overlong.push_labels.Given as goal

abbrev pub invariant-reading : goal.invariant-reading
invariant-reading l = LabelsSoFar l.fields l.rest l.fn.numbers.items l.numbers.items

abbrev pub decreases-reading : goal.decreases-reading
decreases-reading l = length l.rest

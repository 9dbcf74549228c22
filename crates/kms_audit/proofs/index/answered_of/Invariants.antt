use Rattle.std.proofs.Common.{take}
use Rattle.kms_audit.specs.Indexed.{AreAnswered}
use Rattle.kms_audit.proofs.index.answered_of.Given as goal

abbrev pub invariant-loop-line : goal.invariant-loop-line
invariant-loop-line l = AreAnswered (take l.line-index l.replies) l.answered

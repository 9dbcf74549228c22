use Rattle.std.proofs.Common.{take}
use Rattle.kms_audit.specs.Eventing.{AreOwed}
use Rattle.kms_audit.proofs.events.owed_of.Given as goal

abbrev pub invariant-loop-line : goal.invariant-loop-line
invariant-loop-line l = AreOwed l.owners (take l.line-index l.lines) l.owed

use Rattle.std.proofs.Common.{take}
use Rattle.kms_audit.specs.Indexed.{AreEntries}
use Rattle.kms_audit.proofs.index.entries_of.Given as goal

abbrev pub invariant-loop-place : goal.invariant-loop-place
invariant-loop-place l = AreEntries (take l.place l.journal) l.entries

use Rattle.kms_audit.specs.Walked.{IsWalk}
use Rattle.kms_audit.proofs.walk.Walk.through.Given as goal

abbrev pub invariant-loop-place : goal.invariant-loop-place
invariant-loop-place l = IsWalk l.script l.report l.place l.self

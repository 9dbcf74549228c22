-- The lines of the clients before this one, which has number `client + 1`, are compared at the place.
use Rattle.kms_audit.specs.Compared.{AreComparedUpTo}
use Rattle.kms_audit.proofs.compared.Compared.compare.Given as goal

abbrev pub invariant-loop-client : goal.invariant-loop-client
invariant-loop-client l = AreComparedUpTo l.script l.report l.place l.client l.self

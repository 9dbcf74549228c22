-- the device stands in a sound world after each line
use Rattle.kms_request_tests.specs.Standing.{Stands}
use Rattle.kms_request_tests.proofs.courses.follow.Given as goal

abbrev pub invariant-loop-line : goal.invariant-loop-line
invariant-loop-line l = record {
  next : (goal.iterator-loop-line).can_next l.line-iterator;
  finite : (goal.iterator-loop-line).is_finite l.line-iterator;
  stands : Stands l.script.topology l.device;
}

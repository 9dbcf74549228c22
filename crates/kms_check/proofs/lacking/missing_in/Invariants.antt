use Rattle.std.proofs.Common.{◌≡◌}
use Rattle.kms_check.specs.Lacking.{missing_in}
use Rattle.kms_check.proofs.lacking.missing_in.Given as goal

abbrev pub invariant-loop-index : goal.invariant-loop-index
invariant-loop-index g l = l.missing ≡ missing_in l.mask l.states l.index

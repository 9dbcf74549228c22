use Rattle.kms_laws.specs.TailsLeft.{all_left}
use Rattle.kms_core.specs.Run.{machine}
use Rattle.kms_one_thread.proofs.Settling.{IsSettling}
use Rattle.kms_one_thread.proofs.turns.settle.Given as goal

abbrev pub invariant-settling : goal.invariant-settling
invariant-settling l = IsSettling l.fn.core l.core

-- what is left of all tails
abbrev pub decreases-settling : goal.decreases-settling
decreases-settling l = all_left l.core.script.topology (machine l.core)

use Rattle.kms_one_thread.specs.Rounds.{moves_left}
use Rattle.kms_one_thread.proofs.Finishing.{IsFinishing}
use Rattle.kms_one_thread.proofs.rounds.finish.Given as goal

abbrev pub invariant-rounds : goal.invariant-rounds
invariant-rounds l = IsFinishing l.fn.core l.core

abbrev pub decreases-rounds : goal.decreases-rounds
decreases-rounds l = moves_left l.core

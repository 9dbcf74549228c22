use Rattle.std.proofs.Common.{◌≡◌, ◌++◌, take, drop}
use Rattle.kms_things.specs.Swapping.{swapped_states}
use Rattle.kms_things.proofs.swapping.swap_all.Given as goal

abbrev pub invariant-loop-both : goal.invariant-loop-both
invariant-loop-both g l = l.states ≡ swapped_states (take l.both-index l.initial.states) ++ drop l.both-index l.initial.states

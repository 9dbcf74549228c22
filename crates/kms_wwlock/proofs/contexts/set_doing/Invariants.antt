use Rattle.std.proofs.Common.{◌≡◌, ◌++◌, map, take, drop}
use Rattle.kms_wwlock.specs.Calls.{with_doing}
use Rattle.kms_wwlock.proofs.contexts.set_doing.Given as goal

abbrev pub invariant-loop-context : goal.invariant-loop-context
invariant-loop-context l = l.contexts ≡ map (with_doing l.t l.doing) (take l.context-index l.initial.contexts)
    ++ drop l.context-index l.initial.contexts

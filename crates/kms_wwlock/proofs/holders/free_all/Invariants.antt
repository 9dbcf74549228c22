use Rattle.std.proofs.Common.{◌≡◌, ◌++◌, map, take, drop}
use Rattle.kms_wwlock.specs.Calls.{holder_without}
use Rattle.kms_wwlock.proofs.holders.free_all.Given as goal

abbrev pub invariant-loop-holder : goal.invariant-loop-holder
invariant-loop-holder l = l.holders ≡ map (holder_without l.t) (take l.holder-index l.initial.holders)
    ++ drop l.holder-index l.initial.holders

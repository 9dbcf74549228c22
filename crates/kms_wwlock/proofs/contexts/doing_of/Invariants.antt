use Rattle.std.proofs.Common.{◌≡◌, drop}
use Rattle.kms_wwlock.specs.Table.{doing_in_contexts}
use Rattle.kms_wwlock.proofs.contexts.doing_of.Given as goal

abbrev pub invariant-loop-context : goal.invariant-loop-context
invariant-loop-context l = doing_in_contexts l.contexts l.t ≡ doing_in_contexts (drop l.context-index l.contexts) l.t

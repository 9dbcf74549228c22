use Rattle.std.proofs.Common.{rules}
use Rattle.kms_things.proofs.SwappedStates.{swap_more}
use Rattle.kms_things.proofs.swapping.swap_all.Goals as goal

pub loop-both-preserved : goal.loop-both-preserved
loop-both-preserved g c = swap_more c.args.states.now c.loop-both.states c.loop-both.both-index _ c.alike_new.result (search rules)
    c.loop-both.invariant c.alike_new.ensures

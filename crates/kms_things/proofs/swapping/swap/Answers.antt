use Rattle.kms_things.proofs.SwappedStates.{swapped_present}
use Rattle.kms_things.proofs.swapping.swap.Goals as goal

pub returns-clause-present : goal.returns-clause-present
returns-clause-present c =
    λ t w r is. rw (c.swap_all.ensures, c.swap_all-2.ensures, c.swap_all-3.ensures) (swapped_present t w r c.args.states.now is)

use Rattle.std.proofs.Common.{◌∙◌}
use Rattle.kms_request.proofs.GroupLemmas.{affected-more}
use Rattle.kms_request.proofs.groups.affected.Goals as goal

pub loop-index-preserved : goal.loop-index-preserved
loop-index-preserved c =
    c.union-affected.ensures
    ∙ rw (c.loop-index.invariant, c.affected_at.ensures)
    (affected-more c.args.states.now.crtcs c.args.crtcs c.loop-index.index)

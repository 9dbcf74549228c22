use Rattle.std.proofs.Common.{length, ◌∙◌}
use Rattle.kms_audit.proofs.Indices.{nothing-lacks, nothing_there}
use Rattle.kms_audit.proofs.index.Lacking.is_nothing.Goals as goal

pub returns : goal.returns
returns c = λ r are.
    nothing_there c.is_empty.result (length c.args.self.now.clients.keys) c.is_empty.ensures.0 c.is_empty.ensures.1
    ∙ nothing-lacks r c.args.self.now are

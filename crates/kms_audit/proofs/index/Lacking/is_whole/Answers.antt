use Rattle.std.proofs.Common.{ap, not, ◌∙◌}
use Rattle.kms_audit.proofs.Indices.{whole_client}
use Rattle.kms_audit.proofs.index.Lacking.is_whole.Goals as goal

pub returns : goal.returns
returns c = λ r are. ap not c.contains.ensures ∙ whole_client r c.args.self.now are c.args.client

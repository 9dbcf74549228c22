use Rattle.std.proofs.Common.{◌∙◌}
use Rattle.kms_audit.proofs.Indices.{indexed_speaker}
use Rattle.kms_audit.proofs.index.Index.speaks.Goals as goal

pub returns : goal.returns
returns c = λ r is. c.contains.ensures ∙ indexed_speaker r c.args.self.now is c.args.client

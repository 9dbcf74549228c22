use Rattle.std.proofs.Common.{◌∙◌}
use Rattle.kms_audit.proofs.Indices.{indexed_answer}
use Rattle.kms_audit.proofs.index.Index.has_answer.Goals as goal

pub returns : goal.returns
returns c = λ r is. c.contains.ensures ∙ indexed_answer r c.args.self.now is c.args.entry

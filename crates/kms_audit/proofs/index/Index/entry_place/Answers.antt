use Rattle.std.proofs.Common.{◌∙◌}
use Rattle.kms_audit.proofs.Indices.{indexed_place}
use Rattle.kms_audit.proofs.index.Index.entry_place.Goals as goal

pub returns : goal.returns
returns c = λ r is. c.copied.ensures ∙ (c.get.ensures.value ∙ indexed_place r c.args.self.now is c.args.a.now)

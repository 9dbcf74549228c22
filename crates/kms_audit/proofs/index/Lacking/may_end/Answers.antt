use Rattle.std.proofs.Common.{ap, sym, ◌&&◌, ◌∙◌}
use Rattle.kms_audit.proofs.Indices.{none_silent}
use Rattle.kms_model.specs.Report.RightAnswers.{no_client_is_silent}
use Rattle.kms_audit.proofs.index.Lacking.may_end.Goals as goal

pub returns-then-is_whole : goal.returns-then-is_whole
returns-then-is_whole c = λ r are.
    none_silent r c.args.self.now are ∙ ap (λ b. b && no_client_is_silent r) (sym (sym (c.is_whole.ensures r are) ∙ c.if-is_whole.true))

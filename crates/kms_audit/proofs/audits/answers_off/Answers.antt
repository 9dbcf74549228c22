use Rattle.std.proofs.Common.{List, [], ap, ◌∙◌, map}
use Rattle.kms_audit.proofs.Whole.{first-answer}
use Rattle.kms_audit.specs.Eventing.{ReplyFields}
use Rattle.kms_audit.specs.Sections.{comes_behind, earliest}
use Rattle.kms_model.specs.Report.RightAnswers.{answer_from, first_off}
use Rattle.kms_audit.proofs.audits.answers_off.Goals as goal

pub returns : goal.returns
returns c = λ s audited walked.
    let r = c.args.report.now in
    let behind =
    c.boundary_off-boundary.ensures r audited.lacking
    ∙ ap (λ (xs : List ReplyFields). first_off (comes_behind r) [] (map answer_from xs)) c.as_slice-replies.ensures.value in
    c.earliest.ensures
    ∙ (ap (earliest c.args.of.now.ordered.cut) c.earliest-later.ensures
    ∙ first-answer s r c.args.of.now.ordered c.args.walk.now.compared c.boundary_off-boundary.result audited.ordered walked.compared behind)

use Rattle.std.proofs.Common.{ap, refl, true, ◌∙◌}
use Rattle.kms_audit.proofs.Ending.{all-latched, end-as, end-drained}
use Rattle.kms_model.proofs.TouchedLemmas.{few_objects}
use Rattle.kms_model.specs.Report.Right.{label_is_of_fence}
use Rattle.kms_audit.proofs.ends.end_is_right.Goals as goal

pub is_all_told-told-requires : goal.is_all_told-told-requires
is_all_told-told-requires c = (few_objects c.args.script.now.topology c.requires.device).crtcs

pub returns-in-Drained : goal.returns-in-Drained
returns-in-Drained c = λ behind whole told.
    let s = c.args.script.now in
    let r = c.args.report.now in
    end-drained s r c.all_is_answered-answered.result c.is_all_told-told.result c.in-Drained.is (c.all_is_answered-answered.ensures r whole)
    (c.is_all_told-told.ensures ∙ all-latched s r c.args.showing.now told) _ refl

pub returns-in-Stalled : goal.returns-in-Stalled
returns-in-Stalled c = λ behind whole told.
    end-as c.args.script.now c.args.report.now _ c.label_is_of_fence.result c.in-Stalled.is
    (c.label_is_of_fence.ensures c.args.report.now behind
    ∙ ap (label_is_of_fence c.args.script.now c.args.report.now) c.as_slice.ensures.value)

pub returns-in-Open : goal.returns-in-Open
returns-in-Open c = λ behind whole told. end-as c.args.script.now c.args.report.now _ true c.in-Open.is refl
